-- The log of a buffer: what its disk's files and its write buffer are together.
use Rattle.std.specs.Prelude.{◌≡◌, ◌≢◌, ℕ, ◌+◌, ◌*◌, ◌<◌, ◌^◌, ◌==◌, ◌⊎◌, not, nat_le, if◌then◌else◌, Bool, true, Some, None, List, [], ◌∷◌, ◌++◌, length}
use Rattle.std.specs.Map.{lookup}
use Rattle.std.specs.List.{filter}
use Rattle.je_disk.specs.States.{State, Files, content}
use Rattle.log_entry.specs.declared.entry.Entry.{Entry}
use Rattle.log_entry.specs.Body.{IsEntry}
use Rattle.log_entry.specs.Encoding.{encoding}
use Rattle.log_entry.specs.Prefix.{last_from}
use Rattle.log_file.specs.Scan.{sizes_of}
use Rattle.log_file.specs.Log.{Log, IsLog, file_bytes, files_of_log}
use Rattle.log_buffer.specs.declared.buffer.LogBuffer.{LogBuffer}
use Rattle.log_buffer.specs.Flip.{header_size}
use Rattle.log_buffer.specs.Buffer.{file_of, offset_of, last_of, first_of, written_of, flushed_len_of, unwritten_of, joined}

-- a log with an entry more, at the end of this file, which begins where it is not there
abbrev pub log_with : ℕ → Entry → Log → Log
log_with f entry [] = (f, entry ∷ []) ∷ []
log_with f entry (file ∷ log) = if file.0 == f then (f, file.1 ++ entry ∷ []) ∷ log else file ∷ log_with f entry log

-- a log without a file
abbrev pub log_without : ℕ → Log → Log
log_without f log = filter (λ file. not (file.0 == f)) log

-- a file of a log alone
abbrev pub log_of : ℕ → Log → Log
log_of f log = filter (λ file. file.0 == f) log

-- a log up to a file, with it
abbrev pub log_upto : ℕ → Log → Log
log_upto f log = filter (λ file. nat_le file.0 f) log

-- the log's last file is this one; it ends at the offset, and its last entry begins at `last`
pub record EndsAt (log : Log) (file offset last : ℕ) : Type 0 where
  pub before : Log
  pub entries : List Entry
  pub log_is : log ≡ before ++ (file, entries) ∷ []
  pub offset_is : offset ≡ header_size + sizes_of entries
  pub last_is : last ≡ last_from 0 header_size entries

-- a file has nothing on the disk, or its header and the first of the log's entries there, whole
pub record IsFront (log : Log) (f : ℕ) (bytes : List ℕ) : Type 0 where
  pub entries : List Entry
  pub more : List Entry
  pub in_log : lookup (λ n. n == f) log ≡ Some (entries ++ more)
  pub bytes_are : (bytes ≡ []) ⊎ (bytes ≡ file_bytes f entries)

-- over a disk in this state the buffer has this log: what a file reads as and what the write buffer has for it are the file's bytes
pub record HasLog {D : Type 0} (observable : Bool) (state : State) (buffer : LogBuffer D) (log : Log) : Type 0 where
  pub is_log : IsLog log
  pub ends : EndsAt log (file_of buffer) (offset_of buffer) (last_of buffer)
  pub observed : observable ≡ true → (f : ℕ) → joined (state.reads f) (unwritten_of buffer f) ≡ files_of_log log f
  pub flushed_len : observable ≡ true → written_of buffer ≡ first_of buffer → flushed_len_of buffer ≡ length (content state.reads (first_of buffer))
  -- a file that begins in the write buffer is not on the disk
  pub ahead : observable ≡ true → (f : ℕ) → first_of buffer < f → state.reads f ≡ None
  pub front : observable ≡ true → written_of buffer ≡ first_of buffer → IsFront log (first_of buffer) (content state.reads (first_of buffer))

-- the files are this log's, as the disk reads them
abbrev pub ReadAs : Bool → Files → Log → Type 0
ReadAs observable reads log = observable ≡ true → (f : ℕ) → reads f ≡ files_of_log log f

-- the files are this log's, but for one that has no bytes or is not there
abbrev pub ReadAsBut : Bool → ℕ → Files → Log → Type 0
ReadAsBut observable file reads log = observable ≡ true → (content reads file ≡ []) × ((f : ℕ) → f ≢ file → reads f ≡ files_of_log log f)

-- bytes begin with an entry's encoding
pub record Encodes (bytes : List ℕ) (entry : Entry) : Type 0 where
  pub prev : ℕ
  pub rest : List ℕ
  pub is_entry : IsEntry entry
  pub small : prev < 2 ^ 32
  pub bytes_are : bytes ≡ encoding entry prev ++ rest

-- an entry of the log stands at this LSN: in its file, behind the header and the entries before it
pub record StandsAt (log : Log) (at : ℕ) (entry : Entry) : Type 0 where
  pub file : ℕ
  pub before : List Entry
  pub after : List Entry
  pub in_log : lookup (λ n. n == file) log ≡ Some (before ++ entry ∷ after)
  pub at_is : at ≡ file * 2 ^ 32 + (header_size + sizes_of before)

-- What a crash keeps of a log.
use Rattle.std.specs.Prelude.{◌≡◌, ◌≢◌, ◌≤◌, ◌<◌, ◌+◌, ◌==◌, ◌⊎◌, ℕ, true, false, Option, Some, None, unwrap_or, List, [], ◌∷◌, ◌++◌, length}
use Rattle.std.specs.Map.{lookup}
use Rattle.je_disk.specs.States.{Files, CrashState, State, content}
use Rattle.je_disk.specs.Moments.{History, Passes, now}
use Rattle.je_disk.specs.Images.{AreFileImages}
use Rattle.log_entry.specs.declared.entry.Entry.{Entry}
use Rattle.log_file.specs.declared.valid_prefix.ValidPrefix.{ValidPrefix}
use Rattle.log_file.specs.declared.file_scan.FileScan.TheVariants.{Prefix}
use Rattle.log_file.specs.Scan.{scan_of}
use Rattle.log_file.specs.Log.{Log, AreFileEntries, file_bytes, files_of_log, entries_of}

-- a crash keeps a file, and these bytes at its front
pub record KeepsFront (bytes : List ℕ) (crash_state : CrashState) : Type 0 where
  pub there : crash_state.exists_always ≡ true
  pub rest : List ℕ
  pub stable : crash_state.stable ≡ bytes ++ rest

-- where a crash leaves a file at all, it leaves these bytes and no others
pub record IsWhole (bytes : List ℕ) (crash_state : CrashState) : Type 0 where
  pub stable : crash_state.stable ≡ bytes
  pub max_len : crash_state.max_len ≡ length bytes

-- a crash keeps a file with these bytes and no others
pub record KeepsWhole (bytes : List ℕ) (crash_state : CrashState) : Type 0 where
  pub there : crash_state.exists_always ≡ true
  pub whole : IsWhole bytes crash_state

-- a file below `at` was removed, and where a crash brings it back it is as it was
pub record WasRemoved (removed : Log) (at f : ℕ) (crash_state : CrashState) : Type 0 where
  pub below : f < at
  pub entries : List Entry
  pub among : lookup (λ n. n == f) removed ≡ Some entries
  pub are_entries : AreFileEntries entries
  pub whole : IsWhole (file_bytes f entries) crash_state

-- what a crash keeps of a file that has these bytes, or of one that is not there
abbrev pub KeepsFile : Log → ℕ → ℕ → Option (List ℕ) → CrashState → Type 0
KeepsFile removed at f (Some bytes) crash_state = KeepsWhole bytes crash_state
KeepsFile removed at f None crash_state = (crash_state.may_exist ≡ false) ⊎ WasRemoved removed at f crash_state

-- A crash keeps at least so many of a log's entries, from its beginning on: the files before one of them are kept whole, of that
-- one the first entries, and no later one is there yet. Files that were removed may be back, as they were.
pub record KeepsLog (log removed : Log) (least : ℕ) (crash_states : ℕ → CrashState) : Type 0 where
  pub before : Log
  pub at : ℕ
  pub kept : List Entry
  pub more : List Entry
  pub after : Log
  pub log_is : log ≡ before ++ (at, kept ++ more) ∷ after
  pub front : (kept ≡ []) ⊎ KeepsFront (file_bytes at kept) (crash_states at)
  pub others : (f : ℕ) → f ≢ at → KeepsFile removed at f (files_of_log before f) (crash_states f)
  pub at_least : least ≤ length (entries_of before) + length kept

-- the entries that a log has in a file, none where it does not have the file
abbrev pub entries_at : Log → ℕ → List Entry
entries_at log f = unwrap_or (lookup (λ n. n == f) log) []

-- the valid prefix of a file's bytes consists of the first of these entries
pub record HoldsPrefix (f : ℕ) (entries : List Entry) (bytes : List ℕ) : Type 0 where
  pub prefix : ValidPrefix
  pub found : scan_of f bytes ≡ Prefix prefix
  pub more : List Entry
  pub is : entries ≡ prefix.entries ++ more

-- each file reads as a prefix of what the log has in it, apart from bytes behind that are no valid entry
abbrev pub HoldPrefixes : Log → Files → Type 0
HoldPrefixes log reads = (f : ℕ) → HoldsPrefix f (entries_at log f) (content reads f)

-- what was read in a file was a prefix of what the log has in it, if it has the file: others may have been removed
abbrev pub HoldLogged : Log → ℕ → List ℕ → Type 0
HoldLogged log f read = (entries : List Entry) → lookup (λ n. n == f) log ≡ Some entries → HoldsPrefix f entries read

-- A crash keeps at least so many of the log's entries; what the files read as is one of the images that a crash may leave, and they hold prefixes of the log.
pub record KeepsRead (log removed : Log) (least : ℕ) (state : State) : Type 0 where
  pub keeps : KeepsLog log removed least state.crash_states
  pub read : AreFileImages state.crash_states state.reads
  pub prefixes : HoldPrefixes log state.reads

-- each file that was there is there, and begins with the bytes that it had
abbrev pub FilesStay : Files → Files → Type 0
FilesStay before after = (f : ℕ) (bytes : List ℕ) → before f ≡ Some bytes → (more : List ℕ) × (after f ≡ Some (bytes ++ more))

-- the same, and each file of before is there, no shorter
pub record IsKeptSince (log removed : Log) (least : ℕ) (before : Files) (state : State) : Type 0 where
  pub kept : KeepsRead log removed least state
  pub stay : FilesStay before state.reads

-- at each moment since, a crash keeps at least so many of the log's entries, and each file that was there before is there, no shorter
abbrev pub KeptThrough : History → History → Log → Log → ℕ → Type 0
KeptThrough old new log removed least = Passes old new (IsKeptSince log removed least (now old).reads)

-- A crash keeps a log, and the disk can go on from there: no file below `first` is being written, and what the files read as is one of the images
pub record KeepsFrom (log removed : Log) (least first : ℕ) (reads : Files) (crash_states : ℕ → CrashState) : Type 0 where
  pub keeps : KeepsLog log removed least crash_states
  pub first_is : first ≤ keeps.at
  pub read : AreFileImages crash_states reads

-- a sync is out, and when it has ended a crash keeps so many entries
pub record WillKeep (log removed : Log) (least first : ℕ) (reads : Files) (job : Option (ℕ → CrashState)) (begun : ℕ) : Type 0 where
  pub crash_states : ℕ → CrashState
  pub job_is : job ≡ Some crash_states
  pub no_less : least ≤ begun
  pub kept : KeepsFrom log removed begun first reads crash_states

abbrev pub KeepsJob : Log → Log → ℕ → ℕ → State → Option ℕ → Type 0
KeepsJob log removed least first state None = Unit {0}
KeepsJob log removed least first state (Some begun) = WillKeep log removed least first state.reads state.job begun

-- A crash keeps at least `least` of the log's entries, and `begun` of them once the sync that is out has ended; None says nothing of a sync. The files below `first` are not being written.
pub record Holds (log removed : Log) (least : ℕ) (begun : Option ℕ) (first : ℕ) (state : State) : Type 0 where
  pub kept : KeepsFrom log removed least first state.reads state.crash_states
  pub job : KeepsJob log removed least first state begun

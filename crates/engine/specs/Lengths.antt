-- How long the files of a log get.
use Rattle.std.specs.Prelude.{ℕ, ◌≡◌, ◌≤◌, ◌+◌, ◌==◌, ◌⊎◌, List, Option, Some, length}
use Rattle.std.specs.Map.{lookup}
use Rattle.je_disk.specs.States.{Files}
use Rattle.log_entry.specs.declared.entry.Entry.{Entry}
use Rattle.log_file.specs.Log.{Log, file_bytes}
use Rattle.log_file.specs.Scan.{sizes_of}
use Rattle.log_buffer.specs.declared.buffer.LogBuffer.{LogBuffer}
use Rattle.log_buffer.specs.Buffer.{file_max_of}
use Rattle.log_buffer.specs.Flip.{header_size}

-- A file may have these bytes that had those before it was gone on with, if it was there: they are at most so many; or they are a header with one
-- entry at most behind it; or they are no more than it had.
abbrev pub IsLengthWithin : ℕ → ℕ → Option (List ℕ) → List ℕ → Type 0
IsLengthWithin most f before bytes =
    (length bytes ≤ most)
    ⊎ ((entries : List Entry) × (length entries ≤ 1) × (bytes ≡ file_bytes f entries))
    ⊎ ((old : List ℕ) × (before ≡ Some old) × (length bytes ≤ length old))

-- so it is with each file
abbrev pub AreLengthsWithin : ℕ → Files → Files → Type 0
AreLengthsWithin most before after = (f : ℕ) (bytes : List ℕ) → after f ≡ Some bytes → IsLengthWithin most f (before f) bytes

-- the same of a file with these entries
abbrev pub IsSizeWithin : ℕ → Option (List ℕ) → List Entry → Type 0
IsSizeWithin most before entries =
    (header_size + sizes_of entries ≤ most) ⊎ (length entries ≤ 1) ⊎ ((old : List ℕ) × (before ≡ Some old) × (header_size + sizes_of entries ≤ length old))

-- and of each file of a log
abbrev pub AreSizesWithin : ℕ → Files → Log → Type 0
AreSizesWithin most before log = (f : ℕ) (entries : List Entry) → lookup (λ n. n == f) log ≡ Some entries → IsSizeWithin most (before f) entries

-- a buffer's log, whose files are to have at most so many bytes
pub record KeepsSizes {D : Type 0} (most : ℕ) (before : Files) (buffer : LogBuffer D) (log : Log) : Type 0 where
  pub max : file_max_of buffer ≡ most
  pub sizes : AreSizesWithin most before log

-- The log as its files, and the files that a log is.
use Rattle.std.specs.Prelude.{◌≡◌, ℕ, ◌+◌, ◌<◌, ◌^◌, ◌==◌, true, Option, List, [], ◌∷◌, map, option_map}
use Rattle.std.specs.List.{AllByRecursion, flat_map}
use Rattle.std.specs.List.Sorted.{IsStrictlyIncreasing}
use Rattle.std.specs.Map.{lookup}
use Rattle.je_disk.specs.States.{Files}
use Rattle.log_entry.specs.declared.entry.Entry.{Entry}
use Rattle.log_entry.specs.declared.entry.Entry.TheVariants.{FileHeader}
use Rattle.log_entry.specs.Body.{IsEntry}
use Rattle.log_entry.specs.Prefix.{encoded}
use Rattle.log_file.specs.declared.file_scan.FileScan.{FileScan}
use Rattle.log_file.specs.declared.file_scan.FileScan.TheVariants.{Prefix}
use Rattle.log_file.specs.Scan.{may_follow, sizes_of, scan_of}

-- a log: its files' numbers, rising, each with the entries behind the file's header
abbrev pub Log : Type 0
Log = List (ℕ × List Entry)

-- the bytes of a file: its header and then its entries, encoded one after another
abbrev pub file_bytes : ℕ → List Entry → List ℕ
file_bytes f entries = encoded 0 0 (FileHeader 1 f ∷ entries)

-- entries that may stand behind a file's header: each is an entry, none is a header, and all end below 2^32
pub record AreFileEntries (es : List Entry) : Type 0 where
  pub entries : AllByRecursion IsEntry es
  pub follow : AllByRecursion (λ e. may_follow e ≡ true) es
  pub ends : 26 + sizes_of es < 2 ^ 32

-- a log whose files may be written: their numbers rise, and each has entries that may stand there
pub record IsLog (log : Log) : Type 0 where
  pub rising : IsStrictlyIncreasing (map (λ file. file.0) log)
  pub each : AllByRecursion (λ file. (file.0 < 2 ^ 32) × AreFileEntries file.1) log

-- all entries of a log, in order
abbrev pub entries_of : Log → List Entry
entries_of log = flat_map (λ file. file.1) log

-- the files that a log is, as a disk reads them
abbrev pub files_of_log : Log → ℕ → Option (List ℕ)
files_of_log log f = option_map (file_bytes f) (lookup (λ n. n == f) log)

-- a disk's files as a list of their numbers, rising, and their bytes
pub record AreFiles (reads : Files) (held : List (ℕ × List ℕ)) : Type 0 where
  pub rising : IsStrictlyIncreasing (map (λ file. file.0) held)
  pub each : (f : ℕ) → lookup (λ n. n == f) held ≡ reads f

-- the entries of a valid prefix; none where there is no valid prefix
abbrev pub entries_scanned : FileScan → List Entry
entries_scanned (Prefix prefix) = prefix.entries
entries_scanned found = []

-- the log that files hold: of each the entries of its valid prefix
abbrev pub log_in : List (ℕ × List ℕ) → Log
log_in held = map (λ file. (file.0, entries_scanned (scan_of file.0 file.1))) held

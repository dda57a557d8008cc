-- A reading of the files of a log that is under way.
use Rattle.std.specs.Prelude.{ℕ, ◌≡◌, ◌∷◌, ◌++◌, [], List, Option, None, Some, Bool, true, map, length}
use Rattle.std.specs.List.{AllByRecursion}
use Rattle.je_disk.specs.States.{Files, content}
use Rattle.je_lsn.specs.declared.file_no.FileNo.{FileNo}
use Rattle.log_file.specs.declared.file_scan.FileScan.TheVariants.{Prefix}
use Rattle.log_file.specs.Scan.{scan_of}
use Rattle.log_file.specs.Log.{entries_scanned}
use Rattle.log_replay.specs.declared.corruption.Corruption.{Corruption}
use Rattle.log_replay.specs.declared.last_file.LastFile.{LastFile}
use Rattle.log_replay.specs.Reading.{corruption_in}

-- the last of the files: its number, its valid prefix and its length
pub record IsLastOf (held : List (ℕ × List ℕ)) (file : LastFile) : Type 0 where
  pub before : List (ℕ × List ℕ)
  pub bytes : List ℕ
  pub parts : held ≡ before ++ (file.file.0, bytes) ∷ []
  pub found : scan_of file.file.0 bytes ≡ Prefix (record { entries = entries_scanned (scan_of file.file.0 bytes); last = file.last; end = file.end })
  pub len : file.len ≡ length bytes

abbrev pub IsTailOf : List (ℕ × List ℕ) → Option LastFile → Type 0
IsTailOf held None = held ≡ []
IsTailOf held (Some file) = IsLastOf held file

-- files are those of these numbers, with the bytes that a disk reads if it is observable
pub record AreOf (observable : Bool) (reads : Files) (files : List FileNo) (held : List (ℕ × List ℕ)) : Type 0 where
  pub numbers : map (λ file. file.0) held ≡ map (λ f. f.0) files
  pub observed : observable ≡ true → AllByRecursion (λ file. file.1 ≡ content reads file.0) held

-- the files of these numbers have this corruption
pub record HaveCorruption (observable : Bool) (reads : Files) (files : List FileNo) (corruption : Corruption) : Type 0 where
  pub held : List (ℕ × List ℕ)
  pub are_of : AreOf observable reads files held
  pub found : corruption_in held ≡ Some corruption

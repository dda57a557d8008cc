-- What was read of a file.
use Rattle.std.specs.Prelude.{◌≡◌, ℕ, Bool, true, List, None, Some, length}
use Rattle.je_bytes.specs.Reading.{AreBytes}
use Rattle.je_disk.specs.States.{Files, content}
use Rattle.log_file.specs.declared.file_scan.FileScan.TheVariants.{Prefix}
use Rattle.log_file.specs.Scan.{scan_of}
use Rattle.log_file.specs.Log.{entries_scanned}
use Rattle.log_replay.specs.declared.last_file.LastFile.{LastFile}
use Rattle.log_replay.specs.Reading.{corruption_at}
use Rattle.log_trees.specs.Placed.{Placed}
use Rattle.recovery_je.specs.declared.read_notes.ReadNotes.{ReadNotes}
use Rattle.recovery_je.specs.declared.reading.FileRead.{FileRead}
use Rattle.recovery_je.specs.declared.reading.FileRead.TheVariants.{GoesOn, Stops}
use Rattle.recovery_je.specs.LogRead.{entries_in}
use Rattle.recovery_je.specs.Noting.{NotesMore}

-- a file of these bytes may stand where it does, and these are its entries
pub record HasGoneOn (last : Bool) (f : ℕ) (bytes : List ℕ) (file : ℕ × List Placed) (tail : LastFile) : Type 0 where
  pub none : corruption_at last f (length bytes) (scan_of f bytes) ≡ None
  pub found : scan_of f bytes ≡ Prefix (record { entries = entries_scanned (scan_of f bytes); last = tail.last; end = tail.end })
  pub number : tail.file ≡ record { 0 = f }
  pub len : tail.len ≡ length bytes
  pub file_is : file ≡ (f, entries_in f bytes)

-- what was read of a file of these bytes
abbrev pub IsReadOf : Bool → ℕ → List ℕ → FileRead → Type 0
IsReadOf last f bytes (Stops corruption) = corruption_at last f (length bytes) (scan_of f bytes) ≡ Some corruption
IsReadOf last f bytes (GoesOn file tail) = HasGoneOn last f bytes file tail

-- and what was noted of its entries
abbrev pub FileIsNoted : ReadNotes → ReadNotes → FileRead → Type 0
FileIsNoted old new (Stops corruption) = Unit {0}
FileIsNoted old new (GoesOn file tail) = NotesMore file.1 old new

-- what was read of a file of a disk
pub record IsFileRead (observable : Bool) (reads : Files) (last : Bool) (f : ℕ) (read : FileRead) : Type 0 where
  pub bytes : List ℕ
  pub are : AreBytes bytes
  pub observed : observable ≡ true → bytes ≡ content reads f
  pub is : IsReadOf last f bytes read

-- A log that was read for printing.
use Rattle.std.specs.Prelude.{ℕ, ◌≡◌, ◌≢◌, ◌++◌, [], List, Option, None, Some, Bool, true, length}
use Rattle.std.specs.List.{flat_map}
use Rattle.je_order.specs.Counts.{HasRisen}
use Rattle.je_disk.specs.declared.error.DiskErr.{DiskErr}
use Rattle.je_disk.specs.declared.error.DiskErr.TheVariants.{Failed, Memory as OutOfMemory}
use Rattle.je_disk.specs.States.{Files, content}
use Rattle.je_lsn.specs.declared.file_no.FileNo.{FileNo}
use Rattle.log_file.specs.Log.{AreFiles}
use Rattle.log_file.specs.Scan.{scan_of}
use Rattle.log_replay.specs.declared.corruption.Corruption.{Corruption}
use Rattle.log_replay.specs.Reading.{corruption_at, corruption_in}
use Rattle.log_replay.specs.UnderWay.{AreOf, HaveCorruption}
use Rattle.log_printer.specs.declared.file_lines.FileLines.{FileLines}
use Rattle.log_printer.specs.declared.log_err.LogErr.{LogErr}
use Rattle.log_printer.specs.declared.log_err.LogErr.TheVariants.{Disk, Memory, NoFile, Corrupt}
use Rattle.log_printer.specs.LogLines.{lines_text, log_text, scanned_text}

-- the error where the disk failed or memory ran out
abbrev pub error_of : DiskErr → LogErr
error_of Failed = Disk
error_of OutOfMemory = Memory

-- ---- one file

-- these are the lines of a file of the disk, which may stand where it does
pub record AreLinesOf (observable : Bool) (reads : Files) (last : Bool) (f : ℕ) (lines : FileLines) : Type 0 where
  pub bytes : List ℕ
  pub observed : observable ≡ true → bytes ≡ content reads f
  pub none : corruption_at last f (length bytes) (scan_of f bytes) ≡ None
  pub text : lines_text lines ≡ scanned_text f (length bytes) (scan_of f bytes)

-- a file of the disk has this corruption where it stands
pub record IsWrongThere (observable : Bool) (reads : Files) (last : Bool) (f : ℕ) (corruption : Corruption) : Type 0 where
  pub bytes : List ℕ
  pub observed : observable ≡ true → bytes ≡ content reads f
  pub wrong : corruption_at last f (length bytes) (scan_of f bytes) ≡ Some corruption

-- why a file's lines were not made, if its corruption is this
abbrev pub IsNoLines : Option Corruption → LogErr → Type 0
IsNoLines corruption Disk = ⊥
IsNoLines corruption Memory = Unit {0}
IsNoLines corruption NoFile = ⊥
IsNoLines corruption (Corrupt wrong) = corruption ≡ Some wrong

-- why a file was not read
abbrev pub StopsAtFile : Bool → Files → Bool → ℕ → ℕ → ℕ → LogErr → Type 0
StopsAtFile observable reads last f before after Disk = HasRisen before after
StopsAtFile observable reads last f before after Memory = Unit {0}
StopsAtFile observable reads last f before after NoFile = ⊥
StopsAtFile observable reads last f before after (Corrupt corruption) = IsWrongThere observable reads last f corruption

-- ---- all files

-- some of the files were read, without a corruption, and these are left
pub record IsReadingLines (observable : Bool) (reads : Files) (files left : List FileNo) (lines : List FileLines) : Type 0 where
  pub done : List FileNo
  pub parts : files ≡ done ++ left
  pub held : List (ℕ × List ℕ)
  pub are_of : AreOf observable reads done held
  pub none : (more : List (ℕ × List ℕ)) → length more ≡ length left → corruption_in (held ++ more) ≡ corruption_in more
  pub text : flat_map lines_text lines ≡ log_text held

-- why the files of these numbers were not read
abbrev pub StopsAmong : Bool → Files → List FileNo → ℕ → ℕ → LogErr → Type 0
StopsAmong observable reads files before after Disk = HasRisen before after
StopsAmong observable reads files before after Memory = Unit {0}
StopsAmong observable reads files before after NoFile = files ≡ []
StopsAmong observable reads files before after (Corrupt corruption) = HaveCorruption observable reads files corruption

-- ---- the log

-- no file is there
abbrev pub HasNoFile : Files → Type 0
HasNoFile reads = (f : ℕ) → reads f ≡ None

-- these are the lines of all the disk's files, of which there is one; none is damaged, or of another version
pub record IsLogOf (observable : Bool) (reads : Files) (lines : List FileLines) : Type 0 where
  pub held : List (ℕ × List ℕ)
  pub are : observable ≡ true → AreFiles reads held
  pub some : held ≢ []
  pub none : corruption_in held ≡ None
  pub text : flat_map lines_text lines ≡ log_text held

-- the first corruption in the disk's files, in order
pub record HasDamagedFile (observable : Bool) (reads : Files) (corruption : Corruption) : Type 0 where
  pub held : List (ℕ × List ℕ)
  pub are : observable ≡ true → AreFiles reads held
  pub found : corruption_in held ≡ Some corruption

-- why the log of a disk was not read
abbrev pub StopsLog : Bool → Files → ℕ → ℕ → LogErr → Type 0
StopsLog observable reads before after Disk = HasRisen before after
StopsLog observable reads before after Memory = Unit {0}
StopsLog observable reads before after NoFile = observable ≡ true → HasNoFile reads
StopsLog observable reads before after (Corrupt corruption) = HasDamagedFile observable reads corruption

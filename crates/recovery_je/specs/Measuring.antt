-- How long the files of a log are.
use Rattle.std.specs.Prelude.{◌≡◌, ◌==◌, ◌+◌, ℕ, Bool, if◌then◌else◌, List, [], Option, map, length}
use Rattle.je_disk.specs.States.{Files}
use Rattle.je_lsn.specs.declared.file_no.FileNo.{FileNo}
use Rattle.log_file.specs.Scan.{scan_of}
use Rattle.log_replay.specs.declared.last_file.LastFile.{LastFile}
use Rattle.log_replay.specs.UnderWay.{HaveCorruption}
use Rattle.log_trees.specs.Placed.{Placed}
use Rattle.check_laws.specs.Check.{count_scanned, end_scanned}
use Rattle.recovery_je.specs.declared.file_len.FileLen.{FileLen}
use Rattle.recovery_je.specs.declared.reading.FilesRead.{FilesRead}
use Rattle.recovery_je.specs.declared.reading.FilesRead.TheVariants.{All as AllRead, Stopped}
use Rattle.recovery_je.specs.Files.{IsReading}

-- how many entries there are with the header, behind which so many stand, in a valid prefix that ends here
abbrev pub with_header : ℕ → ℕ → ℕ
with_header end count = if end == 0 then 0 else count + 1

-- how long a file is that has this valid prefix and these entries
abbrev pub len_read : LastFile → List Placed → FileLen
len_read tail es = record { number = tail.file; len = tail.len; entries = with_header tail.end (length es); end = tail.end }

-- how long a file is, by its bytes
abbrev pub len_of : ℕ × List ℕ → FileLen
len_of file = record { number = record { 0 = file.0 }; len = length file.1; entries = count_scanned (scan_of file.0 file.1); end = end_scanned (scan_of file.0 file.1) }

-- files that are being read are so long
pub record IsMeasuring (observable : Bool) (reads : Files) (files left : List FileNo) (es : List Placed) (tail : Option LastFile) (lens : List FileLen) : Type 0 where
  pub reading : IsReading observable reads files left es tail
  pub lens_are : lens ≡ map len_of reading.held

-- what was read of files that are so long
abbrev pub AreMeasured : Bool → Files → List FileNo → List FileLen → FilesRead → Type 0
AreMeasured observable reads files lens (Stopped corruption) = HaveCorruption observable reads files corruption
AreMeasured observable reads files lens (AllRead es notes tail) = IsMeasuring observable reads files [] es tail lens

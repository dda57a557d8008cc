-- A reading of files that is under way.
use Rattle.std.specs.Prelude.{ℕ, ◌≡◌, ◌++◌, [], List, Option, Bool, length, ◌<◌, ◌^◌}
use Rattle.std.specs.List.{AllByRecursion}
use Rattle.je_bytes.specs.Reading.{AreBytes}
use Rattle.je_disk.specs.States.{Files}
use Rattle.je_lsn.specs.declared.file_no.FileNo.{FileNo}
use Rattle.log_entry.specs.Body.{IsEntry}
use Rattle.log_file.specs.Log.{log_in}
use Rattle.log_replay.specs.declared.last_file.LastFile.{LastFile}
use Rattle.log_replay.specs.Reading.{corruption_in}
use Rattle.log_replay.specs.UnderWay.{AreOf, HaveCorruption, IsTailOf}
use Rattle.log_trees.specs.Placed.{Placed, AreInOrder, placed}
use Rattle.recovery_je.specs.declared.reading.FilesRead.{FilesRead}
use Rattle.recovery_je.specs.declared.reading.FilesRead.TheVariants.{All as AllRead, Stopped}
use Rattle.recovery_je.specs.Noting.{AreNotesOf}

-- some of the files were read, without a corruption, and these are left
pub record IsReading (observable : Bool) (reads : Files) (files left : List FileNo) (es : List Placed) (tail : Option LastFile) : Type 0 where
  pub done : List FileNo
  pub parts : files ≡ done ++ left
  pub held : List (ℕ × List ℕ)
  pub are_of : AreOf observable reads done held
  pub bytes : AllByRecursion (λ file. AreBytes file.1) held
  pub fits : AllByRecursion (λ file. file.0 < 2 ^ 32) held
  pub none : (more : List (ℕ × List ℕ)) → length more ≡ length left → corruption_in (held ++ more) ≡ corruption_in more
  pub entries_are : es ≡ placed (log_in held)
  pub last : IsTailOf held tail

-- what was read of files
abbrev pub AreRead : Bool → Files → List FileNo → FilesRead → Type 0
AreRead observable reads files (Stopped corruption) = HaveCorruption observable reads files corruption
AreRead observable reads files (AllRead es notes tail) = IsReading observable reads files [] es tail

-- entries that were read are entries, and their LSNs rise
abbrev pub AreSound : FilesRead → Type 0
AreSound (Stopped corruption) = Unit {0}
AreSound (AllRead es notes tail) = AreInOrder es × AllByRecursion (λ p. IsEntry p.1) es

-- what was noted of them
abbrev pub LogIsNoted : FilesRead → Type 0
LogIsNoted (Stopped corruption) = Unit {0}
LogIsNoted (AllRead es notes tail) = AreNotesOf es notes

-- What opening reads in what a crash left of a log.
use Rattle.std.specs.Prelude.{◌≤◌, ℕ, List}
use Rattle.std.specs.List.{AllByRecursion}
use Rattle.je_disk.specs.States.{Files}
use Rattle.je_lsn.specs.Naming.{last_file}
use Rattle.log_file.specs.Log.{Log, IsLog, AreFiles}
use Rattle.log_meaning.specs.Recovery.{HoldsFirst}

-- a log each of whose numbers names a file
pub record IsNamedLog (log : Log) : Type 0 where
  pub is_log : IsLog log
  pub small : AllByRecursion (λ file. file.0 ≤ last_file) log

-- the files of an image, as a list, hold the log's first entries, at least so many
pub record ImageHoldsFirst (log : Log) (least : ℕ) (image : Files) : Type 0 where
  pub held : List (ℕ × List ℕ)
  pub are : AreFiles image held
  pub first : HoldsFirst log least held

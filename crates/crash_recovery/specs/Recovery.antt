-- Which stores the images of a disk mean.
use Rattle.std.specs.Prelude.{ℕ, List, map, take}
use Rattle.je_disk.specs.States.{Files, State}
use Rattle.je_disk.specs.Images.{AreFileImages}
use Rattle.store_model.specs.declared.change.Change.{Change}
use Rattle.store_model.specs.declared.store.Store.{Store}
use Rattle.log_file.specs.Log.{Log, AreFiles}
use Rattle.log_buffer.specs.Chance.{NoChanceMatch}
use Rattle.log_buffer.specs.Crash.{HoldLogged}
use Rattle.log_trees.specs.Placed.{placed}
use Rattle.log_meaning.specs.Checkpoint.{last_end}
use Rattle.log_meaning.specs.Recovery.{Recovers, IsRecovered}
use Rattle.log_meaning.specs.Found.{HasFilesFrom}
use Rattle.crash_recovery.specs.Reading.{IsNamedLog}

-- a log that misses no file that is needed recovers transactions behind its first `base` entries
pub record RecoversLog (first : ℕ) (opening : Store) (base : ℕ) (transactions : List (List Change)) (log : Log) : Type 0 where
  pub named : IsNamedLog log
  pub files : HasFilesFrom first (last_end (take base (placed log))) (map (λ file. file.0) log)
  pub recovers : Recovers first opening base transactions (placed log)

-- the files of an image, as a list, mean the opening store changed by the first of the transactions, at least so many
pub record IsImageRecovered (opening : Store) (least : ℕ) (transactions : List (List Change)) (image : Files) : Type 0 where
  pub held : List (ℕ × List ℕ)
  pub are : AreFiles image held
  pub recovered : IsRecovered opening least transactions held

-- so does each image in which no checksum matches by chance, beside reads that hold prefixes of this log
abbrev pub AreImagesRecovered : Log → Store → ℕ → List (List Change) → State → Type 0
AreImagesRecovered log opening least transactions state = (image : Files) → AreFileImages state.crash_states image → NoChanceMatch (HoldLogged log) state.reads image → IsImageRecovered opening least transactions image

-- what a disk reads, and each image in which no checksum matches by chance, means the opening store changed by the first of the transactions, at least so many
pub record IsStateRecovered (log : Log) (opening : Store) (least : ℕ) (transactions : List (List Change)) (state : State) : Type 0 where
  pub read : IsImageRecovered opening least transactions state.reads
  pub images : AreImagesRecovered log opening least transactions state

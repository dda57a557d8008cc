-- The disk of a log buffer while its log grows.
use Rattle.std.specs.Prelude.{◌≡◌, ℕ, ◌≤◌, true, List, [], ◌++◌, Option}
use Rattle.je_disk.specs.DiskMeaning.{DiskMeaning}
use Rattle.je_disk.specs.Moments.{Passes, now}
use Rattle.store_model.specs.declared.change.Change.{Change}
use Rattle.store_model.specs.declared.store.Store.{Store}
use Rattle.log_entry.specs.declared.entry.Entry.{Entry}
use Rattle.log_file.specs.Log.{Log}
use Rattle.log_buffer.specs.declared.buffer.LogBuffer.{LogBuffer}
use Rattle.log_buffer.specs.Buffer.{disk_of, first_of}
use Rattle.log_buffer.specs.Crash.{Holds}
use Rattle.log_buffer.specs.Growth.{longer, Grew, Tried}
use Rattle.log_buffer.specs.Log.{HasLog}
use Rattle.log_trees.specs.Placed.{placed}
use Rattle.log_meaning.specs.Recovery.{commits_in}
use Rattle.crash_recovery.specs.Recovery.{RecoversLog, IsStateRecovered}

module _ {D : Type 0} where
  -- a buffer over an observable disk has a log of which a crash keeps so many entries
  pub record IsHeld (meaning : DiskMeaning D) (x : LogBuffer D) (log : Log) (least : ℕ) (begun : Option ℕ) : Type 0 where
    pub observed : meaning.observable ≡ true
    pub has : HasLog meaning.observable (now (meaning.history (disk_of x))) x log
    pub holds : Holds log [] least begun (first_of x) (now (meaning.history (disk_of x)))

  -- the disk of a buffer that has a log
  abbrev pub StandingRecovers : DiskMeaning D → Type 0
  StandingRecovers meaning = (first : ℕ) (opening : Store) (base least : ℕ) (begun : Option ℕ) (transactions : List (List Change)) (x : LogBuffer D) (log : Log)
      → IsHeld meaning x log least begun → RecoversLog first opening base transactions log → base ≤ least
      → IsStateRecovered log opening (commits_in base least (placed log)) transactions (now (meaning.history (disk_of x)))

  -- at each moment since, where the log got entries: the transactions that the longer log recovers, at least those that the entries kept of the log before commit
  abbrev pub GrowthRecovers : DiskMeaning D → Type 0
  GrowthRecovers meaning = (first : ℕ) (opening : Store) (base least : ℕ) (begun : Option ℕ) (transactions : List (List Change)) (x y : LogBuffer D)
      (entries : List Entry) (log : Log) → IsHeld meaning x log least begun → Grew meaning x y entries
      → RecoversLog first opening base transactions (longer x entries log) → base ≤ least
      → Passes (meaning.history (disk_of x)) (meaning.history (disk_of y)) (IsStateRecovered (longer x entries log) opening (commits_in base least (placed log)) transactions)

  -- the same where the disk failed while the first of these entries were appended
  abbrev pub TriedRecovers : DiskMeaning D → Type 0
  TriedRecovers meaning = (first : ℕ) (opening : Store) (base least : ℕ) (begun : Option ℕ) (transactions : List (List Change)) (x y : LogBuffer D)
      (front rest entries : List Entry) (log : Log) → IsHeld meaning x log least begun → Tried meaning x y front → front ++ rest ≡ entries
      → RecoversLog first opening base transactions (longer x entries log) → base ≤ least
      → Passes (meaning.history (disk_of x)) (meaning.history (disk_of y)) (IsStateRecovered (longer x entries log) opening (commits_in base least (placed log)) transactions)

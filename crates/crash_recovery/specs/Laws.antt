-- What holds of the images of all logs.
use Rattle.std.specs.Prelude.{◌≡◌, ℕ, ◌≤◌, List, [], ◌++◌, length}
use Rattle.je_disk.specs.States.{Files, CrashState, State}
use Rattle.je_disk.specs.Moments.{History, Passes}
use Rattle.je_disk.specs.Images.{AreFileImages}
use Rattle.store_model.specs.declared.change.Change.{Change}
use Rattle.store_model.specs.declared.store.Store.{Store}
use Rattle.log_entry.specs.declared.entry.Entry.{Entry}
use Rattle.log_file.specs.Log.{Log, IsLog, entries_of}
use Rattle.log_buffer.specs.declared.log_pos.LogPos.{LogPos}
use Rattle.log_buffer.specs.Growth.{log_with_all}
use Rattle.log_buffer.specs.Log.{EndsAt}
use Rattle.log_buffer.specs.Chance.{LeavesLog}
use Rattle.log_buffer.specs.Crash.{KeepsLog, KeepsRead, KeptThrough}
use Rattle.log_buffer.specs.Written.{HoldsWritten}
use Rattle.log_trees.specs.Placed.{placed}
use Rattle.log_meaning.specs.Recovery.{commits_in}
use Rattle.crash_recovery.specs.Reading.{IsNamedLog, ImageHoldsFirst}
use Rattle.crash_recovery.specs.Recovery.{RecoversLog, IsImageRecovered, AreImagesRecovered, IsStateRecovered}

-- what a crash leaves of a log from which no file was removed holds its first entries
abbrev pub ImagesHoldFirst : Type 0
ImagesHoldFirst = (log : Log) (least : ℕ) (image : Files) → IsNamedLog log → LeavesLog log [] least image → ImageHoldsFirst log least image

-- it means the opening store changed by the first transactions, at least those that the kept entries commit
abbrev pub ImagesRecover : Type 0
ImagesRecover = (first : ℕ) (opening : Store) (base least : ℕ) (transactions : List (List Change)) (log : Log) (image : Files)
    → RecoversLog first opening base transactions log → base ≤ least → LeavesLog log [] least image
    → IsImageRecovered opening (commits_in base least (placed log)) transactions image

-- so does each image of a disk of which a crash keeps so many of the log's entries
abbrev pub KeptImagesRecover : Type 0
KeptImagesRecover = (first : ℕ) (opening : Store) (base least : ℕ) (transactions : List (List Change)) (log : Log) (state : State)
    → RecoversLog first opening base transactions log → base ≤ least → KeepsLog log [] least state.crash_states → AreFileImages state.crash_states state.reads
    → AreImagesRecovered log opening (commits_in base least (placed log)) transactions state

-- and what the disk reads
abbrev pub StatesRecover : Type 0
StatesRecover = (first : ℕ) (opening : Store) (base least : ℕ) (transactions : List (List Change)) (log : Log) (state : State)
    → RecoversLog first opening base transactions log → base ≤ least → KeepsRead log [] least state
    → IsStateRecovered log opening (commits_in base least (placed log)) transactions state

-- of what was written, what the disk reads means at least the transactions that it commits
abbrev pub WrittenRecover : Type 0
WrittenRecover = (first : ℕ) (opening : Store) (base least written : ℕ) (transactions : List (List Change)) (log : Log) (state : State)
    → RecoversLog first opening base transactions log → base ≤ written → KeepsRead log [] least state → HoldsWritten log written state.reads
    → IsImageRecovered opening (commits_in base written (placed log)) transactions state.reads

-- at each moment since
abbrev pub ThroughRecovers : Type 0
ThroughRecovers = (first : ℕ) (opening : Store) (base least : ℕ) (transactions : List (List Change)) (log : Log) (old new : History)
    → RecoversLog first opening base transactions log → base ≤ least → KeptThrough old new log [] least
    → Passes old new (IsStateRecovered log opening (commits_in base least (placed log)) transactions)

-- fewer transactions are sure, and more may follow
abbrev pub WiderIsRecovered : Type 0
WiderIsRecovered = (log : Log) (opening : Store) (least fewer : ℕ) (transactions more : List (List Change)) (state : State) → IsStateRecovered log opening least transactions state → fewer ≤ least
    → IsStateRecovered log opening fewer (transactions ++ more) state

-- ---- how many transactions are sure

-- a crash keeps no more entries than a log has
abbrev pub KeptAreWithin : Type 0
KeptAreWithin = (log removed : Log) (least : ℕ) (crash_states : ℕ → CrashState) → KeepsLog log removed least crash_states → least ≤ length (entries_of log)

-- those that the first entries commit stay where entries are appended
abbrev pub CommitsStay : Type 0
CommitsStay = (log : Log) (end : LogPos) (last file_max : ℕ) (entries : List Entry) (base least : ℕ) → IsLog log → EndsAt log end.file end.offset last → least ≤ length (entries_of log)
    → commits_in base least (placed (log_with_all file_max end entries log)) ≡ commits_in base least (placed log)

-- all of a log's entries commit all of its transactions
abbrev pub AllAreCommitted : Type 0
AllAreCommitted = (first : ℕ) (opening : Store) (base : ℕ) (transactions : List (List Change)) (log : Log) → RecoversLog first opening base transactions log
    → (base ≤ length (entries_of log)) × (commits_in base (length (entries_of log)) (placed log) ≡ length transactions)

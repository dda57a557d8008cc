-- A log that was found: which of its files are needed, and what an environment that opens it begins with.
use Rattle.std.specs.Prelude.{◌≡◌, ◌≤◌, ◌<◌, ℕ, ◌+◌, ◌/◌, ◌^◌, nat_lt, true, Option, None, Some, Ok, List, [], ◌∷◌, ◌++◌, map, take, length}
use Rattle.std.specs.List.{AllByRecursion}
use Rattle.store_model.specs.declared.change.Change.{Change}
use Rattle.store_model.specs.declared.store.Store.{Store}
use Rattle.log_entry.specs.Body.{IsEntry}
use Rattle.log_file.specs.Log.{Log, log_in}
use Rattle.log_replay.specs.Rows.{store_of}
use Rattle.log_replay.specs.Reading.{gap_in}
use Rattle.log_trees.specs.Placed.{Placed, placed}
use Rattle.log_meaning.specs.Redo.{record_at}
use Rattle.log_meaning.specs.Checkpoint.{Checkpoint, last_end, restarted}
use Rattle.log_meaning.specs.Meaning.{Meaning, rows_of}
use Rattle.log_meaning.specs.Reading.{gap_from, reading_of}
use Rattle.log_meaning.specs.Recovery.{commits_in, Recovers, IsOpened, HoldsFirst, IsRecovered, IsFirstFile}
use Rattle.log_meaning.specs.Stands.{Stands}
use Rattle.log_meaning.specs.Transactions.{AreListed}

-- ---- files

-- no file that is needed is missing: without a checkpoint these are all from the first one on, which has this number; else those from this number on
abbrev pub HasFilesFrom : ℕ → Option Checkpoint → List ℕ → Type 0
HasFilesFrom first None numbers = IsFirstFile first numbers × (gap_in numbers ≡ None)
HasFilesFrom first (Some c) numbers = gap_from first numbers ≡ None

-- the first number that is needed: that of the redo LSN's file, or without a checkpoint the first one, and without a file the next one
abbrev pub first_needed : ℕ → Option Checkpoint → List ℕ → ℕ
first_needed next None [] = next
first_needed next None (n ∷ numbers) = n
first_needed next (Some c) numbers = c.redo / 2 ^ 32

-- ---- laws

-- files that are read with no corruption miss none that is needed, and leave the store that they mean
pub record IsFound (first : ℕ) (es : List Placed) (numbers : List ℕ) (meaning : Meaning) : Type 0 where
  pub files : HasFilesFrom first (last_end es) numbers
  pub opened : IsOpened first es meaning

abbrev pub ReadFilesAreFound : Type 0
ReadFilesAreFound = (next : ℕ) (held : List (ℕ × List ℕ)) (meaning : Meaning) → AllByRecursion (λ p. IsEntry p.1) (placed (log_in held)) → reading_of held ≡ Ok meaning
    → IsFound (first_needed next (last_end (placed (log_in held))) (map (λ file. file.0) held)) (placed (log_in held)) (map (λ file. file.0) held) meaning

-- a log without a gap misses none
abbrev pub NoGapHasFiles : Type 0
NoGapHasFiles = (first : ℕ) (o : Option Checkpoint) (numbers : List ℕ) → IsFirstFile first numbers → gap_in numbers ≡ None → HasFilesFrom first o numbers

-- nor with a next file more
abbrev pub NextFileStays : Type 0
NextFileStays = (first : ℕ) (o : Option Checkpoint) (before : List ℕ) (f : ℕ) → AllByRecursion (λ n. n < f) before → HasFilesFrom first o (before ++ f ∷ [])
    → HasFilesFrom first o ((before ++ f ∷ []) ++ (f + 1) ∷ [])

-- What an environment begins with that opens a log whose entries lie below an LSN: the log stands, with all databases and with the
-- transactions that no number was allocated for; as lists the records are an environment's; and the log recovers their store.
pub record IsBegun (first : ℕ) (es : List Placed) (base : ℕ) (meaning : Meaning) : Type 0 where
  pub stands : Stands es base base (λ d. true) (λ d x. (record_at (restarted es) d x).value) (λ t. nat_lt meaning.last_txn t) (λ t. [])
  pub listed : AreListed (λ d. true) (λ d x. (record_at (restarted es) d x).value) (rows_of (restarted es))
  pub store : store_of (rows_of (restarted es)) ≡ meaning.store
  pub recovers : Recovers first meaning.store (length es) [] es

abbrev pub OpenedIsBegun : Type 0
OpenedIsBegun = (first : ℕ) (es : List Placed) (base : ℕ) (meaning : Meaning) → IsOpened first es meaning → 0 < base → AllByRecursion (λ p. p.0 < base) es → IsBegun first es base meaning

-- what a crash leaves of a log that recovers transactions, and misses no file that is needed, means the opening store changed by the first of them
abbrev pub NeededFilesRecover : Type 0
NeededFilesRecover = (first : ℕ) (opening : Store) (base least : ℕ) (transactions : List (List Change)) (log : Log) (held : List (ℕ × List ℕ))
    → HasFilesFrom first (last_end (take base (placed log))) (map (λ file. file.0) log) → Recovers first opening base transactions (placed log) → base ≤ least → HoldsFirst log least held
    → IsRecovered opening (commits_in base least (placed log)) transactions held

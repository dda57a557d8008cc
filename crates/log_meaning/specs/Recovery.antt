-- Which store the first entries of a log leave, and what a crash leaves of it.
use Rattle.std.specs.Prelude.{◌≡◌, ◌≤◌, ◌<◌, ℕ, ◌/◌, ◌^◌, Bool, true, false, Option, None, Some, Ok, List, [], ◌∷◌, ◌++◌, map, take, drop, length}
use Rattle.std.specs.List.{AllByRecursion, count_by}
use Rattle.je_order.specs.declared.name.Name.{Name}
use Rattle.store_model.specs.declared.change.Change.{Change}
use Rattle.store_model.specs.declared.store.Store.{Store}
use Rattle.store_model.specs.Store.{store_after}
use Rattle.log_entry.specs.declared.entry.Entry.{Entry}
use Rattle.log_entry.specs.declared.entry.Entry.TheVariants.{Commit}
use Rattle.log_entry.specs.Body.{IsEntry}
use Rattle.log_file.specs.Log.{Log, log_in}
use Rattle.log_replay.specs.Rows.{Rows, data_at, numbers_of, is_environment, store_of, IsRising}
use Rattle.log_replay.specs.Reading.{corruption_in, gap_in}
use Rattle.log_trees.specs.Placed.{Placed, placed}
use Rattle.log_trees.specs.Changes.{LoggedChange}
use Rattle.log_trees.specs.Trees.{rows_of_roots}
use Rattle.log_trees.specs.Sound.{Home, IsRootAt}
use Rattle.log_trees.specs.Walk.{read_roots}
use Rattle.log_meaning.specs.Checkpoint.{Checkpoint, last_end, last_checkpoint, restarted}
use Rattle.log_meaning.specs.Meaning.{Meaning, rows_of, AreDrawn}
use Rattle.log_meaning.specs.Stands.{Stands}
use Rattle.log_meaning.specs.Reading.{reading_of}

-- whether an entry commits a transaction
abbrev pub is_commit : Entry → Bool
is_commit (Commit txn) = true
is_commit entry = false

-- the trees of a log's last checkpoint are read with no corruption
abbrev pub AreRootsRead : List Placed → Type 0
AreRootsRead es = (files : List ℕ) → (numbers : List ℕ)
    × (read_roots files es (last_checkpoint es).at (last_checkpoint es).roots ≡ Ok (record { seen = numbers; rows = rows_of_roots es (last_checkpoint es).at (last_checkpoint es).roots }))

-- a checkpoint's redo LSN is lower than its end, and in this file or a later one
abbrev pub IsRedoLsn : ℕ → Option Checkpoint → Type 0
IsRedoLsn first None = Unit {0}
IsRedoLsn first (Some c) = (c.redo < c.at) × (first ≤ c.redo / 2 ^ 32)

-- a log whose first file has this number, read again, gives the records of an environment, with this store
pub record Leaves (first : ℕ) (es : List Placed) (store : Store) : Type 0 where
  pub roots : AreRootsRead es
  pub redo : IsRedoLsn first (last_end es)
  pub environment : is_environment (rows_of (restarted es)) ≡ true
  pub store_is : store_of (rows_of (restarted es)) ≡ store

-- how many transactions are committed in the first `count` entries, behind the first `base`
abbrev pub commits_in : ℕ → ℕ → List Placed → ℕ
commits_in base count es = count_by (λ p. is_commit p.1) (drop base (take count es))

-- behind the first `base` entries come the transactions, each the list of its changes, and any first entries from there on leave the
-- opening store changed by those that they commit
pub record Recovers (first : ℕ) (opening : Store) (base : ℕ) (transactions : List (List Change)) (es : List Placed) : Type 0 where
  pub within : base ≤ length es
  pub all : commits_in base (length es) es ≡ length transactions
  pub each : (count : ℕ) → base ≤ count → count ≤ length es → Leaves first (take count es) (store_after opening (take (commits_in base count es) transactions))

-- ---- laws

-- an environment that works on a log, and whose records are those of an environment, leaves their store
abbrev pub StandsLeaves : Type 0
StandsLeaves = (first : ℕ) (es : List Placed) (base next : ℕ) (is_open : ℕ → Bool) (rows : ℕ → Name → Option (List ℕ)) (is_live : ℕ → Bool) (logged : ℕ → List LoggedChange) (kept : Rows)
    → Stands es base next is_open rows is_live logged → AreRootsRead es → IsRedoLsn first (last_end es)
    → ((d : ℕ) → IsRising (kept d)) → ((d : ℕ) (x : Name) → is_open d ≡ true → data_at x (kept d) ≡ rows d x)
    → is_open 0 ≡ true → AllByRecursion (λ n. is_open n ≡ true) (numbers_of kept) → is_environment kept ≡ true
    → Leaves first es (store_of kept)

-- files that are read with no corruption leave the store that they mean, later numbers are free, and the trees of their last checkpoint are right
pub record IsOpened (first : ℕ) (es : List Placed) (meaning : Meaning) : Type 0 where
  pub leaves : Leaves first es meaning.store
  pub last_job : AreDrawn es meaning
  pub home : ℕ → Home
  pub right : AllByRecursion (IsRootAt es home (last_checkpoint es).at) (last_checkpoint es).roots

abbrev pub ReadFilesLeave : Type 0
ReadFilesLeave = (first : ℕ) (later : List ℕ) (held : List (ℕ × List ℕ)) (meaning : Meaning) → map (λ file. file.0) held ≡ first ∷ later
    → AllByRecursion (λ p. IsEntry p.1) (placed (log_in held)) → reading_of held ≡ Ok meaning → IsOpened first (placed (log_in held)) meaning

-- a log that leaves a store recovers it, and no transactions
abbrev pub RecoversFirst : Type 0
RecoversFirst = (first : ℕ) (opening : Store) (es : List Placed) → Leaves first es opening → Recovers first opening (length es) [] es

-- an entry more: a commit brings its transaction
abbrev pub with_commit : Bool → List Change → List (List Change) → List (List Change)
with_commit true transaction transactions = transactions ++ transaction ∷ []
with_commit false transaction transactions = transactions

abbrev pub RecoversPush : Type 0
RecoversPush = (first : ℕ) (opening : Store) (base : ℕ) (transactions : List (List Change)) (transaction : List Change) (es : List Placed) (p : Placed)
    → Recovers first opening base transactions es → Leaves first (es ++ p ∷ []) (store_after opening (with_commit (is_commit p.1) transaction transactions))
    → Recovers first opening base (with_commit (is_commit p.1) transaction transactions) (es ++ p ∷ [])

-- files hold a log's first entries, at least so many, each at its place; they are the log's first files, and nothing is wrong with them but a torn end
pub record HoldsFirst (log : Log) (least : ℕ) (held : List (ℕ × List ℕ)) : Type 0 where
  pub count : ℕ
  pub at_least : least ≤ count
  pub within : count ≤ length (placed log)
  pub entries : placed (log_in held) ≡ take count (placed log)
  pub later : List ℕ
  pub numbers : map (λ file. file.0) log ≡ map (λ file. file.0) held ++ later
  pub none : corruption_in held ≡ None

-- files mean the opening store changed by the first of the transactions, at least so many
pub record IsRecovered (opening : Store) (least : ℕ) (transactions : List (List Change)) (held : List (ℕ × List ℕ)) : Type 0 where
  pub meaning : Meaning
  pub reads : reading_of held ≡ Ok meaning
  pub count : ℕ
  pub at_least : least ≤ count
  pub within : count ≤ length transactions
  pub store : meaning.store ≡ store_after opening (take count transactions)

-- the first of these numbers, if there is one
abbrev pub IsFirstFile : ℕ → List ℕ → Type 0
IsFirstFile first [] = Unit {0}
IsFirstFile first (n ∷ ns) = n ≡ first

-- what a crash leaves of a log that recovers transactions means the opening store changed by the first of them, at least those that the
-- kept entries commit
abbrev pub ImagesRecover : Type 0
ImagesRecover = (first : ℕ) (opening : Store) (base least : ℕ) (transactions : List (List Change)) (log : Log) (held : List (ℕ × List ℕ))
    → gap_in (map (λ file. file.0) log) ≡ None → IsFirstFile first (map (λ file. file.0) log) → Recovers first opening base transactions (placed log) → base ≤ least → HoldsFirst log least held
    → IsRecovered opening (commits_in base least (placed log)) transactions held

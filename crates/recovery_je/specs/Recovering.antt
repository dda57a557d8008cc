-- What reading a log comes to.
use Rattle.std.specs.Prelude.{◌≡◌, ℕ, Bool, true, false, List, [], Ok, Some, None, length}
use Rattle.je_order.specs.declared.name.Name.{Name}
use Rattle.store_model.specs.declared.store.Store.{Store}
use Rattle.store_model.specs.Store.{record_count}
use Rattle.record_map.specs.Cells.{value_at, IsRising}
use Rattle.record_tree.specs.Stored.{AllStored}
use Rattle.log_replay.specs.declared.corruption.Corruption.{Corruption}
use Rattle.log_replay.specs.declared.corruption.Corruption.TheVariants.{Tree}
use Rattle.log_replay.specs.Rows.{numbers_of, store_of}
use Rattle.log_trees.specs.Placed.{Placed}
use Rattle.log_trees.specs.Changes.{unwritten, LoggedChange, last_of}
use Rattle.log_trees.specs.Walk.{Walk, read_roots}
use Rattle.log_meaning.specs.Redo.{Redo, redone, record_at}
use Rattle.log_meaning.specs.Checkpoint.{Checkpoint, last_checkpoint, behind}
use Rattle.log_meaning.specs.Meaning.{Meaning, most, db_given, rows_of, wrong_lsn}
use Rattle.log_meaning.specs.Reading.{meaning_in}
use Rattle.recovery_je.specs.declared.read_err.ReadErr.{ReadErr}
use Rattle.recovery_je.specs.declared.read_err.ReadErr.TheVariants.{Found}
use Rattle.recovery_je.specs.declared.roots.WalkNumbers.{WalkNumbers}
use Rattle.recovery_je.specs.Redoing.{there}
use Rattle.recovery_je.specs.Finishing.{is_kept}

-- an error that tells no corruption
abbrev pub IsOtherErr : ReadErr → Type 0
IsOtherErr (Found corruption) = ⊥
IsOtherErr e = Unit {0}

-- what holds of the corruption that an error tells
abbrev pub IsFoundBy : ReadErr → (Corruption → Type 0) → Type 0
IsFoundBy (Found corruption) P = P corruption
IsFoundBy e P = Unit {0}

-- trees hold what changes leave
abbrev pub HoldsChanges : List LoggedChange → AllStored → Type 0
HoldsChanges changes stored = (d : ℕ) (x : Name) → value_at x (stored d) ≡ there (last_of d x changes unwritten)

-- the trees of a checkpoint's roots were read
pub record IsWalked (files : List ℕ) (es : List Placed) (end : Checkpoint) (numbers : WalkNumbers) (stored : AllStored) (walk : Walk) : Type 0 where
  pub read : read_roots files es end.at end.roots ≡ Ok walk
  pub node : numbers.node ≡ most (λ n. n) walk.seen
  pub db : numbers.db ≡ most db_given walk.rows
  pub records : HoldsChanges walk.rows stored

-- and what a redo has
abbrev pub HoldsRedo : Redo → AllStored → Type 0
HoldsRedo redo stored = (d : ℕ) (x : Name) → value_at x (stored d) ≡ there (record_at redo d x)

-- trees of an environment: the catalog and the databases that it names have trees with the records of a redo, and no other has one
pub record HasTrees (redo : Redo) (has : ℕ → Bool) (stored : AllStored) : Type 0 where
  pub trees : (d : ℕ) → has d ≡ is_kept (numbers_of (rows_of redo)) d
  pub records : (d : ℕ) (x : Name) → is_kept (numbers_of (rows_of redo)) d ≡ true → value_at x (stored d) ≡ there (record_at redo d x)
  pub none : (d : ℕ) → is_kept (numbers_of (rows_of redo)) d ≡ false → stored d ≡ []
  pub rising : (d : ℕ) → IsRising (stored d)

-- the records of a redo are those of an environment, with this store, and its trees are these
pub record IsSettled (redo : Redo) (has : ℕ → Bool) (stored : AllStored) (opening : Store) (databases records : ℕ) : Type 0 where
  pub trees : HasTrees redo has stored
  pub right : wrong_lsn redo ≡ None
  pub opening_is : opening ≡ store_of (rows_of redo)
  pub databases_are : databases ≡ length opening.databases
  pub records_are : records ≡ record_count opening

-- a record of a redo breaks a rule of environments
abbrev pub IsWrong : Redo → Corruption → Type 0
IsWrong redo corruption = (lsn : ℕ) × (corruption ≡ Tree lsn) × (wrong_lsn redo ≡ Some lsn)

-- what the entries of files of these numbers mean, and the environment's trees
pub record IsMeant (files : List ℕ) (es : List Placed) (meaning : Meaning) (has : ℕ → Bool) (stored : AllStored) (databases records : ℕ) : Type 0 where
  pub meaning_is : meaning_in files es ≡ Ok meaning
  pub walk : Walk
  pub walked : read_roots files es (last_checkpoint es).at (last_checkpoint es).roots ≡ Ok walk
  pub trees : HasTrees (behind walk.rows (redone (last_checkpoint es).redo es)) has stored
  pub databases_are : databases ≡ length meaning.store.databases
  pub records_are : records ≡ record_count meaning.store

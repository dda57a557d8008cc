-- What a log means: the store, and the numbers that were allocated last.
use Rattle.std.specs.Prelude.{◌≡◌, ◌<◌, ◌≤◌, ℕ, ◌==◌, max, if◌then◌else◌, List, [], ◌∷◌, Option, option_map, unwrap_or, IfSome}
use Rattle.je_order.specs.declared.name.Name.{Name}
use Rattle.store_model.specs.declared.store.Store.{Store}
use Rattle.log_entry.specs.declared.entry.Entry.{Entry}
use Rattle.log_entry.specs.declared.entry.Entry.TheVariants.{Migrated, In, Bin, BinDelta}
use Rattle.log_replay.specs.Rows.{Rows, no_rows, store_of, catalog_number}
use Rattle.log_replay.specs.Wrong.{wrong_record}
use Rattle.log_replay.specs.Replay.{txn_in, db_in}
use Rattle.log_trees.specs.Placed.{Placed}
use Rattle.log_trees.specs.Changes.{Written, unwritten, LoggedChange, rows_after}
use Rattle.log_trees.specs.Walk.{Walk}
use Rattle.log_meaning.specs.Redo.{Redo, from, redone, record_at}
use Rattle.log_meaning.specs.Checkpoint.{Checkpoint, behind, restarted}

-- the store; the transaction, node and database numbers that were allocated last; and the number of the last checkpoint that ended, 0 where none did
pub record Meaning : Type 0 where
  pub store : Store
  pub last_txn : ℕ
  pub last_node : ℕ
  pub last_db : ℕ
  pub checkpoint : ℕ

-- the records of each database after a redo
abbrev pub rows_of : Redo → Rows
rows_of redo = rows_after redo.done no_rows

-- ---- numbers

-- the number of the node that an entry is the image of, 0 where it is none
abbrev pub node_number : Entry → ℕ
node_number (In db node level slots) = node
node_number (Bin db node slots) = node
node_number (BinDelta db node full slots) = node
node_number entry = 0

-- the greatest database number in an entry: the one that it is for, or the one in a catalog record
abbrev pub db_number : Entry → ℕ
db_number (Migrated db name value) = if db == 0 then catalog_number value else db
db_number (In db node level slots) = db
db_number (Bin db node slots) = db
db_number (BinDelta db node full slots) = db
db_number entry = db_in entry

-- the database number in a catalog record that a root gives
abbrev pub db_given : LoggedChange → ℕ
db_given change = if change.db == 0 then unwrap_or (option_map catalog_number change.written.value) 0 else 0

-- the greatest number of a list, 0 where there is none
abbrev pub most : {A : Type 0} → (A → ℕ) → List A → ℕ
most number [] = 0
most number (x ∷ xs) = max (number x) (most number xs)

-- ---- the whole

-- what entries mean that are redone from a checkpoint over the trees of its roots, as they were read
abbrev pub meaning_of : List Placed → Checkpoint → Walk → Meaning
meaning_of es c walk = record {
  store = store_of (rows_of (behind walk.rows (redone c.redo es)));
  last_txn = max c.last_txn (most (λ p. txn_in p.1) (from c.redo es));
  last_node = max c.last_node (max (most (λ n. n) walk.seen) (most (λ p. node_number p.1) (from c.redo es)));
  last_db = max c.last_db (max (most (λ r. r.db) c.roots) (max (most db_given walk.rows) (most (λ p. db_number p.1) (from c.redo es))));
  checkpoint = c.number;
}

-- the LSN of a record that is there
abbrev pub lsn_there : Written → ℕ
lsn_there written = unwrap_or (option_map (λ value. written.at) written.value) 0

-- the LSN of the first record that is wrong, where records are not those of an environment
abbrev pub wrong_lsn : Redo → Option ℕ
wrong_lsn redo = option_map (λ place. lsn_there (record_at redo place.db place.name)) (wrong_record (rows_of redo))

-- the numbers of a meaning are past those of the log read again: no change of a later transaction waits, later databases are empty, and the
-- catalog names none of them
pub record AreDrawn (es : List Placed) (meaning : Meaning) : Type 0 where
  pub txns : (t : ℕ) → meaning.last_txn < t → (restarted es).pending t ≡ []
  pub databases : (d : ℕ) (x : Name) → meaning.last_db < d → record_at (restarted es) d x ≡ unwritten
  pub named : (x : Name) → IfSome (record_at (restarted es) 0 x).value (λ bytes. catalog_number bytes ≤ meaning.last_db)

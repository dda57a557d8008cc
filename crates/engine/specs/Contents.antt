-- What an open environment has in memory beside its log, and how logged changes change it.
use Rattle.std.specs.Prelude.{ℕ, ◌≡◌, ◌+◌, Bool, is_some, List, [], Option, Some, map, length, if◌then◌else◌}
use Rattle.store_model.specs.declared.answer.Fault.{Fault}
use Rattle.store_model.specs.declared.answer.Fault.TheVariants.{Disk}
use Rattle.store_model.specs.declared.totals.Totals.{Totals}
use Rattle.log_replay.specs.Rows.{Rows, rows_changed}
use Rattle.log_trees.specs.Placed.{Placed}
use Rattle.record_tree.specs.declared.tree_change.TreeChange.{TreeChange}
use Rattle.db_tree.specs.declared.tree.DbTree.{DbTree}
use Rattle.tree_images.specs.Forest.{ForestFits}
use Rattle.txn_core.specs.Known.{Known}
use Rattle.txn_core.specs.Planning.{row_by}
use Rattle.txn_core.specs.Transactions.{is_gone}
use Rattle.txn_core.specs.declared.planned_changes.PlannedChanges.{PlannedChanges}
use Rattle.engine.specs.declared.kept.Kept.{Kept}
use Rattle.engine.specs.Limits.{numbers_for}

-- the LSN from which on a redo may begin, and whether a checkpoint is under way
pub record Checkpoints : Type 0 where
  pub since : ℕ
  pub under_way : Bool

abbrev pub checkpoints_of : Kept → Checkpoints
checkpoints_of kept = record { since = kept.since; under_way = is_some kept.checkpoints.under_way }

-- the committed records of each database and how much their store holds; the transaction and the database number allocated last, and a number that
-- no node's number is above; how many transactions were committed since opening; the first fault; the checkpoints; and the trees, with the node
-- number that was allocated last
pub record Contents : Type 0 where
  pub rows : Rows
  pub totals : Totals
  pub last_txn : ℕ
  pub last_db : ℕ
  pub last_node : ℕ
  pub commits : ℕ
  pub fault : Option Fault
  pub checkpoints : Checkpoints
  pub trees : ℕ → Option DbTree
  pub last_number : ℕ

-- trees fit each log that others fitted
abbrev pub FitsAs : Contents → Contents → Type 0
FitsAs old new = (es : List Placed) (base : ℕ) → ForestFits es base old.last_number old.trees → ForestFits es base new.last_number new.trees

-- what plans rest on
abbrev pub known : Contents → Known
known c = record { rows = c.rows; totals = c.totals; last_db = c.last_db }

-- the records after changes, without those of the database that goes
abbrev pub rows_after : List TreeChange → Option ℕ → Rows → Rows
rows_after changes gone rows db = if is_gone db gone then [] else rows_changed (map (row_by 0) changes) rows db

-- a transaction number was allocated, and nothing else
abbrev pub drawn_contents : Contents → Contents
drawn_contents c = record c { last_txn = c.last_txn + 1 }

-- changes were logged
pub record HasLogged (old new : Contents) (planned : PlannedChanges) : Type 0 where
  pub rows : (db : ℕ) → new.rows db ≡ rows_after planned.changes.items planned.gone old.rows db
  pub totals : new.totals ≡ planned.totals
  pub last_txn : new.last_txn ≡ old.last_txn + 1
  pub last_db : new.last_db ≡ planned.last_db
  pub last_node : new.last_node ≡ old.last_node + numbers_for (length planned.changes.items)
  pub commits : new.commits ≡ old.commits + 1
  pub fault : new.fault ≡ old.fault
  pub checkpoints : new.checkpoints ≡ old.checkpoints

-- the disk failed: the environment is invalid, and its records count for nothing
pub record HasFaulted (old new : Contents) : Type 0 where
  pub totals : new.totals ≡ old.totals
  pub last_txn : new.last_txn ≡ old.last_txn
  pub last_db : new.last_db ≡ old.last_db
  pub last_node : new.last_node ≡ old.last_node
  pub commits : new.commits ≡ old.commits
  pub fault : new.fault ≡ Some Disk
  pub checkpoints : new.checkpoints ≡ old.checkpoints

-- nothing changed
pub record IsSame (old new : Contents) : Type 0 where
  pub rows : (db : ℕ) → new.rows db ≡ old.rows db
  pub totals : new.totals ≡ old.totals
  pub last_txn : new.last_txn ≡ old.last_txn
  pub last_db : new.last_db ≡ old.last_db
  pub last_node : new.last_node ≡ old.last_node
  pub commits : new.commits ≡ old.commits
  pub fault : new.fault ≡ old.fault
  pub checkpoints : new.checkpoints ≡ old.checkpoints
  pub fits : FitsAs old new

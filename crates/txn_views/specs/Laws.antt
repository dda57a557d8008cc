-- What a transaction sees is what the model says, and how names go on having the changes of transactions.
use Rattle.std.specs.Prelude.{ℕ, ◌≡◌, ◌⊎◌, ◌==◌, ◌&&◌, ◌++◌, [], List, Option, None, true, false, map, if◌then◌else◌}
use Rattle.std.specs.List.{AllByRecursion, list_any}
use Rattle.std.specs.Map.{keys_of}
use Rattle.std.specs.Ordering.{is_eq}
use Rattle.je_order.specs.Order.{name_cmp}
use Rattle.je_order.specs.declared.name.Name.{Name}
use Rattle.je_order.specs.declared.txn_id.TxnId.{TxnId}
use Rattle.record_map.specs.Cells.{value_at, IsRising}
use Rattle.record_tree.specs.declared.tree_change.TreeChange.{TreeChange}
use Rattle.record_tree.specs.declared.tree_name.TreeName.{TreeName}
use Rattle.record_tree.specs.Occupied.{AllCells, IsFreeFor, AreWritten, HasChangedAll, after_commit, after_abort, write_in}
use Rattle.store_model.specs.declared.kind.Kind.{Kind}
use Rattle.store_model.specs.declared.call.Call.{Call}
use Rattle.store_model.specs.declared.record_change.RecordChange.{RecordChange}
use Rattle.store_model.specs.Needs.{changed_name}
use Rattle.store_model.specs.Records.{evaluation}
use Rattle.store_model.specs.Refusals.{database_refuses}
use Rattle.je_answers.specs.declared.active.Active.{Active}
use Rattle.je_answers.specs.Standing.{Standing, with_at}
use Rattle.je_answers.specs.Views.{Target, view_of, occupied, of_db}
use Rattle.log_replay.specs.Rows.{Row, are_right, pair_of}
use Rattle.txn_core.specs.Known.{committed_rows, IsQuiet}
use Rattle.txn_core.specs.Plans.{record_planned}
use Rattle.txn_views.specs.Seen.{seen_rows, last_own, HasWrites, AreRightIn, AreOccupied, is_right_change}

-- ---- what is seen

-- a database of a standing has these cells: its records are committed in them, and its names have the own changes of the transactions under way,
-- which alone have any
pub record AreCellsOf (st : Standing) (g : Target) (cells : AllCells) : Type 0 where
  pub rising : IsRising (cells g.db)
  pub occupied : AreOccupied (cells g.db)
  pub right : are_right g.database.kind (committed_rows (cells g.db)) ≡ true
  pub pairs : map (pair_of g.database.kind) (committed_rows (cells g.db)) ≡ g.database.pairs
  pub writes : HasWrites cells st.own
  pub own_right : AreRightIn g.db g.database.kind st.own
  pub own_active : (n : ℕ) → list_any (λ a. n == a.txn.0) st.actives ≡ false → st.own n ≡ []

-- the records that a transaction sees in them are those of its view, and the names in them are the occupied ones
pub record AreSeenBy (st : Standing) (a : Active) (g : Target) (cells : AllCells) : Type 0 where
  pub right : are_right g.database.kind (seen_rows a.level a.txn (cells g.db)) ≡ true
  pub pairs : map (pair_of g.database.kind) (seen_rows a.level a.txn (cells g.db)) ≡ view_of st a g
  pub names : keys_of (cells g.db) ≡ occupied st g

abbrev pub ViewsAreSeen : Type 0
ViewsAreSeen = (st : Standing) (a : Active) (g : Target) (cells : AllCells) → AreCellsOf st g cells → AreSeenBy st a g cells

-- the changes of a call that is not refused are right, where the records that it sees are, wherever its cursor stands
abbrev pub ChangesAreRight : Type 0
ChangesAreRight = (kind : Kind) (call : Call) (at : Option Name) (rows : List Row) → database_refuses kind call ≡ None → are_right kind rows ≡ true →
    AllByRecursion (λ c. is_right_change kind c ≡ true) (evaluation kind call at (map (pair_of kind) rows)).changes

-- ---- names go on having changes

-- own changes, where those of one transaction are others
abbrev pub own_with : ℕ → List (ℕ × RecordChange) → (ℕ → List (ℕ × RecordChange)) → ℕ → List (ℕ × RecordChange)
own_with t changes own = with_at t changes own

-- the name of an own change in the trees
abbrev pub own_name : ℕ × RecordChange → TreeName
own_name c = record { db = c.0; name = changed_name c.1 }

abbrev pub own_names : List (ℕ × RecordChange) → List TreeName
own_names changes = map own_name changes

-- an own change as a change of the trees
abbrev pub planned_own : ℕ × RecordChange → TreeChange
planned_own c = record_planned c.0 c.1

-- a transaction wrote changes, each in the database of a number, whose names nobody else had changed
abbrev pub WritesAreOwn : Type 0
WritesAreOwn = (txn : TxnId) (changes : List (ℕ × RecordChange)) (own : ℕ → List (ℕ × RecordChange)) (old new : AllCells) →
    HasWrites old own → AllByRecursion (λ c. IsFreeFor txn (write_in (value_at c.name (old c.db)))) (map planned_own changes) →
    AreWritten txn (map planned_own changes) old new →
    HasWrites new (own_with txn.0 (own txn.0 ++ changes) own)

-- a transaction's changes were committed, or given up
abbrev pub EndsLeaveWrites : Type 0
EndsLeaveWrites = (t : ℕ) (own : ℕ → List (ℕ × RecordChange)) (old new : AllCells) (names : List TreeName) → names ≡ own_names (own t) →
    HasWrites old own → HasChangedAll old new names after_commit ⊎ HasChangedAll old new names after_abort → HasWrites new (own_with t [] own)

-- a database went in which nobody had changes
abbrev pub DropsLeaveWrites : Type 0
DropsLeaveWrites = (db : ℕ) (own : ℕ → List (ℕ × RecordChange)) (old new : AllCells) → ((t : ℕ) → of_db db (own t) ≡ []) →
    HasWrites old own → ((d : ℕ) → new d ≡ (if d == db then [] else old d)) → HasWrites new own

-- nobody has changes: no name has one, and the other way round
pub record NobodyWrites (cells : AllCells) (own : ℕ → List (ℕ × RecordChange)) (none : (t : ℕ) → own t ≡ []) : Type 0 where
  pub have : IsQuiet cells → HasWrites cells own
  pub quiet : HasWrites cells own → IsQuiet cells

-- nobody else has a change of a name that a transaction may write, and the other way round
abbrev pub IsFreeOf : ℕ → Name → ℕ → (ℕ → List (ℕ × RecordChange)) → Type 0
IsFreeOf d x txn own = (t : ℕ) → (t ≡ txn → ⊥) → last_own d x (own t) ≡ None

abbrev pub FreeNamesMayBeWritten : Type 0
FreeNamesMayBeWritten = (txn : TxnId) (d : ℕ) (x : Name) (own : ℕ → List (ℕ × RecordChange)) (cells : AllCells) →
    HasWrites cells own → IsFreeOf d x txn.0 own → IsFreeFor txn (write_in (value_at x (cells d)))

-- own changes of which none is of a name have no last one of it
abbrev pub NoneIsLast : Type 0
NoneIsLast = (d : ℕ) (x : Name) (own : List (ℕ × RecordChange)) → AllByRecursion (λ c. ((c.0 == d) && is_eq (name_cmp x (changed_name c.1))) ≡ false) own → last_own d x own ≡ None

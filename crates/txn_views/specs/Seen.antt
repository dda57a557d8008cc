-- What a transaction sees of a database's cells, and what its own changes leave in them.
use Rattle.std.specs.Prelude.{ℕ, ◌≡◌, ◌==◌, ◌&&◌, [], List, Option, None, Some, Bool, true, map, find, reverse, if◌then◌else◌}
use Rattle.std.specs.List.{AllByRecursion}
use Rattle.std.specs.List.Sorted.{IsStrictlySortedBy}
use Rattle.std.proofs.Common.{sym, subst}
use Rattle.std.proofs.lemmas.Map.Made.{keys_of-map_values}
use Rattle.std.specs.Option.{option_map}
use Rattle.std.specs.Ordering.{is_eq}
use Rattle.je_order.specs.Order.{name_cmp}
use Rattle.je_order.specs.Transactions.{is_same_txn}
use Rattle.je_order.specs.declared.name.Name.{Name}
use Rattle.je_order.specs.declared.txn_id.TxnId.{TxnId}
use Rattle.record_map.specs.declared.write.Write.{Write}
use Rattle.record_map.specs.Cells.{value_at, IsRising}
use Rattle.record_tree.specs.Occupied.{Occupied, AllCells, is_occupied, write_in}
use Rattle.store_model.specs.declared.kind.Kind.{Kind}
use Rattle.store_model.specs.declared.isolation.Isolation.{Isolation}
use Rattle.store_model.specs.declared.isolation.Isolation.TheVariants.{ReadUncommitted}
use Rattle.store_model.specs.declared.record_change.RecordChange.{RecordChange}
use Rattle.store_model.specs.declared.record_change.RecordChange.TheVariants.{Set, Unset}
use Rattle.store_model.specs.Needs.{changed_name}
use Rattle.store_model.specs.Store.{proper}
use Rattle.log_replay.specs.Rows.{Row, is_right_row, IsRising as RowsRise}
use Rattle.log_replay.proofs.MapRows.{rising_from_keys}
use Rattle.txn_core.proofs.ReadingLaws.{committed_rises}
use Rattle.txn_core.specs.Known.{committed_rows}

-- ---- what a transaction sees

-- whether a transaction sees what another one changed: its own changes, and at read uncommitted anybody's
abbrev pub sees : Isolation → TxnId → TxnId → Bool
sees ReadUncommitted txn writer = true
sees level txn writer = is_same_txn writer txn

-- the data under a name, over what is committed
abbrev pub seen_over : Isolation → TxnId → Option (List ℕ) → Option Write → Option (List ℕ)
seen_over level txn value None = value
seen_over level txn value (Some w) = if sees level txn w.txn then w.value else value

-- what a transaction sees under a name: its own change, at read uncommitted anybody's, else what is committed
abbrev pub seen_value : Isolation → TxnId → Occupied → Option (List ℕ)
seen_value level txn o = seen_over level txn o.value o.write

abbrev pub seen_cell : Isolation → TxnId → Name × Occupied → Name × Occupied
seen_cell level txn e = (e.0, record { value = seen_value level txn e.1; write = e.1.write })

-- the records of a database as it sees them, in name order: as if they were committed
abbrev pub seen_rows : Isolation → TxnId → List (Name × Occupied) → List Row
seen_rows level txn cells = committed_rows (map (seen_cell level txn) cells)

pub still_rises : (level : Isolation) (txn : TxnId) (cells : List (Name × Occupied)) → IsRising cells → IsRising (map (seen_cell level txn) cells)
still_rises level txn cells up = subst (IsStrictlySortedBy name_cmp) (sym (keys_of-map_values (λ (o : Occupied). record { value = seen_value level txn o; write = o.write }) cells)) up

-- the names of what it sees rise
pub seen_rises : (level : Isolation) (txn : TxnId) (cells : List (Name × Occupied)) → IsRising cells → RowsRise (seen_rows level txn cells)
seen_rises level txn cells up = rising_from_keys (seen_rows level txn cells) (committed_rises (map (seen_cell level txn) cells) (still_rises level txn cells up))

-- ---- own changes

-- the last own change of a name in the database of a number
abbrev pub last_own : ℕ → Name → List (ℕ × RecordChange) → Option RecordChange
last_own d x changes = option_map (λ c. c.1) (find (λ c. (c.0 == d) && is_eq (name_cmp x (changed_name c.1))) (reverse changes))

-- the data that a change leaves
abbrev pub value_of : RecordChange → Option (List ℕ)
value_of (Set at value) = Some value
value_of (Unset at) = None

-- a name has a change that is the last one of its transaction, and nobody else's; or it has none, and nobody changed it
pub record IsLastOwn (d : ℕ) (x : Name) (own : ℕ → List (ℕ × RecordChange)) (w : Write) : Type 0 where
  pub change : RecordChange
  pub last : last_own d x (own w.txn.0) ≡ Some change
  pub value : w.value ≡ value_of change
  pub others : (t : ℕ) → (t ≡ w.txn.0 → ⊥) → last_own d x (own t) ≡ None

abbrev pub IsWriteOf : ℕ → Name → (ℕ → List (ℕ × RecordChange)) → Option Write → Type 0
IsWriteOf d x own None = (t : ℕ) → last_own d x (own t) ≡ None
IsWriteOf d x own (Some w) = IsLastOwn d x own w

-- each name has the change of the transaction under way that changed it
abbrev pub HasWrites : AllCells → (ℕ → List (ℕ × RecordChange)) → Type 0
HasWrites cells own = (d : ℕ) (x : Name) → IsWriteOf d x own (write_in (value_at x (cells d)))

-- ---- what is right

-- whether a change leaves a record that is right in a database of a kind; of one that takes a record out, whether its name is right
abbrev pub is_right_change : Kind → RecordChange → Bool
is_right_change kind (Set at value) = is_right_row kind (at, value)
is_right_change kind (Unset at) = is_right_row kind (at, [])

-- a change leaves a record that is right in a database of a kind, or takes out a name of that kind, however long
abbrev pub IsProperChange : Kind → RecordChange → Type 0
IsProperChange kind (Set at value) = is_right_row kind (at, value) ≡ true
IsProperChange kind (Unset at) = proper kind at ≡ at

-- the own changes in one database are
abbrev pub AreRightIn : ℕ → Kind → (ℕ → List (ℕ × RecordChange)) → Type 0
AreRightIn d kind own = (t : ℕ) → AllByRecursion (λ c. c.0 ≡ d → IsProperChange kind c.1) (own t)

-- each name has a record or a change
abbrev pub AreOccupied : List (Name × Occupied) → Type 0
AreOccupied cells = AllByRecursion (λ e. is_occupied e.1 ≡ true) cells

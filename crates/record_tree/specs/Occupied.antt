-- What a database has under the names that are occupied, and how a transaction changes it.
use Rattle.std.specs.Prelude.{◌≡◌, ◌⊎◌, ℕ, Bool, ◌&&◌, ◌||◌, ◌==◌, List, [], ◌∷◌, Option, Some, None, IsSome, is_some, option_map, if◌then◌else◌}
use Rattle.std.specs.List.{list_any, AllByRecursion}
use Rattle.std.specs.Ordering.{is_eq}
use Rattle.je_order.specs.Order.{name_cmp}
use Rattle.je_order.specs.declared.name.Name.{Name}
use Rattle.je_order.specs.declared.txn_id.TxnId.{TxnId}
use Rattle.node_core.specs.declared.slot.Version.{Version}
use Rattle.node_core.specs.declared.slot.Version.TheVariants.{There, Deleted, Unset}
use Rattle.record_map.specs.declared.cell.Cell.{Cell}
use Rattle.record_map.specs.declared.write.Write.{Write}
use Rattle.record_map.specs.Cells.{value_at}
use Rattle.record_tree.specs.declared.tree_change.TreeChange.{TreeChange}
use Rattle.record_tree.specs.declared.tree_name.TreeName.{TreeName}
use Rattle.record_tree.specs.Logged.{last_change}

-- what an occupied name has: the committed data, if a record is committed, and the change of an active transaction, if there is one
pub record Occupied : Type 0 where
  pub value : Option (List ℕ)
  pub write : Option Write

-- the committed data that a version with data gives
abbrev pub committed_value : Version → List ℕ → Option (List ℕ)
committed_value (There lsn) value = Some value
committed_value Deleted value = None
committed_value Unset value = None

-- what a cell says of its name
abbrev pub occupied_by : Cell → Occupied
occupied_by cell = record { value = committed_value cell.version cell.«data»; write = option_map (λ write. write.value) cell.write }

-- an occupied name has a record or a change; a name that has neither is not occupied
abbrev pub is_occupied : Occupied → Bool
is_occupied o = is_some o.value || is_some o.write

abbrev pub if_occupied : Occupied → Option Occupied
if_occupied o = if is_occupied o then Some o else None

-- the committed data under a name, and the change
abbrev pub value_in : Option Occupied → Option (List ℕ)
value_in None = None
value_in (Some o) = o.value

abbrev pub write_in : Option Occupied → Option Write
write_in None = None
write_in (Some o) = o.write

-- no other transaction has changed the name
abbrev pub IsFreeFor : TxnId → Option Write → Type 0
IsFreeFor txn None = Unit {0}
IsFreeFor txn (Some write) = write.txn ≡ txn

-- of the changes of each database at most one is of a name that is not occupied
abbrev pub AreFewNew : (ℕ → List (Name × Occupied)) → List TreeChange → Type 0
AreFewNew cells [] = Unit {0}
AreFewNew cells (c ∷ changes) =
    AllByRecursion (λ e. c.db ≡ e.db → IsSome (value_at c.name (cells c.db)) ⊎ IsSome (value_at e.name (cells e.db))) changes × AreFewNew cells changes

-- a name's change after those of a transaction: its last one, at some LSN, or the one that it had
abbrev pub IsWritten : Option TreeChange → TxnId → Option Write → Option Write → Type 0
IsWritten None txn old new = new ≡ old
IsWritten (Some c) txn old new = (at : ℕ) × (new ≡ Some (record { txn = txn; at = at; value = c.value }))

-- a name whose change is committed, and one whose change is given up
abbrev pub value_after : Option (List ℕ) → Option Write → Option (List ℕ)
value_after value None = value
value_after value (Some write) = write.value

abbrev pub after_commit : Option Occupied → Option Occupied
after_commit None = None
after_commit (Some o) = if_occupied (record { value = value_after o.value o.write; write = None })

abbrev pub after_abort : Option Occupied → Option Occupied
after_abort None = None
after_abort (Some o) = if_occupied (record { value = o.value; write = None })

-- the cells of each database
abbrev pub AllCells : Type 0
AllCells = ℕ → List (Name × Occupied)

-- a transaction wrote: names have its changes, and what is committed is as before
pub record AreWritten (txn : TxnId) (changes : List TreeChange) (old new : AllCells) : Type 0 where
  pub values : (db : ℕ) (x : Name) → value_in (value_at x (new db)) ≡ value_in (value_at x (old db))
  pub writes : (db : ℕ) (x : Name) → IsWritten (last_change db x changes) txn (write_in (value_at x (old db))) (write_in (value_at x (new db)))

-- whether a name of a database is among some
abbrev pub is_among : ℕ → Name → List TreeName → Bool
is_among db x names = list_any (λ e. e.db == db && is_eq (name_cmp e.name x)) names

-- each of some names changed, and all else as before
abbrev pub HasChangedAll : AllCells → AllCells → List TreeName → (Option Occupied → Option Occupied) → Type 0
HasChangedAll old new names change = (db : ℕ) (x : Name) → value_at x (new db) ≡ (if is_among db x names then change (value_at x (old db)) else value_at x (old db))

-- no cell changed
abbrev pub AreSame : AllCells → AllCells → Type 0
AreSame old new = (db : ℕ) → new db ≡ old db

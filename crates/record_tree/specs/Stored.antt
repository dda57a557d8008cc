-- The committed records of an environment while its log is read again.
use Rattle.std.specs.Prelude.{◌≡◌, ◌==◌, ◌&&◌, ℕ, List, Option, None, Some, map, if◌then◌else◌}
use Rattle.std.specs.Ordering.{is_eq}
use Rattle.je_order.specs.Order.{name_cmp}
use Rattle.je_order.specs.declared.name.Name.{Name}
use Rattle.record_map.specs.Cells.{value_at}
use Rattle.record_tree.specs.declared.record_ref.RecordRef.{RecordRef}

-- a committed record: the LSN at which it was logged, and its data
pub record Stored : Type 0 where
  pub at : ℕ
  pub value : List ℕ

-- the committed records of each database, in name order
abbrev pub AllStored : Type 0
AllStored = ℕ → List (Name × Stored)

-- records by their names and their data: those of a database, and those that were lent
abbrev pub values_of : List (Name × Stored) → List (Name × List ℕ)
values_of records = map (λ r. (r.0, r.1.value)) records

abbrev pub lent : List RecordRef → List (Name × List ℕ)
lent records = map (λ r. (r.name.now, r.value.now)) records

-- what is committed by a change at an LSN: its data, or none where the record was deleted
abbrev pub stored_at : ℕ → Option (List ℕ) → Option Stored
stored_at at None = None
stored_at at (Some value) = Some (record { at = at; value = value })

-- a name of a database has this, and all else is as before
abbrev pub HasStored : AllStored → AllStored → ℕ → Name → Option Stored → Type 0
HasStored old new db name stored = (d : ℕ) (x : Name) → value_at x (new d) ≡ (if (db == d) && is_eq (name_cmp name x) then stored else value_at x (old d))

-- no record changed
abbrev pub AreStoredStill : AllStored → AllStored → Type 0
AreStoredStill old new = (d : ℕ) → new d ≡ old d

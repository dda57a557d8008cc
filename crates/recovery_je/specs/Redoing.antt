-- Records in trees, and changes that wait, while a log is read again.
use Rattle.std.specs.Prelude.{◌≡◌, ◌==◌, ℕ, List, [], ◌∷◌, Option, None, Some, unwrap_or, if◌then◌else◌}
use Rattle.std.specs.Map.{lookup}
use Rattle.je_order.specs.declared.name.Name.{Name}
use Rattle.record_map.specs.Cells.{value_at}
use Rattle.record_tree.specs.Stored.{Stored, AllStored, stored_at}
use Rattle.log_replay.specs.Rows.{catalog_number}
use Rattle.log_trees.specs.Changes.{Written, LoggedChange, is_of}
use Rattle.log_meaning.specs.Redo.{Redo, record_at}

-- the changes that wait under a transaction's number, in order; none where it has none
abbrev pub waits : List (ℕ × List LoggedChange) → ℕ → List LoggedChange
waits kept txn = unwrap_or (lookup (λ n. n == txn) kept) []

-- the record that was written, if one is there
abbrev pub there : Written → Option Stored
there written = stored_at written.at written.value

-- what stands under a name after changes, in order
abbrev pub stored_after : ℕ → Name → List LoggedChange → Option Stored → Option Stored
stored_after d x [] stored = stored
stored_after d x (change ∷ changes) stored = stored_after d x changes (if is_of d x change then there change.written else stored)

-- changes were made, in order
abbrev pub HasMade : List LoggedChange → AllStored → AllStored → Type 0
HasMade changes old new = (d : ℕ) (x : Name) → value_at x (new d) ≡ stored_after d x changes (value_at x (old d))

-- trees and waiting changes are those that a redo has
pub record IsRedoAt (stored : AllStored) (kept : List (ℕ × List LoggedChange)) (redo : Redo) : Type 0 where
  pub records : (d : ℕ) (x : Name) → value_at x (stored d) ≡ there (record_at redo d x)
  pub pending : (txn : ℕ) → waits kept txn ≡ redo.pending txn

-- the database that a record put into a database names, if that is the catalog; 0 where it names none
abbrev pub named_by : ℕ → Option (List ℕ) → ℕ
named_by db None = 0
named_by db (Some value) = if db == 0 then catalog_number value else 0

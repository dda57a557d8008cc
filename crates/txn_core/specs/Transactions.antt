-- What a transaction that is committed leaves.
use Rattle.std.specs.Prelude.{ℕ, ◌≡◌, ◌==◌, ◌||◌, Bool, false, List, Option, Some, None, is_some, map, if◌then◌else◌}
use Rattle.je_order.specs.declared.name.Name.{Name}
use Rattle.record_map.specs.Cells.{value_at}
use Rattle.record_tree.specs.declared.tree_change.TreeChange.{TreeChange}
use Rattle.record_tree.specs.declared.tree_name.TreeName.{TreeName}
use Rattle.record_tree.specs.Logged.{is_made, last_change, value_changed}
use Rattle.record_tree.specs.Occupied.{AllCells, value_in, write_in, after_commit, is_among}

-- whether the database of that number is the one that goes
abbrev pub is_gone : ℕ → Option ℕ → Bool
is_gone d None = false
is_gone d (Some gone) = d == gone

-- changes are committed: each name has the data of its last change, or else what it had, and a database that goes has none
abbrev pub HasCommitted : List TreeChange → Option ℕ → AllCells → AllCells → Type 0
HasCommitted changes gone old new =
    (d : ℕ) (x : Name) → value_in (value_at x (new d)) ≡ (if is_gone d gone then None else value_changed (last_change d x changes) (value_in (value_at x (old d))))

-- and the names that they change have no change of a transaction any more; nor has a database that goes
abbrev pub LeavesWrites : List TreeChange → Option ℕ → AllCells → AllCells → Type 0
LeavesWrites changes gone old new =
    (d : ℕ) (x : Name) → write_in (value_at x (new d)) ≡ (if is_gone d gone then None else if is_some (last_change d x changes) then None else write_in (value_at x (old d)))

-- each database that changes make has a tree, the one that goes has none, and each other one has what it had
abbrev pub HasTreesAfter : List TreeChange → Option ℕ → (ℕ → Bool) → (ℕ → Bool) → Type 0
HasTreesAfter changes gone old new = (d : ℕ) → new d ≡ (if is_gone d gone then false else (is_made d changes || old d))

-- each of some names has its change committed, and all else is as before, but for a database that goes
abbrev pub IsCommittedAmong : List TreeName → Option ℕ → AllCells → AllCells → Type 0
IsCommittedAmong names gone old new =
    (d : ℕ) (x : Name) → value_at x (new d) ≡ (if is_gone d gone then None else if is_among d x names then after_commit (value_at x (old d)) else value_at x (old d))

-- the name that a change changes
abbrev pub changed_name : TreeChange → TreeName
changed_name c = record { db = c.db; name = c.name }

abbrev pub changed_names : List TreeChange → List TreeName
changed_names changes = map changed_name changes

-- Records as lists, and name by name.
use Rattle.std.specs.Prelude.{◌≡◌, ℕ, List}
use Rattle.je_order.specs.declared.name.Name.{Name}
use Rattle.log_replay.specs.Rows.{no_rows, data_at, IsRising}
use Rattle.log_trees.specs.Changes.{unwritten, LoggedChange, last_of, rows_after}

-- the records that changes leave are those that they leave name by name
abbrev pub ListedByName : Type 0
ListedByName = (changes : List LoggedChange) (d : ℕ) (x : Name) → data_at x (rows_after changes no_rows d) ≡ (last_of d x changes unwritten).value

-- their names rise
abbrev pub ListedInOrder : Type 0
ListedInOrder = (changes : List LoggedChange) (d : ℕ) → IsRising (rows_after changes no_rows d)

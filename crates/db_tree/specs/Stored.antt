-- What is committed of a tree's cells.
use Rattle.std.specs.Prelude.{◌≡◌, ℕ, List, [], ◌∷◌, Option, Some, None}
use Rattle.std.specs.List.{flat_map}
use Rattle.je_order.specs.declared.name.Name.{Name}
use Rattle.node_core.specs.declared.slot.Version.{Version}
use Rattle.node_core.specs.declared.slot.Version.TheVariants.{There, Deleted, Unset}
use Rattle.record_map.specs.declared.cell.Cell.{Cell}
use Rattle.record_map.specs.Cells.{value_at, with_version, IsRising}
use Rattle.record_tree.specs.Stored.{Stored}
use Rattle.db_tree.specs.Trees.{HasCell, cell_or_fresh}

-- what is committed by a version with its data
abbrev pub stored_by : Version → List ℕ → Option Stored
stored_by (There lsn) value = Some (record { at = lsn; value = value })
stored_by Deleted value = None
stored_by Unset value = None

abbrev pub stored_under : Option Cell → Option Stored
stored_under None = None
stored_under (Some cell) = stored_by cell.version cell.«data»

-- a name with what is committed of it; a name without a record has no place
abbrev pub with_name : Name → Option Stored → List (Name × Stored)
with_name name None = []
with_name name (Some stored) = (name, stored) ∷ []

-- the records that cells have, in name order
abbrev pub stored_in : List (Name × Cell) → List (Name × Stored)
stored_in cells = flat_map (λ e. with_name e.0 (stored_by e.1.version e.1.«data»)) cells

-- cells in name order, none with a change
pub record AreQuiet (cells : List (Name × Cell)) : Type 0 where
  pub rising : IsRising cells
  pub quiet : (x : Name) (cell : Cell) → value_at x cells ≡ Some cell → cell.write ≡ None

-- the cell of a record that was logged at an LSN; the last image of its BIN shows that
abbrev pub loaded_cell : ℕ → List ℕ → Cell
loaded_cell lsn value = record { version = There lsn; shown = There lsn; touched = lsn; «data» = value; write = None }

-- a cell with what was committed of its name: the record that was logged at an LSN, or none
abbrev pub with_logged : Option (List ℕ) → ℕ → ℕ → Option ℕ → Cell → Cell
with_logged (Some value) at commit last cell = with_version (There at) value commit last cell
with_logged None at commit last cell = with_version Deleted [] commit last cell

-- one cell changed: what is committed of its name is what was logged at an LSN, the record's data or none
pub record HasLogged (old new : List (Name × Cell)) (name : Name) (value : Option (List ℕ)) (lsn : ℕ) : Type 0 where
  pub commit : ℕ
  pub last : Option ℕ
  pub cell : HasCell old new name (with_logged value lsn commit last (cell_or_fresh (value_at name old)))

-- ---- a change that is redone

-- what is committed where a change was logged at an LSN: the record there, or that it was deleted
abbrev pub version_logged : ℕ → Option (List ℕ) → Version
version_logged at None = Deleted
version_logged at (Some value) = There at

-- this is committed of a name already
abbrev pub IsLoggedAlready : List (Name × Cell) → Name → ℕ → Option (List ℕ) → Type 0
IsLoggedAlready cells name at value = (cell_or_fresh (value_at name cells)).version ≡ version_logged at value

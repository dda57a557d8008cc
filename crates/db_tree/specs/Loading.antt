-- Nodes that are put while a log is read again, and the slots of records that were deleted.
use Rattle.std.specs.Prelude.{◌≡◌, ◌≤◌, ◌⊎◌, ◌&&◌, not, ℕ, Bool, false, List, [], Option, None, Some, IsSome, option_map, if◌then◌else◌}
use Rattle.je_order.specs.declared.name.Name.{Name}
use Rattle.node_core.specs.Changes.{is_committed}
use Rattle.node_core.specs.declared.slot.Version.TheVariants.{Deleted}
use Rattle.record_map.specs.declared.cell.Cell.{Cell}
use Rattle.record_map.specs.Cells.{value_at}
use Rattle.record_tree.specs.LoadedNodes.{LoadedNode}
use Rattle.record_tree.specs.LoadedSlots.{ReadSlot}
use Rattle.tree_nodes.specs.declared.node.Node.{Node}
use Rattle.tree_nodes.specs.Nodes.{NodeRow, least}
use Rattle.tree_nodes.specs.Levels.{row_of}

-- a node, as far as reading a log goes
abbrev pub loaded_by : Node → LoadedNode
loaded_by node = record { number = node.number; last = node.last; from = node.from; waits = node.forced }

-- the node of a level with a low
abbrev pub loaded_in : List NodeRow → ℕ → Name → Option LoadedNode
loaded_in rows level low = option_map loaded_by (value_at low (row_of rows level))

-- levels with more nodes, up to a level: they have the low, or the least one
pub record HasMore (old new : List NodeRow) (level : ℕ) (low : Name) : Type 0 where
  pub kept : (k : ℕ) (x : Name) (n : Node) → value_at x (row_of old k) ≡ Some n → value_at x (row_of new k) ≡ Some n
  pub made : (k : ℕ) (x : Name) → IsSome (value_at x (row_of new k)) → IsSome (value_at x (row_of old k)) ⊎ ((k ≤ level) × ((x ≡ low) ⊎ (x ≡ least)))

-- levels with a node put under a low, which is one of each level below too; a level that was not there has the least low
pub record HasLoaded (old new : List NodeRow) (level : ℕ) (low : Name) (node : Node) : Type 0 where
  pub here : value_at low (row_of new level) ≡ Some node
  pub below : (k : ℕ) → k ≤ level → IsSome (value_at low (row_of new k))
  pub kept : (k : ℕ) (x : Name) (n : Node) → value_at x (row_of old k) ≡ Some n → (k ≡ level → x ≡ low → ⊥) → value_at x (row_of new k) ≡ Some n
  pub made : (k : ℕ) (x : Name) → IsSome (value_at x (row_of new k)) → IsSome (value_at x (row_of old k)) ⊎ ((k ≤ level) × ((x ≡ low) ⊎ (x ≡ least)))

-- a node was put as it was read
pub record IsLoaded (old new : List NodeRow) (level : ℕ) (low : Name) (as_read : LoadedNode) : Type 0 where
  pub node : Node
  pub is : loaded_by node ≡ as_read
  pub put : HasLoaded old new level low node

-- ---- slots of records that were deleted

-- whether the next image of its BIN has a slot of a cell's name
abbrev pub has_version : Option Cell → Bool
has_version None = false
has_version (Some cell) = is_committed cell.version

-- the cell of a record that was deleted, as the image of its BIN at an LSN shows it
abbrev pub deleted_cell : ℕ → Cell
deleted_cell at = record { version = Deleted; shown = Deleted; touched = at; «data» = []; write = None }

-- of the names that a test finds, each that has no slot got that cell; all else is as before
abbrev pub GetsDeletions : (Name → Bool) → ℕ → List (Name × Cell) → List (Name × Cell) → Type 0
GetsDeletions shown at old new = (x : Name) → value_at x new ≡ (if shown x && not (has_version (value_at x old)) then Some (deleted_cell at) else value_at x old)

-- what is read of a name, as its cell has it
abbrev pub slot_read : Cell → ReadSlot
slot_read cell = record { version = cell.version; shown = cell.shown; touched = cell.touched }

-- A tree, as far as its splits depend on it, and what a name's slot takes.
use Rattle.std.specs.Prelude.{◌≡◌, ◌+◌, ℕ, Bool, true, false, List, [], ◌∷◌, None, IsSome, map, option_map, length}
use Rattle.std.specs.List.{AllByRecursion}
use Rattle.je_order.specs.declared.name.Name.{Name}
use Rattle.record_map.specs.declared.cell.Cell.{Cell}
use Rattle.record_map.specs.Cells.{value_at, IsRising}
use Rattle.tree_nodes.specs.declared.node.Node.{Node}
use Rattle.tree_nodes.specs.Nodes.{NodeRow, least}
use Rattle.tree_nodes.specs.Levels.{row_of, AreParts}
use Rattle.tree_nodes.specs.Lows.{lows_of}
use Rattle.db_tree.specs.declared.node_at.NodeAt.{NodeAt}
use Rattle.db_tree.specs.declared.slot_room.SlotRoom.{SlotRoom}
use Rattle.db_tree.specs.declared.tree.DbTree.{DbTree}
use Rattle.db_tree.specs.NodeImages.{node_of, sizes_in, AreLoggable}
use Rattle.db_tree.specs.Seen.{occupied}
use Rattle.db_tree.specs.Splits.{Shape, one_if, shape_with, image_sizes, nodes_made, passes_top, count_waiting}
use Rattle.db_tree.specs.Splitting.{AreGrown}
use Rattle.db_tree.specs.Trees.{HasCell, cell_or_fresh}
use Rattle.db_tree.specs.Waiting.{is_among, waits_at, waiting_of}

abbrev pub shape_in : DbTree → Shape
shape_in tree = record { cells = tree.cells; lows = lows_of tree.levels; waiting = waiting_of tree.levels }

-- the tree of a new database
abbrev pub new_shape : Shape
new_shape = record { cells = []; lows = (least ∷ []) ∷ []; waiting = [] ∷ [] }

-- levels that have the same lows, and in which the same nodes wait
pub record AreAlike (old new : List NodeRow) : Type 0 where
  pub lows : lows_of new ≡ lows_of old
  pub waits : waiting_of new ≡ waiting_of old

-- how many nodes of a tree wait to be logged
abbrev pub count_in : DbTree → ℕ
count_in tree = count_waiting (shape_in tree)

-- how many nodes were made for a slot
abbrev pub made_by : SlotRoom → ℕ
made_by room = length room.splits.items + one_if room.is_raised

-- ---- a slot that can be taken back

-- a node that waits to be logged, or does not
abbrev pub with_forced : Bool → Node → Node
with_forced forced node = record node { forced = forced }

abbrev pub forced_if : Bool → Bool → Node → Node
forced_if true forced node = with_forced forced node
forced_if false forced node = node

-- levels in which some nodes wait, or do not; nothing else changed
pub record AreForced (forced : Bool) (nodes : List NodeAt) (old new : List NodeRow) : Type 0 where
  pub was_parts : AreParts old
  pub parts : AreParts new
  pub height : length new ≡ length old
  pub each : (k : ℕ) (x : Name) → value_at x (row_of new k) ≡ option_map (forced_if (is_among nodes k x) forced) (value_at x (row_of old k))

-- a name that had no cell got one, or nothing changed
abbrev pub IsCellMade : Bool → Name → List (Name × Cell) → List (Name × Cell) → Type 0
IsCellMade true name old new = IsRising old × (value_at name old ≡ None) × HasCell old new name (cell_or_fresh (value_at name old))
IsCellMade false name old new = new ≡ old

-- what was done for a slot, so that it can be undone
pub record IsUndoable (name : Name) (room : SlotRoom) (old new : DbTree) : Type 0 where
  pub mid : List NodeRow
  pub grown : AreGrown room.splits.items room.is_raised old.levels mid
  pub cleared : AreForced false (map node_of room.images.items) mid new.levels
  -- each image has whether its node waited
  pub waited : AllByRecursion (λ image. image.waited ≡ waits_at mid image.level image.low) room.images.items
  pub cells : IsCellMade room.is_new name old.cells new.cells

-- a name has a slot, for which nodes were split
pub record IsPlaced (fanout : ℕ) (name : Name) (room : SlotRoom) (old new : DbTree) : Type 0 where
  pub there : IsSome (value_at name new.cells)
  pub same : occupied new.cells ≡ occupied old.cells
  pub kept : (x : Name) → IsSome (value_at x old.cells) → IsSome (value_at x new.cells)
  pub shape : shape_in new ≡ shape_with fanout name (shape_in old)
  pub sizes : sizes_in room.images.items ≡ image_sizes fanout name (shape_in old)
  pub loggable : AreLoggable room.images.items
  pub made : made_by room ≡ nodes_made fanout name (shape_in old)
  pub low : passes_top fanout name (shape_in old) ≡ false
  pub back : IsUndoable name room old new

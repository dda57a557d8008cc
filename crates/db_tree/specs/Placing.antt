-- What is known of a name's slot while it is made.
use Rattle.std.specs.Prelude.{◌≡◌, ℕ, false, List, IsSome, map}
use Rattle.std.specs.BTreeMap.{insert_entry}
use Rattle.std.specs.List.{AllByRecursion}
use Rattle.je_order.specs.Order.{name_cmp}
use Rattle.je_order.specs.declared.name.Name.{Name}
use Rattle.record_map.specs.Cells.{value_at, fresh}
use Rattle.db_tree.specs.declared.node_at.NodeAt.{NodeAt}
use Rattle.db_tree.specs.declared.node_image.NodeImage.{NodeImage}
use Rattle.db_tree.specs.declared.node_split.NodeSplit.{NodeSplit}
use Rattle.db_tree.specs.declared.slot_room.SlotRoom.{SlotRoom}
use Rattle.db_tree.specs.declared.tree.DbTree.{DbTree}
use Rattle.db_tree.specs.NodeImages.{sizes_in, AreLoggable, AreNodeImages}
use Rattle.db_tree.specs.Seen.{occupied}
use Rattle.db_tree.specs.Shapes.{shape_in, made_by, AreForced, IsUndoable}
use Rattle.db_tree.specs.Splits.{shape_behind, logged_by, made_for, node_size}
use Rattle.db_tree.specs.Trees.{HasCell, cell_or_fresh}
use Rattle.db_tree.specs.Waiting.{waits_at}

-- images of nodes were made, which wait no more then; the rest of the tree is as it was
pub record AreTaken (db : ℕ) (nodes : List NodeAt) (made : List NodeImage) (old new : DbTree) : Type 0 where
  pub images : AreNodeImages db new.levels new.cells nodes made
  pub loggable : AreLoggable made
  pub waited : AllByRecursion (λ image. image.waited ≡ waits_at old.levels image.level image.low) made
  pub cleared : AreForced false nodes old.levels new.levels

-- a name got a cell, and then the images of nodes were made
pub record IsFilled (db : ℕ) (name : Name) (nodes : List NodeAt) (made : List NodeImage) (old new : DbTree) : Type 0 where
  pub images : AreTaken db nodes made old new
  pub cells : new.cells ≡ insert_entry name_cmp old.cells name fresh
  pub cell : HasCell old.cells new.cells name (cell_or_fresh (value_at name old.cells))
  pub there : IsSome (value_at name new.cells)
  pub same : occupied new.cells ≡ occupied old.cells
  pub kept : (x : Name) → IsSome (value_at x old.cells) → IsSome (value_at x new.cells)

-- a name got a slot for which these nodes were split
pub record IsPlacedBy (db : ℕ) (splits : List NodeSplit) (name : Name) (room : SlotRoom) (old new : DbTree) : Type 0 where
  pub there : IsSome (value_at name new.cells)
  pub same : occupied new.cells ≡ occupied old.cells
  pub kept : (x : Name) → IsSome (value_at x old.cells) → IsSome (value_at x new.cells)
  pub shape : shape_in new ≡ shape_behind splits name (shape_in old)
  pub images : AreNodeImages db new.levels new.cells (logged_by splits (shape_in old)) room.images.items
  pub sizes : sizes_in room.images.items ≡ map (node_size (shape_behind splits name (shape_in old))) (logged_by splits (shape_in old))
  pub loggable : AreLoggable room.images.items
  pub made : made_by room ≡ made_for splits (shape_in old).lows
  pub back : IsUndoable name room old new

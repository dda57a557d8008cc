-- Nodes that are split for a name's slot leave BINs dirty exactly where they have not their last images' content.
use Rattle.std.proofs.Common.{ℕ, refl}
use Rattle.je_order.specs.declared.name.Name.{Name}
use Rattle.record_map.specs.Cells.{value_at, IsRising}
use Rattle.tree_nodes.specs.Levels.{AreParts}
use Rattle.db_tree.specs.declared.tree.DbTree.{DbTree}
use Rattle.db_tree.specs.NodeSteps.{AreSplitWaiting, slot_splits}
use Rattle.db_tree.specs.Shapes.{shape_in}
use Rattle.db_tree.specs.Trees.{cell_or_fresh, HasCell}
use Rattle.db_tree.proofs.Records.{same_kept}
use Rattle.tree_images.specs.TreeSteps.{KeepsExact}
use Rattle.tree_images.proofs.Exact.{unlogged_exact}

pub split_exact : (fanout first : ℕ) (x : Name) (old new : DbTree) → AreParts old.levels → IsRising old.cells → IsRising new.cells → HasCell old.cells new.cells x (cell_or_fresh (value_at x old.cells)) →
    AreSplitWaiting first (slot_splits fanout x (shape_in old)) old.levels new.levels → KeepsExact old new
split_exact fanout first x old new parts up_old up_new cell split due exact =
    unlogged_exact due fanout first x old new parts split up_old up_new (same_kept old.cells new.cells x (cell_or_fresh (value_at x old.cells)) cell refl) exact

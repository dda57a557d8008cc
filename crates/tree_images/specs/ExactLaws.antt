-- Which BINs are dirty, where nodes are split for a name's slot, and where trees are new.
use Rattle.std.specs.Prelude.{◌≡◌, ℕ, true, Bool, List, ◌++◌, length, map}
use Rattle.je_order.specs.declared.name.Name.{Name}
use Rattle.record_map.specs.declared.cell.Cell.{Cell}
use Rattle.record_map.specs.Cells.{IsRising}
use Rattle.tree_nodes.specs.Nodes.{NodeRow}
use Rattle.tree_nodes.specs.Levels.{AreParts}
use Rattle.db_tree.specs.declared.node_at.NodeAt.{NodeAt}
use Rattle.db_tree.specs.declared.node_split.NodeSplit.{NodeSplit}
use Rattle.db_tree.specs.declared.slot_room.SlotRoom.{SlotRoom}
use Rattle.db_tree.specs.declared.tree.DbTree.{DbTree}
use Rattle.db_tree.specs.Content.{kept_by}
use Rattle.db_tree.specs.Dirty.{AreExact}
use Rattle.db_tree.specs.NodeImages.{node_of, AreNodeImages}
use Rattle.db_tree.specs.NodeSteps.{AreSplitWaiting, IsOneNode, slot_splits}
use Rattle.db_tree.specs.Shapes.{IsPlaced, shape_in}
use Rattle.db_tree.specs.Splits.{nodes_logged, splits_of}
use Rattle.db_tree.specs.Splitting.{AreGrown}
use Rattle.db_tree.specs.Waiting.{halves_of, is_among, root_at}
use Rattle.tree_images.specs.PlaceLaws.{AreSplitsOf}

-- where nodes were split and a root was put above them, each BIN but the halves is dirty exactly where it has not its last image's content
abbrev pub GrownBinsAreExact : Type 0
GrownBinsAreExact = (start due : List NodeAt) (splits : List NodeSplit) (raised : Bool) (old new : List NodeRow) (cells : List (Name × Cell)) → AreParts old → AreParts new → AreGrown splits raised old new → AreSplitsOf splits old →
    ((low : Name) → is_among start 0 low ≡ true → is_among due 0 low ≡ true) → ((level : ℕ) (low : Name) → is_among (halves_of 0 splits ++ root_at (length splits) raised) level low ≡ true → is_among due level low ≡ true) →
    AreExact start old cells → AreExact due new cells

-- so it is with each BIN where a name got its slot and the halves wait
abbrev pub UnloggedBinsAreExact : Type 0
UnloggedBinsAreExact = (due : List NodeAt) (fanout first : ℕ) (x : Name) (old new : DbTree) → AreParts old.levels → AreSplitWaiting first (slot_splits fanout x (shape_in old)) old.levels new.levels →
    IsRising old.cells → IsRising new.cells → ((y : Name) → kept_by new.cells y ≡ kept_by old.cells y) → AreExact due old.levels old.cells → AreExact due new.levels new.cells

-- and with each BIN but those that are to be logged
abbrev pub PlacedBinsAreExact : Type 0
PlacedBinsAreExact = (due : List NodeAt) (d fanout : ℕ) (x : Name) (room : SlotRoom) (old new : DbTree) → AreParts old.levels → IsPlaced fanout x room old new →
    AreNodeImages d new.levels new.cells (nodes_logged fanout x (shape_in old)) room.images.items → (room.is_new ≡ true → room.splits.items ≡ splits_of fanout x (shape_in old)) →
    IsRising new.cells → AreExact due old.levels old.cells → AreExact (map node_of room.images.items ++ due) new.levels new.cells

-- and so it is with a new tree
abbrev pub NewBinsAreExact : Type 0
NewBinsAreExact = (due : List NodeAt) (number : ℕ) (rows : List NodeRow) (cells : List (Name × Cell)) → IsOneNode rows number → AreExact due rows cells

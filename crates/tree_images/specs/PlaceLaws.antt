-- What holds of the nodes of all trees that fit a log where nodes are split for a name's slot.
use Rattle.std.specs.Prelude.{◌≡◌, ◌<◌, ◌≤◌, ◌+◌, ◌-◌, ◌^◌, ℕ, zero, suc, nat_lt, if◌then◌else◌, Bool, true, false, List, [], ◌∷◌, ◌++◌, Some, IsSome, map, length}
use Rattle.std.specs.List.{slice_get}
use Rattle.std.specs.Map.{keys_of}
use Rattle.je_order.specs.declared.name.Name.{Name}
use Rattle.record_map.specs.declared.cell.Cell.{Cell}
use Rattle.record_map.specs.Cells.{value_at}
use Rattle.tree_nodes.specs.declared.node.Node.{Node}
use Rattle.tree_nodes.specs.Nodes.{NodeRow, least, IsOver}
use Rattle.tree_nodes.specs.Levels.{row_of, AreParts}
use Rattle.tree_nodes.specs.Lows.{lows_of}
use Rattle.log_trees.specs.Sound.{Home}
use Rattle.db_tree.specs.declared.node_at.NodeAt.{NodeAt}
use Rattle.db_tree.specs.declared.node_split.NodeSplit.{NodeSplit}
use Rattle.db_tree.specs.declared.slot_room.SlotRoom.{SlotRoom}
use Rattle.db_tree.specs.declared.tree.DbTree.{DbTree}
use Rattle.db_tree.specs.NodeImages.{node_of, AreNodeImages}
use Rattle.db_tree.specs.Images.{Placed}
use Rattle.db_tree.specs.Numbers.{AreNewNumbered}
use Rattle.db_tree.specs.Splits.{made_for, splits_of, nodes_logged, splits_from, is_raised, lows_behind, one_if}
use Rattle.db_tree.specs.Splitting.{AreGrown}
use Rattle.db_tree.specs.NodeSteps.{IsNoted, AreSplitWaiting, slot_splits}
use Rattle.db_tree.specs.Shapes.{AreForced, IsPlaced, shape_in, made_by}
use Rattle.db_tree.specs.Waiting.{waiting_of, halves_of, root_at, logged_for, is_among}
use Rattle.tree_images.specs.Sound.{IsNumber}
use Rattle.tree_images.specs.Fits.{AreImaged}
use Rattle.tree_images.specs.Laws.{AgreesUpTo}
use Rattle.tree_images.specs.NodeLaws.{AreChildrenLogged}

-- ---- the numbers of new nodes

-- the low of the node that splits make on a level: the middle of that level's split, and the least name for a root above
abbrev pub made_low : List NodeSplit → ℕ → Name
made_low [] level = least
made_low (split ∷ splits) zero = split.middle
made_low (split ∷ splits) (suc level) = made_low splits level

-- a home with the places of the nodes that splits of a database's tree make, whose numbers follow one another from a first one on
abbrev pub home_with : (ℕ → Home) → ℕ → ℕ → List NodeSplit → ℕ → Home
home_with home first d splits number = if nat_lt number first then home number else record { db = d; above = number - first; low = made_low splits (number - first) }

-- it agrees on the numbers that were allocated before
abbrev pub NewHomesAgree : Type 0
NewHomesAgree = (home : ℕ → Home) (last first d : ℕ) (splits : List NodeSplit) → last < first → AgreesUpTo last home (home_with home first d splits)

-- a new tree's root, which alone is made, has its place
abbrev pub NewRootsAreAtHome : Type 0
NewRootsAreAtHome = (home : ℕ → Home) (first d : ℕ) → IsNumber (home_with home first d []) first d first 0 least

-- ---- splits

-- each split is of the node over its middle
abbrev pub AreSplitsOf : List NodeSplit → List NodeRow → Type 0
AreSplitsOf splits rows = (level : ℕ) (split : NodeSplit) → slice_get splits level ≡ Some split → (node : Node) × IsOver (row_of rows level) split.middle (split.low, node)

-- so it is with the splits for a name's slot
abbrev pub SplitsAreOfNodes : Type 0
SplitsAreOfNodes = (fanout : ℕ) (x : Name) (cells : List (Name × Cell)) (rows : List NodeRow) → AreParts rows → AreSplitsOf (splits_from fanout x (keys_of cells) (lows_of rows)) rows

-- where nodes were split and a root was put above them, the halves and the root are still to be logged
abbrev pub GrownNodesAreImaged : Type 0
GrownNodesAreImaged = (es : Placed) (home : ℕ → Home) (last d : ℕ) (due : List NodeAt) (splits : List NodeSplit) (raised : Bool) (first later : ℕ) (old new : List NodeRow) →
    AreParts old → AreParts new → AreGrown splits raised old new → raised ≡ is_raised splits (lows_of old) → lows_of new ≡ lows_behind splits (lows_of old) → AreSplitsOf splits old →
    AreNewNumbered first splits raised new → last < first → first + (length splits + one_if raised) ≤ suc later → later < 2 ^ 64 →
    ((level : ℕ) (low : Name) → is_among (halves_of 0 splits ++ root_at (length splits) raised) level low ≡ true → is_among due level low ≡ true) →
    AreImaged es home last d [] old → AreImaged es (home_with home first d splits) later d due new

-- ---- the order in which nodes are logged

-- each node that is to be logged is there, and its children do not wait, and are not to be logged with it or behind it
abbrev pub AreInOrder : List NodeRow → List NodeAt → Type 0
AreInOrder rows [] = Unit {0}
AreInOrder rows (n ∷ due) = IsSome (value_at n.low (row_of rows n.level)) × AreChildrenLogged rows (n ∷ due) n.level n.low × AreInOrder rows due

-- so it stays where a node is logged
abbrev pub OrdersStay : Type 0
OrdersStay = (due : List NodeAt) (old new : List NodeRow) (level : ℕ) (low : Name) (at : ℕ) → IsNoted old new level low at → AreInOrder old due → AreInOrder new due

-- so it is with the nodes that are logged for a name's slot, which wait no more
abbrev pub PlacedNodesAreInOrder : Type 0
PlacedNodesAreInOrder = (fanout : ℕ) (x : Name) (cells : List (Name × Cell)) (splits : List NodeSplit) (raised : Bool) (old mid new : List NodeRow) →
    AreParts old → AreParts mid → AreParts new → splits ≡ splits_from fanout x (keys_of cells) (lows_of old) → raised ≡ is_raised splits (lows_of old) → AreGrown splits raised old mid →
    ((level : ℕ) (low : Name) → suc level ≡ length old → IsSome (value_at low (row_of old level)) → low ≡ least) →
    AreForced false (logged_for splits raised (waiting_of old)) mid new → AreInOrder new (logged_for splits raised (waiting_of old))

-- ---- the whole

-- a name got its slot as `place` makes it: the tree fits but for the nodes of its images, which stand in the order in which they are logged; a new root
-- is among them
pub record IsPlacedWith (es : Placed) (home : ℕ → Home) (later d : ℕ) (room : SlotRoom) (new : DbTree) : Type 0 where
  pub imaged : AreImaged es home later d (map node_of room.images.items) new.levels
  pub order : AreInOrder new.levels (map node_of room.images.items)
  pub root : room.is_raised ≡ true → (level : ℕ) → suc level ≡ length new.levels → is_among (map node_of room.images.items) level least ≡ true

abbrev pub PlacedTreesAreImaged : Type 0
PlacedTreesAreImaged = (es : Placed) (home : ℕ → Home) (last d fanout : ℕ) (x : Name) (room : SlotRoom) (first later : ℕ) (old new : DbTree) →
    AreParts old.levels → AreParts new.levels → IsPlaced fanout x room old new → AreNodeImages d new.levels new.cells (nodes_logged fanout x (shape_in old)) room.images.items →
    AreNewNumbered first room.splits.items room.is_raised new.levels → (room.is_new ≡ true → room.splits.items ≡ splits_of fanout x (shape_in old)) →
    last < first → first + made_by room ≤ suc later → later < 2 ^ 64 → AreImaged es home last d [] old.levels →
    IsPlacedWith es (home_with home first d room.splits.items) later d room new

-- a name got its slot without images, as `place_unlogged` makes it: the nodes that were split wait, and the tree fits
abbrev pub UnloggedTreesAreImaged : Type 0
UnloggedTreesAreImaged = (es : Placed) (home : ℕ → Home) (last d fanout : ℕ) (x : Name) (first later : ℕ) (old new : DbTree) →
    AreParts old.levels → AreSplitWaiting first (slot_splits fanout x (shape_in old)) old.levels new.levels →
    last < first → first + made_for (slot_splits fanout x (shape_in old)) (lows_of old.levels) ≤ suc later → later < 2 ^ 64 → AreImaged es home last d [] old.levels →
    AreImaged es (home_with home first d (slot_splits fanout x (shape_in old))) later d [] new.levels

-- What holds of the nodes of all trees that fit a log, step by step.
use Rattle.std.specs.Prelude.{◌≡◌, ◌<◌, ◌≤◌, ℕ, zero, suc, true, false, List, [], ◌∷◌, ◌++◌, Some}
use Rattle.std.specs.List.{AllByRecursion}
use Rattle.je_order.specs.Edges.{is_between}
use Rattle.je_order.specs.Edges.Edge.{At}
use Rattle.je_order.specs.declared.name.Name.{Name}
use Rattle.log_entry.specs.Body.{IsEntry}
use Rattle.log_entry.specs.declared.entry.Entry.{Entry}
use Rattle.record_map.specs.declared.cell.Cell.{Cell}
use Rattle.record_map.specs.Cells.{value_at, upper_edge, IsRising}
use Rattle.tree_nodes.specs.declared.node.Node.{Node}
use Rattle.tree_nodes.specs.Nodes.{NodeRow, least, low_behind}
use Rattle.tree_nodes.specs.Levels.{row_of, AreParts}
use Rattle.log_trees.specs.Sound.{Home}
use Rattle.db_tree.specs.declared.node_at.NodeAt.{NodeAt}
use Rattle.db_tree.specs.Content.{NameState, bin_image, in_image, kept_by}
use Rattle.db_tree.specs.Images.{Placed}
use Rattle.db_tree.specs.NodeImages.{IsNodeImage, number_of, finished}
use Rattle.db_tree.specs.declared.node_image.NodeImage.{NodeImage}
use Rattle.tree_nodes.specs.Lows.{lows_of}
use Rattle.db_tree.specs.NodeSteps.{AreSameNodes, AreWaiting, IsNoted, IsOneNode}
use Rattle.db_tree.specs.Shapes.{AreForced}
use Rattle.db_tree.specs.Trees.{IsTreeOf, IsMark, IsImageOf}
use Rattle.db_tree.specs.Waiting.{is_among}
use Rattle.tree_images.specs.Sound.{IsNumber, IsSoundImage}
use Rattle.tree_images.specs.Fits.{AreImaged, AreRecorded}

-- ---- nodes that are still to be logged

-- more nodes may be still to be logged than are
abbrev pub MoreNodesAreDue : Type 0
MoreNodesAreDue = (es : Placed) (home : ℕ → Home) (last d : ℕ) (due more : List NodeAt) (rows : List NodeRow) → ((level : ℕ) (low : Name) → is_among due level low ≡ true → is_among more level low ≡ true) →
    AreImaged es home last d due rows → AreImaged es home last d more rows

-- marks do not matter, nor that nodes wait which did not
abbrev pub SameNodesAreImaged : Type 0
SameNodesAreImaged = (es : Placed) (home : ℕ → Home) (last d : ℕ) (due : List NodeAt) (old new : List NodeRow) → AreSameNodes old new → AreImaged es home last d due old → AreImaged es home last d due new

-- nodes that are still to be logged need not wait
abbrev pub ClearedNodesAreImaged : Type 0
ClearedNodesAreImaged = (es : Placed) (home : ℕ → Home) (last d : ℕ) (due : List NodeAt) (old new : List NodeRow) → AreForced false due old new → AreImaged es home last d due old → AreImaged es home last d due new

-- ---- a node is logged

-- the image of the node of a level with a low, whose children all have images
abbrev pub image_of : ℕ → ℕ → ℕ → Name → List NodeRow → List (Name × Cell) → Entry
image_of d number zero low rows cells = bin_image d number low (row_of rows 0) cells
image_of d number (suc k) low rows cells = in_image d number (suc (suc k)) low (row_of rows (suc k)) (row_of rows k)

-- the children of the node of a level with a low do not wait, and none of them is still to be logged
abbrev pub AreChildrenLogged : List NodeRow → List NodeAt → ℕ → Name → Type 0
AreChildrenLogged rows due zero low = Unit {0}
AreChildrenLogged rows due (suc k) low = (q : Name) (c : Node) → value_at q (row_of rows k) ≡ Some c →
    is_between (At low) (upper_edge (low_behind low (row_of rows (suc k)))) q ≡ true → (c.forced ≡ false) × (is_among due k q ≡ false)

-- an image that was made of a node before its children were logged is this one once it has their LSNs, if no node was split since
abbrev pub FinishedImagesAreWhole : Type 0
FinishedImagesAreWhole = (es : Placed) (home : ℕ → Home) (last d : ℕ) (due : List NodeAt) (before rows : List NodeRow) (cells : List (Name × Cell)) (image : NodeImage) (n : Node) →
    IsNodeImage d before cells image → lows_of rows ≡ lows_of before → number_of before image.level image.low ≡ n.number → AreParts rows → AreImaged es home last d due rows →
    value_at image.low (row_of rows image.level) ≡ Some n → AreChildrenLogged rows due image.level image.low → (finished rows image).entry ≡ image_of d n.number image.level image.low rows cells

-- a tree, but for nodes still to be logged, and an LSN behind its log, at which the image of one of its nodes is logged
pub record MayLog (es : Placed) (home : ℕ → Home) (last d : ℕ) (due : List NodeAt) (rows : List NodeRow) (cells : List (Name × Cell)) (level : ℕ) (low : Name) (n : Node) (at : ℕ) : Type 0 where
  pub parts : AreParts rows
  pub rising : IsRising cells
  pub behind : AllByRecursion (λ p. p.0 < at) es
  pub imaged : AreImaged es home last d due rows
  pub recorded : AreRecorded es d cells
  -- what is committed was committed before it
  pub touched : (x : Name) → (kept_by cells x).touched ≤ at
  pub there : value_at low (row_of rows level) ≡ Some n
  pub children : AreChildrenLogged rows due level low
  pub entry : IsEntry (image_of d n.number level low rows cells)

-- the image is sound
abbrev pub LoggedImagesAreSound : Type 0
LoggedImagesAreSound = (es : Placed) (home : ℕ → Home) (last d : ℕ) (due : List NodeAt) (rows : List NodeRow) (cells : List (Name × Cell)) (level : ℕ) (low : Name) (n : Node) (at : ℕ) →
    MayLog es home last d due rows cells level low n at →
    IsSoundImage (es ++ (at, image_of d n.number level low rows cells) ∷ []) home last d level low (low_behind low (row_of rows level)) at

-- and has the node's content
abbrev pub LoggedImagesHaveContent : Type 0
LoggedImagesHaveContent = (es : Placed) (home : ℕ → Home) (last d : ℕ) (due : List NodeAt) (rows : List NodeRow) (cells : List (Name × Cell)) (level : ℕ) (low : Name) (n : Node) (at : ℕ) →
    MayLog es home last d due rows cells level low n at →
    IsImageOf (es ++ (at, image_of d n.number level low rows cells) ∷ []) rows (kept_by cells) level (low, n) at

-- the node is logged: one node fewer is still to be logged
abbrev pub LoggedNodesAreImaged : Type 0
LoggedNodesAreImaged = (es : Placed) (home : ℕ → Home) (last d : ℕ) (due : List NodeAt) (old new : List NodeRow) (cells : List (Name × Cell)) (level : ℕ) (low : Name) (n : Node) (at : ℕ) →
    MayLog es home last d (record { level = level; low = low } ∷ due) old cells level low n at → IsNoted old new level low at →
    AreImaged (es ++ (at, image_of d n.number level low old cells) ∷ []) home last d due new

-- ---- a node is logged by itself

-- a node of a tree that fits is logged, whose children do not wait
abbrev pub FlushedNodesAreImaged : Type 0
FlushedNodesAreImaged = (es : Placed) (home : ℕ → Home) (last d : ℕ) (old new : List NodeRow) (cells : List (Name × Cell)) (level : ℕ) (low : Name) (n : Node) (at : ℕ) →
    MayLog es home last d [] old cells level low n at → IsNoted old new level low at → AreImaged (es ++ (at, image_of d n.number level low old cells) ∷ []) home last d [] new

-- ---- nodes that wait

-- nodes that wait to be logged need no images
abbrev pub WaitingNodesAreImaged : Type 0
WaitingNodesAreImaged = (es : Placed) (home : ℕ → Home) (last d : ℕ) (due : List NodeAt) (old new : List NodeRow) → AreWaiting due old new → AreImaged es home last d due old → AreImaged es home last d [] new

-- ---- marks

-- each node is as it was, perhaps with an earlier mark
pub record AreMarkedEarlier (old new : List NodeRow) : Type 0 where
  pub same : AreSameNodes old new
  pub marks : (level : ℕ) (x : Name) (m n : Node) → value_at x (row_of old level) ≡ Some m → value_at x (row_of new level) ≡ Some n → IsMark m n

-- the tree is one of its log then
abbrev pub EarlierMarksKeepTrees : Type 0
EarlierMarksKeepTrees = (es : Placed) (base : ℕ) (newest : Name → ℕ) (old new : List NodeRow) (held : Name → NameState) → AreMarkedEarlier old new → IsTreeOf es base newest old held → IsTreeOf es base newest new held

-- ---- a new tree

-- a tree of one node with a number of its own place has no image
abbrev pub NewTreesAreImaged : Type 0
NewTreesAreImaged = (es : Placed) (home : ℕ → Home) (last d number : ℕ) (rows : List NodeRow) → IsOneNode rows number → IsNumber home last d number 0 least → AreImaged es home last d [] rows

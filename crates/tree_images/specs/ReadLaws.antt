-- Trees that are made of the images that were read.
use Rattle.std.specs.Prelude.{◌≡◌, ◌<◌, ℕ, zero, suc, true, false, List, Option, None, Some, IsSome, length, map, option_map}
use Rattle.std.specs.List.{AllByRecursion}
use Rattle.je_order.specs.declared.name.Name.{Name}
use Rattle.record_map.specs.declared.cell.Cell.{Cell}
use Rattle.record_map.specs.Cells.{value_at, IsRising}
use Rattle.tree_nodes.specs.declared.node.Node.{Node}
use Rattle.tree_nodes.specs.Nodes.{NodeRow, least, low_behind, IsOver}
use Rattle.tree_nodes.specs.Levels.{row_of, AreParts}
use Rattle.log_trees.specs.Sound.{Child, children, Home}
use Rattle.log_trees.specs.Building.{child_shown}
use Rattle.log_meaning.specs.Checkpoint.{Checkpoint}
use Rattle.log_meaning.specs.ReadNodes.{AreReadFrom}
use Rattle.record_tree.specs.LoadedNodes.{AllNodes}
use Rattle.record_tree.specs.LoadedSlots.{AllRead}
use Rattle.record_tree.specs.Stored.{AllStored}
use Rattle.db_tree.specs.declared.tree.DbTree.{DbTree}
use Rattle.db_tree.specs.Loading.{loaded_in, slot_read}
use Rattle.db_tree.specs.Stored.{stored_under}
use Rattle.node_core.specs.declared.slot.Version.TheVariants.{Unset}
use Rattle.db_tree.specs.Content.{kept_by}
use Rattle.db_tree.specs.Images.{Placed, entry_at, version_imaged}
use Rattle.tree_images.specs.Sound.{IsNumber, IsSoundImage}
use Rattle.tree_images.specs.Fits.{AreRecorded, FitsTree}
use Rattle.tree_images.specs.Forest.{ForestFits}

-- a child of an image is a node of a level: it has the child's image as its last one, and its bounds
pub record IsChildNode (row : NodeRow) (c : Child) : Type 0 where
  pub node : Node
  pub there : value_at c.low row ≡ Some node
  pub last : node.last ≡ Some c.at
  pub behind : low_behind c.low row ≡ c.high

-- so are all children of a sound image; a BIN's has none
abbrev pub AreChildNodes : (es : Placed) (home : ℕ → Home) (last d : ℕ) (rows : List NodeRow) (level : ℕ) (low : Name) (at : ℕ) → IsSoundImage es home last d level low (low_behind low (row_of rows level)) at → Type 0
AreChildNodes es home last d rows zero low at s = Unit {0}
AreChildNodes es home last d rows (suc k) low at s = AllByRecursion (IsChildNode (row_of rows k)) (children low (low_behind low (row_of rows (suc k))) (map child_shown s.slots))

-- a node is as its last image shows it
pub record IsAsRead (es : Placed) (home : ℕ → Home) (last d : ℕ) (rows : List NodeRow) (level : ℕ) (low : Name) (n : Node) : Type 0 where
  pub at : ℕ
  pub image : n.last ≡ Some at
  pub unmarked : n.from ≡ None
  pub still : n.forced ≡ false
  pub own : IsNumber home last d n.number level low
  pub sound : IsSoundImage es home last d level low (low_behind low (row_of rows level)) at
  pub below : AreChildNodes es home last d rows level low at sound

-- cells are as they were read: what the last images of their BINs say of them is committed, since an entry of the log
pub record AreAsRead (es : Placed) (cells : List (Name × Cell)) : Type 0 where
  pub shown : (x : Name) (cell : Cell) → value_at x cells ≡ Some cell → cell.shown ≡ cell.version
  pub committed : (x : Name) (cell : Cell) → value_at x cells ≡ Some cell → cell.version ≡ Unset → ⊥
  pub touched : (x : Name) (cell : Cell) → value_at x cells ≡ Some cell → IsSome (entry_at es cell.touched)

-- a tree whose nodes are all as their images show them, and whose cells are as the BINs' images show them, fits the log
abbrev pub ReadTreesFit : Type 0
ReadTreesFit = (es : Placed) (base : ℕ) (newest : Name → ℕ) (home : ℕ → Home) (last d : ℕ) (rows : List NodeRow) (cells : List (Name × Cell)) → AreParts rows →
    ((level : ℕ) (low : Name) → suc level ≡ length rows → IsSome (value_at low (row_of rows level)) → low ≡ least) →
    ((level : ℕ) (low : Name) (n : Node) → value_at low (row_of rows level) ≡ Some n → IsAsRead es home last d rows level low n) →
    IsRising cells → AreRecorded es d cells → AreAsRead es cells → ((x : Name) (e : Name × Node) (at : ℕ) → IsOver (row_of rows 0) x e → e.1.last ≡ Some at → version_imaged (entry_at es at) x ≡ (kept_by cells x).version) →
    FitsTree es base newest home last d rows cells

-- a node has no image, and waits to be logged: what it lacks is older than this life of the environment, which begins at `base`
pub record IsUnread (home : ℕ → Home) (last d base level : ℕ) (low : Name) (n : Node) : Type 0 where
  pub own : IsNumber home last d n.number level low
  pub image : n.last ≡ None
  pub waits : n.forced ≡ true
  pub from : ℕ
  pub marked : n.from ≡ Some from
  pub older : from < base

-- a tree whose nodes all wait fits each log
abbrev pub UnreadTreesFit : Type 0
UnreadTreesFit = (es : Placed) (base : ℕ) (newest : Name → ℕ) (home : ℕ → Home) (last d : ℕ) (rows : List NodeRow) (cells : List (Name × Cell)) →
    ((level : ℕ) (low : Name) → suc level ≡ length rows → IsSome (value_at low (row_of rows level)) → low ≡ least) →
    ((level : ℕ) (low : Name) (n : Node) → value_at low (row_of rows level) ≡ Some n → IsUnread home last d base level low n) →
    AreRecorded es d cells → AreAsRead es cells → FitsTree es base newest home last d rows cells

-- a database's tree has the nodes, the records and the slots that were read, and no change
pub record IsReadTree (nodes : AllNodes) (slots : AllRead) (stored : AllStored) (d : ℕ) (tree : DbTree) : Type 0 where
  pub parts : AreParts tree.levels
  pub nodes_are : (level : ℕ) (low : Name) → nodes d level low ≡ loaded_in tree.levels level low
  pub records_are : (x : Name) → value_at x (stored d) ≡ stored_under (value_at x tree.cells)
  pub rising : IsRising tree.cells
  pub quiet : (x : Name) (cell : Cell) → value_at x tree.cells ≡ Some cell → cell.write ≡ None
  pub slots_are : (x : Name) → slots d x ≡ option_map slot_read (value_at x tree.cells)

-- the trees that reading a checkpoint's roots gives fit the log that was read, in a life of the environment that begins behind it
abbrev pub ReadForestsFit : Type 0
ReadForestsFit = (es : Placed) (c : Checkpoint) (nodes : AllNodes) (slots : AllRead) (stored : AllStored) (last base : ℕ) (trees : ℕ → Option DbTree) → AreReadFrom es c nodes slots stored last → last < 0x7fffffffffffffff →
    AllByRecursion (λ p. p.0 < base) es → ((d : ℕ) (tree : DbTree) → trees d ≡ Some tree → IsReadTree nodes slots stored d tree) → ForestFits es base last trees

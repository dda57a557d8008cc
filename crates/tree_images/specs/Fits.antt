-- Trees that fit their log: their nodes' last images are sound, and their records stand where the cells say.
use Rattle.std.specs.Prelude.{◌≡◌, ◌⊎◌, ℕ, suc, false, List, [], Some, None, IfSome, IsSome, length}
use Rattle.je_order.specs.declared.name.Name.{Name}
use Rattle.node_core.specs.declared.slot.Version.TheVariants.{There}
use Rattle.record_map.specs.declared.cell.Cell.{Cell}
use Rattle.record_map.specs.Cells.{value_at}
use Rattle.tree_nodes.specs.declared.node.Node.{Node}
use Rattle.tree_nodes.specs.Nodes.{NodeRow, least, low_behind}
use Rattle.tree_nodes.specs.Levels.{row_of}
use Rattle.log_trees.specs.Trees.{data_of}
use Rattle.log_trees.specs.Sound.{Home}
use Rattle.db_tree.specs.declared.node_at.NodeAt.{NodeAt}
use Rattle.db_tree.specs.Dirty.{AreExact}
use Rattle.db_tree.specs.Images.{Placed}
use Rattle.db_tree.specs.Trees.{IsTree}
use Rattle.db_tree.specs.Waiting.{is_among}
use Rattle.tree_images.specs.Sound.{IsNumber, IsSoundImage}

-- ---- nodes

-- the last image of the node of a level with a low is sound, within the node's bounds
abbrev pub HasSoundImage : Placed → (ℕ → Home) → ℕ → ℕ → List NodeRow → ℕ → Name → Node → Type 0
HasSoundImage es home last d rows level low n = (at : ℕ) × (n.last ≡ Some at) × IsSoundImage es home last d level low (low_behind low (row_of rows level)) at

-- the topmost node may have no image
abbrev pub IsUnlogged : List NodeRow → ℕ → Node → Type 0
IsUnlogged rows level n = (n.last ≡ None) × (suc level ≡ length rows)

-- the nodes of a tree, but for those that are still to be logged: each has a number of its own place, and a sound image where it does not wait
pub record AreImaged (es : Placed) (home : ℕ → Home) (last d : ℕ) (due : List NodeAt) (rows : List NodeRow) : Type 0 where
  pub numbers : (level : ℕ) (low : Name) (n : Node) → value_at low (row_of rows level) ≡ Some n → IsNumber home last d n.number level low
  pub images : (level : ℕ) (low : Name) (n : Node) → value_at low (row_of rows level) ≡ Some n → n.forced ≡ false → is_among due level low ≡ false →
      HasSoundImage es home last d rows level low n ⊎ IsUnlogged rows level n
  -- one node is the topmost one
  pub top : (level : ℕ) (low : Name) → suc level ≡ length rows → IsSome (value_at low (row_of rows level)) → low ≡ least

-- ---- cells

-- a name's cell: its data stands where its version says, and the data of a change that is not committed where that was logged
pub record IsRecorded (es : Placed) (d : ℕ) (x : Name) (cell : Cell) : Type 0 where
  pub committed : (lsn : ℕ) → cell.version ≡ There lsn → data_of es d x lsn ≡ Some cell.«data»
  pub written : IfSome cell.write (λ w. IfSome w.value.value (λ v. data_of es d x w.value.at ≡ Some v))

-- so it is with each cell
abbrev pub AreRecorded : Placed → ℕ → List (Name × Cell) → Type 0
AreRecorded es d cells = (x : Name) (cell : Cell) → value_at x cells ≡ Some cell → IsRecorded es d x cell

-- ---- trees

-- a tree fits a log but for the nodes that are still to be logged
pub record FitsBut (es : Placed) (base : ℕ) (newest : Name → ℕ) (home : ℕ → Home) (last d : ℕ) (due : List NodeAt) (rows : List NodeRow) (cells : List (Name × Cell)) : Type 0 where
  pub tree : IsTree es base newest rows cells
  pub imaged : AreImaged es home last d due rows
  pub recorded : AreRecorded es d cells
  -- each BIN is dirty exactly where it has not its last image's content, or waits to be logged
  pub exact : AreExact due rows cells

-- a tree fits a log
abbrev pub FitsTree : Placed → ℕ → (Name → ℕ) → (ℕ → Home) → ℕ → ℕ → List NodeRow → List (Name × Cell) → Type 0
FitsTree es base newest home last d rows cells = FitsBut es base newest home last d [] rows cells

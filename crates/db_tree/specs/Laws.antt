-- What holds of every tree of a log, step by step.
use Rattle.std.specs.Prelude.{◌≡◌, ◌≤◌, ◌⊎◌, ◌++◌, ◌+◌, ℕ, suc, false, List, Some, length}
use Rattle.je_order.specs.declared.name.Name.{Name}
use Rattle.record_map.specs.declared.cell.Cell.{Cell}
use Rattle.record_map.specs.Cells.{value_at, IsRising}
use Rattle.tree_nodes.specs.declared.node.Node.{Node}
use Rattle.tree_nodes.specs.Nodes.{NodeRow, IsOver, is_dirty}
use Rattle.tree_nodes.specs.Levels.{row_of, AreParts, HasPutAt, HasRaised}
use Rattle.db_tree.specs.Images.{Placed, entry_at, child_in, shown, shows, IsRead}
use Rattle.db_tree.specs.Content.{NameState, bin_image, in_image, kept_by, lsn_held}
use Rattle.db_tree.specs.Splitting.{AreSameByName}
use Rattle.db_tree.specs.Splits.{Shape, image_sizes, nodes_made, passes_top, shape_with, count_waiting}
use Rattle.db_tree.specs.declared.node_at.NodeAt.{NodeAt}
use Rattle.db_tree.specs.Dirty.{AreExact, HasContent}
use Rattle.db_tree.specs.Waiting.{is_among}
use Rattle.db_tree.specs.Trees.{IsTree, IsTreeOf, IsBehind, IsMark, IsImageOf, IsHandedOn, KnowImages}

-- a longer log is a log of the tree, whatever it got
abbrev pub TreesStayInLongerLogs : Type 0
TreesStayInLongerLogs = (es more : Placed) (base : ℕ) (newest newer : Name → ℕ) (rows : List NodeRow) (held : Name → NameState) → ((x : Name) → newest x ≤ newer x) →
    IsTreeOf es base newest rows held → IsTreeOf (es ++ more) base newer rows held

-- a mark of a node, and a copy of it that takes part of its names, which is what a split begins with
abbrev pub TreesAreSplitAndMarked : Type 0
TreesAreSplitAndMarked = (es : Placed) (base : ℕ) (newest : Name → ℕ) (old new : List NodeRow) (held : Name → NameState) (level : ℕ) (low at : Name) (m n : Node) →
    IsOver (row_of old level) at (low, m) → HasPutAt old new level at n → IsMark m n → IsTreeOf es base newest old held → IsTreeOf es base newest new held

-- other records are committed, of names whose BINs are marked
abbrev pub TreesAreCommitted : Type 0
TreesAreCommitted = (es : Placed) (base : ℕ) (newest : Name → ℕ) (rows : List NodeRow) (held next : Name → NameState) →
    ((x : Name) (e : Name × Node) → IsOver (row_of rows 0) x e → ((next x).version ≡ (held x).version) ⊎ IsBehind base newest e.1 x) →
    KnowImages es base rows next → IsTreeOf es base newest rows held → IsTreeOf es base newest rows next

-- a node's image is its last one, where its mark was handed on before
abbrev pub TreesAreLogged : Type 0
TreesAreLogged = (es : Placed) (base : ℕ) (newest : Name → ℕ) (old new : List NodeRow) (held : Name → NameState) (level : ℕ) (low : Name) (n m : Node) (at : ℕ) →
    AreParts old → value_at low (row_of old level) ≡ Some n → HasPutAt old new level low m → m.last ≡ Some at → IsImageOf es old held level (low, n) at → IsHandedOn old level low n →
    IsTreeOf es base newest old held → IsTreeOf es base newest new held

-- a root is put above the top, whose image names the nodes below it
abbrev pub TreesAreRaised : Type 0
TreesAreRaised = (es : Placed) (base : ℕ) (newest : Name → ℕ) (old new : List NodeRow) (held : Name → NameState) (top : ℕ) (root : Node) (at : ℕ) →
    length old ≡ suc top → HasRaised old new root → root.last ≡ Some at →
    ((x : Name) → IsRead es (suc top) at x) → ((x : Name) (c : Name × Node) → IsOver (row_of old top) x c → shows es (suc top) at x ≡ shown es top c.1.last x) →
    ((x : Name) (c : Name × Node) → IsOver (row_of old top) x c → child_in (entry_at es at) x ≡ c.1.last) →
    IsTreeOf es base newest old held → IsTreeOf es base newest new held

-- where each mark is at the redo LSN or behind it, what a node's image lacks was committed there or behind it
abbrev pub TreesAreCovered : Type 0
TreesAreCovered = (es : Placed) (base redo : ℕ) (newest : Name → ℕ) (rows : List NodeRow) (held : Name → NameState) →
    AreParts rows → base ≤ redo → ((level : ℕ) (x : Name) (e : Name × Node) → IsOver (row_of rows level) x e → (f : ℕ) → e.1.from ≡ Some f → redo ≤ f) →
    IsTreeOf es base newest rows held →
    (level : ℕ) (x : Name) (e : Name × Node) → IsOver (row_of rows level) x e → (shown es level e.1.last x ≡ lsn_held held x) ⊎ (redo ≤ newest x)

-- a BIN that does not wait, and is not still to be logged, is dirty exactly where its last image does not say what is committed of its names, or there is none
abbrev pub BinsAreDirtyByContent : Type 0
BinsAreDirtyByContent = (es : Placed) (base : ℕ) (newest : Name → ℕ) (rows : List NodeRow) (cells : List (Name × Cell)) (due : List NodeAt) (low : Name) (n : Node) → AreParts rows → IsRising cells → IsTree es base newest rows cells → AreExact due rows cells →
    value_at low (row_of rows 0) ≡ Some n → is_among due 0 low ≡ false → n.forced ≡ false →
    (is_dirty n ≡ false → HasContent es (row_of rows 0) cells (low, n)) × (HasContent es (row_of rows 0) cells (low, n) → is_dirty n ≡ false)

-- the image of a BIN that is made of the cells within it has the BIN's content, where it stands behind their Commits
abbrev pub BinImagesShowCells : Type 0
BinImagesShowCells = (es : Placed) (rows : List NodeRow) (cells : List (Name × Cell)) (db number at : ℕ) (low : Name) (n : Node) →
    IsRising cells → ((x : Name) → (kept_by cells x).touched ≤ at) → entry_at es at ≡ Some (bin_image db number low (row_of rows 0) cells) → IsImageOf es rows (kept_by cells) 0 (low, n) at

-- the image of an IN that is made of its children has the IN's content, where each of them has an image
abbrev pub InImagesShowChildren : Type 0
InImagesShowChildren = (es : Placed) (rows : List NodeRow) (held : Name → NameState) (db number of_level level at : ℕ) (low : Name) (n : Node) →
    AreParts rows → value_at low (row_of rows (suc level)) ≡ Some n →
    ((x : Name) (c : Name × Node) → IsOver (row_of rows (suc level)) x (low, n) → IsOver (row_of rows level) x c → (lsn : ℕ) × (c.1.last ≡ Some lsn) × IsRead es level lsn x) →
    entry_at es at ≡ Some (in_image db number of_level low (row_of rows (suc level)) (row_of rows level)) → IsImageOf es rows held (suc level) (low, n) at

-- nodes count by their lows alone
abbrev pub TreesAreByName : Type 0
TreesAreByName = (es : Placed) (base : ℕ) (newest : Name → ℕ) (old new : List NodeRow) (held : Name → NameState) → AreSameByName old new → IsTreeOf es base newest old held → IsTreeOf es base newest new held

-- where no image passes the last level, the images that a name's slot needs and the nodes that wait still are at most 129 more than the nodes that waited
abbrev pub ImagesAreFew : Type 0
ImagesAreFew = (fanout : ℕ) (x : Name) (shape : Shape) → passes_top fanout x shape ≡ false →
    length (image_sizes fanout x shape) + count_waiting (shape_with fanout x shape) ≤ count_waiting shape + 129

-- a name's slot makes at most one node for each level, and a root
abbrev pub NodesAreFew : Type 0
NodesAreFew = (fanout : ℕ) (x : Name) (shape : Shape) → nodes_made fanout x shape ≤ length shape.lows + 1

-- How a tree stands to the log: what its nodes' last images show, and which nodes are behind.
use Rattle.std.specs.Prelude.{◌≡◌, ◌<◌, ◌≤◌, ◌⊎◌, ℕ, zero, suc, List, Option, Some, None, if◌then◌else◌}
use Rattle.std.specs.List.{AllByRecursion}
use Rattle.std.specs.Ordering.{is_eq}
use Rattle.je_order.specs.Order.{name_cmp}
use Rattle.je_order.specs.declared.name.Name.{Name}
use Rattle.tree_nodes.specs.declared.node.Node.{Node}
use Rattle.tree_nodes.specs.Nodes.{NodeRow, IsOver}
use Rattle.tree_nodes.specs.Levels.{row_of}
use Rattle.record_map.specs.declared.cell.Cell.{Cell}
use Rattle.node_core.specs.Changes.{is_committed}
use Rattle.node_core.specs.declared.slot.Version.TheVariants.{Unset}
use Rattle.record_map.specs.Cells.{value_at, fresh, with_write}
use Rattle.db_tree.specs.Images.{Placed, entry_at, child_in, last_says, shown, shows, version_imaged, IsRead}
use Rattle.db_tree.specs.Content.{NameState, name_state, kept_by, shown_held}

-- a node is marked for a name: the log has a committed change of the name at the mark or behind it, or the
-- mark is older than this life of the environment, which begins at `base`
abbrev pub IsBehind : ℕ → (Name → ℕ) → Node → Name → Type 0
IsBehind base newest node x = (from : ℕ) × (node.from ≡ Some from) × ((from ≤ newest x) ⊎ (from < base))

-- a node is marked
abbrev pub IsMarked : Node → Type 0
IsMarked node = (from : ℕ) × (node.from ≡ Some from)

-- what is held of names knows what the last images of their BINs say of them, and was committed before all that is logged next in this life of the
-- environment, which begins at `base`
pub record KnowImages (es : Placed) (base : ℕ) (rows : List NodeRow) (held : Name → NameState) : Type 0 where
  pub shown : (x : Name) (e : Name × Node) (at : ℕ) → IsOver (row_of rows 0) x e → e.1.last ≡ Some at → version_imaged (entry_at es at) x ≡ shown_held at (held x)
  -- of a name of which nothing is committed no image says anything
  pub unset : (x : Name) → (held x).version ≡ Unset → held x ≡ name_state fresh
  pub touched : (x : Name) (next : ℕ) → base ≤ next → AllByRecursion (λ p. p.0 < next) es → (held x).touched ≤ next

-- a tree of a log: `newest` has the LSN of each name's newest committed change, `held` what is held of it
pub record IsTreeOf (es : Placed) (base : ℕ) (newest : Name → ℕ) (rows : List NodeRow) (held : Name → NameState) : Type 0 where
  -- the images that a node's last image leads to are there
  pub reads : (level : ℕ) (x : Name) (e : Name × Node) (at : ℕ) → IsOver (row_of rows level) x e → e.1.last ≡ Some at → IsRead es level at x
  -- a BIN's last image says what is committed, or the BIN is marked
  pub leaf : (x : Name) (e : Name × Node) → IsOver (row_of rows 0) x e → (last_says es e.1.last x ≡ (held x).version) ⊎ IsBehind base newest e.1 x
  -- an IN's last image shows what its child's does, or the IN is marked
  pub inner : (level : ℕ) (x : Name) (e c : Name × Node) → IsOver (row_of rows (suc level)) x e → IsOver (row_of rows level) x c →
      (shown es (suc level) e.1.last x ≡ shown es level c.1.last x) ⊎ IsBehind base newest e.1 x
  -- and names its child's last image, or the IN is marked
  pub names : (level : ℕ) (x : Name) (e c : Name × Node) (at : ℕ) → IsOver (row_of rows (suc level)) x e → IsOver (row_of rows level) x c → e.1.last ≡ Some at →
      (child_in (entry_at es at) x ≡ c.1.last) ⊎ IsMarked e.1
  pub know : KnowImages es base rows held

-- a node is another one, perhaps with an earlier mark
pub record IsMark (old new : Node) : Type 0 where
  pub last : new.last ≡ old.last
  pub from : (f : ℕ) → old.from ≡ Some f → (g : ℕ) × (new.from ≡ Some g) × (g ≤ f)

-- the image at an LSN has the content of the node of a level with a low: what is committed, by Commits before the image, or what its
-- children's last images show
abbrev pub ShowsContent : Placed → List NodeRow → (Name → NameState) → ℕ → ℕ → Name → Type 0
ShowsContent es rows held zero at x = (version_imaged (entry_at es at) x ≡ (held x).version) × ((held x).touched ≤ at)
ShowsContent es rows held (suc level) at x = (c : Name × Node) → IsOver (row_of rows level) x c → shows es (suc level) at x ≡ shown es level c.1.last x

-- the image at an LSN names the last images of the children of the node of a level with a low; a BIN has none
abbrev pub NamesChildren : Placed → List NodeRow → ℕ → ℕ → Name → Type 0
NamesChildren es rows zero at x = Unit {0}
NamesChildren es rows (suc level) at x = (c : Name × Node) → IsOver (row_of rows level) x c → child_in (entry_at es at) x ≡ c.1.last

pub record IsImageOf (es : Placed) (rows : List NodeRow) (held : Name → NameState) (level : ℕ) (e : Name × Node) (at : ℕ) : Type 0 where
  pub reads : (x : Name) → IsOver (row_of rows level) x e → IsRead es level at x
  pub shows : (x : Name) → IsOver (row_of rows level) x e → ShowsContent es rows held level at x
  pub names : (x : Name) → IsOver (row_of rows level) x e → NamesChildren es rows level at x

-- the node above one has a mark, at or before the mark of that one if it has one
abbrev pub IsHandedOn : List NodeRow → ℕ → Name → Node → Type 0
IsHandedOn rows level low node =
    (p : Name × Node) → IsOver (row_of rows (suc level)) low p → (g : ℕ) × (p.1.from ≡ Some g) × ((f : ℕ) → node.from ≡ Some f → g ≤ f)

-- a database's tree fits a log: of what its cells hold
abbrev pub IsTree : Placed → ℕ → (Name → ℕ) → List NodeRow → List (Name × Cell) → Type 0
IsTree es base newest rows cells = IsTreeOf es base newest rows (kept_by cells)

-- the cell of a name, or one of which nothing is committed
abbrev pub cell_or_fresh : Option Cell → Cell
cell_or_fresh None = fresh
cell_or_fresh (Some cell) = cell

-- the cells with one of a name that was not there made fresh
abbrev pub HasCell : List (Name × Cell) → List (Name × Cell) → Name → Cell → Type 0
HasCell old new name cell = (x : Name) → value_at x new ≡ (if is_eq (name_cmp name x) then Some cell else value_at x old)

-- what a name has when its change is given up: a cell of which nothing is committed goes
abbrev pub given_up : Option Cell → Option Cell
given_up None = None
given_up (Some cell) = if is_committed cell.version then Some (with_write None cell) else None

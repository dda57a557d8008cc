-- Which BINs are dirty: what their last images say of names, beside what is committed.
use Rattle.std.specs.Prelude.{◌≡◌, ◌≤◌, ◌<◌, ◌+◌, ◌^◌, ◌&&◌, not, ℕ, Bool, true, false, List, Option, None, Some, is_some}
use Rattle.std.specs.List.{AllByRecursion, list_all}
use Rattle.je_order.specs.Edges.Edge.{At}
use Rattle.je_order.specs.declared.name.Name.{Name}
use Rattle.record_map.specs.declared.cell.Cell.{Cell}
use Rattle.record_map.specs.Cells.{value_at, between_edges, is_as_shown, upper_edge}
use Rattle.tree_nodes.specs.declared.node.Node.{Node}
use Rattle.tree_nodes.specs.Nodes.{NodeRow, IsOver, is_dirty, low_behind, without_mark}
use Rattle.tree_nodes.specs.Levels.{row_of, HasPutAt, HasMarkedAt}
use Rattle.db_tree.specs.declared.node_at.NodeAt.{NodeAt}
use Rattle.db_tree.specs.Content.{kept_by}
use Rattle.db_tree.specs.Images.{Placed, IsBin, entry_at, version_imaged}
use Rattle.db_tree.specs.Waiting.{is_among}

-- ---- where Commits stand

-- a Commit stands behind all images of BINs, and before all that is logged next
pub record IsCommitAt (es : Placed) (at : ℕ) : Type 0 where
  pub behind : (lsn : ℕ) → IsBin (entry_at es lsn) → lsn < at
  pub before : (next : ℕ) → AllByRecursion (λ p. p.0 < next) es → at ≤ next

-- a change that is redone stands before this life of the environment, which begins at `base`, and an LSN is left behind each image of a BIN
pub record IsRedoneAt (es : Placed) (base at : ℕ) : Type 0 where
  pub before : at ≤ base
  pub small : (lsn : ℕ) → IsBin (entry_at es lsn) → lsn + 1 < 2 ^ 64

-- ---- marks that go

-- whether the last image of a name's BIN, which is at an LSN, says something else of the name than what is committed
abbrev pub is_unlike : Option ℕ → Option Cell → Bool
is_unlike last None = false
is_unlike last (Some cell) = not (is_as_shown last cell)

-- whether it says of each cell of a BIN with a low what is committed
abbrev pub are_as_shown : Option ℕ → Name → NodeRow → List (Name × Cell) → Bool
are_as_shown last low row cells = list_all (λ e. is_as_shown last e.1) (between_edges (At low) (upper_edge (low_behind low row)) cells)

-- whether a BIN with a low has its last image's content, and does not wait to be logged
abbrev pub is_as_imaged : NodeRow → List (Name × Cell) → Name × Node → Bool
is_as_imaged row cells e = not e.1.forced && (is_some e.1.last && are_as_shown e.1.last e.0 row cells)

-- the BIN over a name has no mark where it has its last image's content; else nothing changed
pub record HasSettled (cells : List (Name × Cell)) (old new : List NodeRow) (x : Name) : Type 0 where
  pub e : Name × Node
  pub over : IsOver (row_of old 0) x e
  pub cleared : is_as_imaged (row_of old 0) cells e ≡ true → HasPutAt old new 0 e.0 (without_mark e.1)
  pub kept : is_as_imaged (row_of old 0) cells e ≡ false → new ≡ old

-- the BIN over a name has not its last image's content, or waits to be logged
pub record IsAway (cells : List (Name × Cell)) (rows : List NodeRow) (x : Name) : Type 0 where
  pub e : Name × Node
  pub over : IsOver (row_of rows 0) x e
  pub away : is_as_imaged (row_of rows 0) cells e ≡ false

-- the BIN over a name is marked, and has no mark where it has its last image's content then
abbrev pub IsMarkedOrSettled : List (Name × Cell) → List NodeRow → List NodeRow → Name → ℕ → Type 0
IsMarkedOrSettled cells old new x from = (mid : List NodeRow) × HasMarkedAt old mid 0 x from × HasSettled cells mid new x

-- so it is from where the name's change was logged, if it has one
abbrev pub IsCommittedOver : Option ℕ → List (Name × Cell) → List NodeRow → List NodeRow → Name → Type 0
IsCommittedOver None cells old new x = new ≡ old
IsCommittedOver (Some from) cells old new x = IsMarkedOrSettled cells old new x from

-- each BIN, but for those that are still to be logged, is dirty exactly where it has not its last image's content, or waits to be logged
abbrev pub AreExact : List NodeAt → List NodeRow → List (Name × Cell) → Type 0
AreExact due rows cells = (low : Name) (n : Node) → value_at low (row_of rows 0) ≡ Some n → is_among due 0 low ≡ false → is_dirty n ≡ not (is_as_imaged (row_of rows 0) cells (low, n))

-- the last image of a BIN with a low has the BIN's content: it says of each name that the BIN is over what is committed of it
pub record HasContent (es : Placed) (row : NodeRow) (cells : List (Name × Cell)) (e : Name × Node) : Type 0 where
  pub at : ℕ
  pub image : e.1.last ≡ Some at
  pub says : (x : Name) → IsOver row x e → version_imaged (entry_at es at) x ≡ (kept_by cells x).version

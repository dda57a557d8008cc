-- From which LSN on images of nodes lack something.
use Rattle.std.specs.Prelude.{◌≡◌, ◌||◌, ◌⊎◌, ℕ, nat_lt, Bool, false, List, Option, None, Some}
use Rattle.je_order.specs.declared.name.Name.{Name}
use Rattle.record_map.specs.Cells.{value_at}
use Rattle.tree_nodes.specs.declared.node.Node.{Node}
use Rattle.tree_nodes.specs.Nodes.{NodeRow, node_at}
use Rattle.tree_nodes.specs.Levels.{row_of}
use Rattle.tree_nodes.specs.Due.{name_in}

-- a mark is before an LSN
abbrev pub is_marked_before : Option ℕ → ℕ → Bool
is_marked_before None since = false
is_marked_before (Some from) since = nat_lt from since

-- a node waits to be logged, or its last image lacks what was logged before an LSN
abbrev pub is_before : ℕ → Node → Bool
is_before since n = n.forced || is_marked_before n.from since

-- ---- the nodes of a level

-- none waits to be logged, and no image lacks what was logged before an LSN
abbrev pub IsSinceRow : ℕ → NodeRow → Type 0
IsSinceRow since row = (low : Name) (n : Node) → value_at low row ≡ Some n → is_before since n ≡ false

-- no image lacks what was logged before an LSN
abbrev pub IsFromRow : ℕ → NodeRow → Type 0
IsFromRow least row = (low : Name) (n : Node) → value_at low row ≡ Some n → is_marked_before n.from least ≡ false

-- an LSN is one from which on an image of a node lacks something
pub record IsMarkOfRow (row : NodeRow) (lsn : ℕ) : Type 0 where
  pub low : Name
  pub node : Node
  pub there : value_at low row ≡ Some node
  pub from : node.from ≡ Some lsn

-- it is that, or a bound
abbrev pub IsMarkOrOfRow : ℕ → NodeRow → ℕ → Type 0
IsMarkOrOfRow bound row lsn = (lsn ≡ bound) ⊎ IsMarkOfRow row lsn

-- ---- all nodes of a tree

-- none waits to be logged, and no image lacks what was logged before an LSN
abbrev pub AllSince : ℕ → List NodeRow → Type 0
AllSince since rows = (level : ℕ) (low : Name) (n : Node) → value_at low (row_of rows level) ≡ Some n → is_before since n ≡ false

-- no image lacks what was logged before an LSN
abbrev pub AllFrom : ℕ → List NodeRow → Type 0
AllFrom least rows = (level : ℕ) (low : Name) (n : Node) → value_at low (row_of rows level) ≡ Some n → is_marked_before n.from least ≡ false

-- an LSN is one from which on an image of a node lacks something
pub record IsMark (rows : List NodeRow) (lsn : ℕ) : Type 0 where
  pub level : ℕ
  pub low : Name
  pub node : Node
  pub there : value_at low (row_of rows level) ≡ Some node
  pub from : node.from ≡ Some lsn

-- it is that, or a bound
abbrev pub IsMarkOr : ℕ → List NodeRow → ℕ → Type 0
IsMarkOr bound rows lsn = (lsn ≡ bound) ⊎ IsMark rows lsn

-- ---- the nodes at places, where a place without a low has none

-- the mark of a node that some low has
abbrev pub mark_of : Option Name → Node → Option ℕ
mark_of None n = None
mark_of (Some low) n = n.from

abbrev pub mark_at : List (Option Name) → List Node → ℕ → Option ℕ
mark_at names nodes place = mark_of (name_in names place) (node_at nodes place)

-- whether some low has a node that waits to be logged, or whose image lacks what was logged before an LSN
abbrev pub before_of : ℕ → Option Name → Node → Bool
before_of since None n = false
before_of since (Some low) n = is_before since n

abbrev pub before_at : ℕ → List (Option Name) → List Node → ℕ → Bool
before_at since names nodes place = before_of since (name_in names place) (node_at nodes place)

-- an LSN is a bound, or the mark of a node at a place
abbrev pub IsMarkOrAt : ℕ → List (Option Name) → List Node → ℕ → Type 0
IsMarkOrAt bound names nodes lsn = (lsn ≡ bound) ⊎ ((place : ℕ) × (mark_at names nodes place ≡ Some lsn))

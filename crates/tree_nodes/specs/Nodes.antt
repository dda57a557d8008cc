-- The nodes of one level, by their lows.
use Rattle.std.specs.Prelude.{◌≡◌, ◌<◌, ◌&&◌, ◌||◌, ℕ, Bool, min, not, List, [], Option, None, Some, IsSome, is_some, false, map, length, option_map, slice_index_or, if◌then◌else◌}
use Rattle.std.specs.List.{AllByRecursion}
use Rattle.std.specs.BTreeMap.Range.{IsLeBy}
use Rattle.std.specs.Ordering.{is_eq}
use Rattle.je_order.specs.Order.{name_cmp}
use Rattle.je_order.specs.Edges.Edge.{Behind}
use Rattle.je_order.specs.declared.name.Name.{Name}
use Rattle.record_map.specs.Cells.{value_at, IsRising, first_of, from_edge}
use Rattle.tree_nodes.specs.declared.node.Node.{Node}

-- ---- a node

-- the earlier of two LSNs, one of which there may be none of
abbrev pub earlier : Option ℕ → ℕ → ℕ
earlier None from = from
earlier (Some own) from = min own from

-- a node of which the log has a committed change, at an LSN or behind it, that its last image lacks
abbrev pub marked : ℕ → Node → Node
marked from node = record node { from = Some (earlier node.from from) }

-- a node without a mark: its last image lacks nothing of what it has
abbrev pub without_mark : Node → Node
without_mark node = record node { from = None }

-- a node whose image was logged at an LSN
abbrev pub logged : ℕ → Node → Node
logged at node = record { number = node.number; last = Some at; from = None; slots = node.slots; forced = false; noted = node.noted }

-- a node is dirty that has no image, whose last image lacks some of what it has, or that waits to be logged
abbrev pub is_dirty : Node → Bool
is_dirty n = n.forced || not (is_some n.last) || is_some n.from

-- a checkpoint has to log a node that it noted and that is dirty
abbrev pub is_due : Node → Bool
is_due n = n.noted && is_dirty n

-- a node that is noted, or not
abbrev pub noted_as : Bool → Node → Node
noted_as noted node = record node { noted = noted }

-- ---- a level: its nodes, each under its low

abbrev pub NodeRow : Type 0
NodeRow = List (Name × Node)

-- the least name of all
abbrev pub least : Name
least = record { key = []; dup = [] }

-- a name is another one, or below it
abbrev pub IsUpTo : Name → Name → Type 0
IsUpTo a b = IsLeBy name_cmp a b

-- the node over a name: that of the greatest low up to it
pub record IsOver (row : NodeRow) (x : Name) (e : Name × Node) : Type 0 where
  pub there : value_at e.0 row ≡ Some e.1
  pub below : IsUpTo e.0 x
  pub most : (q : Name) → IsSome (value_at q row) → IsUpTo q x → IsUpTo q e.0

-- the low of the node behind the one with a low; None behind the last
abbrev pub low_behind : Name → NodeRow → Option Name
low_behind low row = option_map (λ e. e.0) (first_of (from_edge (Behind low) row))

-- the greatest of some lows up to a name, with its place
pub record IsLowOver (lows : List (Name × ℕ)) (x : Name) (e : Name × ℕ) : Type 0 where
  pub there : value_at e.0 lows ≡ Some e.1
  pub below : IsUpTo e.0 x
  pub most : (q : Name) → IsSome (value_at q lows) → IsUpTo q x → IsUpTo q e.0

-- one level is the other with a node put under a low
abbrev pub HasPut : NodeRow → NodeRow → Name → Node → Type 0
HasPut old new low node = (x : Name) → value_at x new ≡ (if is_eq (name_cmp low x) then Some node else value_at x old)

-- one level is the other with a mark on the node over a name
pub record HasMarked (old new : NodeRow) (x : Name) (from : ℕ) : Type 0 where
  pub e : Name × Node
  pub over : IsOver old x e
  pub put : HasPut old new e.0 (marked from e.1)

-- one level is the other without the mark of the node over a name
pub record HasUnmarked (old new : NodeRow) (x : Name) : Type 0 where
  pub e : Name × Node
  pub over : IsOver old x e
  pub put : HasPut old new e.0 (without_mark e.1)

-- one level is the other without the node of a low
abbrev pub HasTaken : NodeRow → NodeRow → Name → Type 0
HasTaken old new low = (x : Name) → value_at x new ≡ (if is_eq (name_cmp low x) then None else value_at x old)

-- ---- a level in memory: where each low's node stands

-- a node that stands nowhere
abbrev pub no_node : Node
no_node = record { number = 0; last = None; from = None; slots = 0; forced = false; noted = false }

abbrev pub node_at : List Node → ℕ → Node
node_at nodes place = slice_index_or nodes place no_node

-- the level that lows with places make
abbrev pub placed : List (Name × ℕ) → List Node → NodeRow
placed lows nodes = map (λ e. (e.0, node_at nodes e.1)) lows

-- lows rise, each place is one of a node, and no place is that of two lows
pub record ArePlaces (lows : List (Name × ℕ)) (nodes : List Node) : Type 0 where
  pub rising : IsRising lows
  pub each : AllByRecursion (λ e. e.1 < length nodes) lows
  pub within : (x : Name) (i : ℕ) → value_at x lows ≡ Some i → i < length nodes
  pub apart : (x y : Name) (i : ℕ) → value_at x lows ≡ Some i → value_at y lows ≡ Some i → x ≡ y

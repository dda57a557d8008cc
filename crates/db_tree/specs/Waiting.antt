-- Which nodes wait to be logged, and which nodes are logged where a name gets a slot.
use Rattle.std.specs.Prelude.{◌==◌, ◌&&◌, ◌+◌, not, ℕ, suc, List, [], ◌∷◌, ◌++◌, Bool, true, false, Option, None, Some, filter, map, length}
use Rattle.std.specs.List.{list_any}
use Rattle.std.specs.Map.{keys_of}
use Rattle.std.specs.Ordering.{is_eq}
use Rattle.je_order.specs.Order.{name_cmp}
use Rattle.je_order.specs.Edges.{is_between}
use Rattle.je_order.specs.Edges.Edge.{At}
use Rattle.je_order.specs.declared.name.Name.{Name}
use Rattle.record_map.specs.Cells.{value_at, upper_edge, last_of}
use Rattle.tree_nodes.specs.declared.node.Node.{Node}
use Rattle.tree_nodes.specs.Nodes.{NodeRow, least}
use Rattle.tree_nodes.specs.Levels.{row_of}
use Rattle.tree_nodes.specs.Lows.{lows_at}
use Rattle.db_tree.specs.declared.node_split.NodeSplit.{NodeSplit}
use Rattle.db_tree.specs.declared.node_at.NodeAt.{NodeAt}

abbrev pub is_same_name : Name → Name → Bool
is_same_name a b = is_eq (name_cmp a b)

-- ---- nodes that wait

-- whether a node waits to be logged
abbrev pub is_forced : Option Node → Bool
is_forced None = false
is_forced (Some node) = node.forced

-- whether the node of a level with a low waits
abbrev pub waits_in : NodeRow → Name → Bool
waits_in row low = is_forced (value_at low row)

abbrev pub waits_at : List NodeRow → ℕ → Name → Bool
waits_at rows level low = waits_in (row_of rows level) low

-- the lows of the nodes of a level that wait, and those of each level
abbrev pub waiting_in : NodeRow → List Name
waiting_in row = filter (waits_in row) (keys_of row)

abbrev pub waiting_of : List NodeRow → List (List Name)
waiting_of rows = map waiting_in rows

-- how many nodes wait
abbrev pub count_lows : List (List Name) → ℕ
count_lows [] = 0
count_lows (lows ∷ waiting) = length lows + count_lows waiting

-- ---- nodes that are logged

-- some nodes of a level
abbrev pub at_level : ℕ → List Name → List NodeAt
at_level level lows = map (λ low. record { level = level; low = low }) lows

-- whether a node below the topmost one that is split has to be logged before it, if it waits; a node that is split is logged as its halves
abbrev pub is_logged_before : NodeSplit → NodeSplit → Name → Bool
is_logged_before top split low = is_between (At top.low) (upper_edge top.high) low && not (is_same_name low split.low)

-- the nodes that wait below the topmost one that is split, level by level from one on
abbrev pub waiting_below : ℕ → NodeSplit → List NodeSplit → List (List Name) → List NodeAt
waiting_below level top [] waiting = []
waiting_below level top (split ∷ splits) waiting = at_level level (filter (is_logged_before top split) (lows_at waiting level)) ++ waiting_below (suc level) top splits waiting

abbrev pub waiting_before : Option NodeSplit → List NodeSplit → List (List Name) → List NodeAt
waiting_before None splits waiting = []
waiting_before (Some top) splits waiting = waiting_below 0 top splits waiting

-- the halves of nodes that are split, level by level from one on, each left one before the right one
abbrev pub halves_of : ℕ → List NodeSplit → List NodeAt
halves_of level [] = []
halves_of level (split ∷ splits) = record { level = level; low = split.low } ∷ record { level = level; low = split.middle } ∷ halves_of (suc level) splits

-- a new root of a level
abbrev pub root_at : ℕ → Bool → List NodeAt
root_at level true = record { level = level; low = least } ∷ []
root_at level false = []

-- the nodes that are logged for splits, in this order: those that wait below the topmost one, the halves, a new root
abbrev pub logged_for : List NodeSplit → Bool → List (List Name) → List NodeAt
logged_for splits raised waiting = waiting_before (last_of splits) splits waiting ++ halves_of 0 splits ++ root_at (length splits) raised

-- whether a node is among some
abbrev pub is_among : List NodeAt → ℕ → Name → Bool
is_among nodes level low = list_any (λ n. n.level == level && is_same_name n.low low) nodes

-- what waits of levels, from one on, where some nodes were logged
abbrev pub still_waiting : List NodeAt → ℕ → List (List Name) → List (List Name)
still_waiting nodes level [] = []
still_waiting nodes level (lows ∷ waiting) = filter (λ low. not (is_among nodes level low)) lows ∷ still_waiting nodes (suc level) waiting

-- a new root does not wait
abbrev pub waiting_raised : Bool → List (List Name) → List (List Name)
waiting_raised true waiting = waiting ++ [] ∷ []
waiting_raised false waiting = waiting

-- The lows of each level, and how splits add to them.
use Rattle.std.specs.Prelude.{ℕ, List, [], ◌∷◌, ◌++◌, Option, filter, set, map, unwrap_or, slice_index_or}
use Rattle.std.specs.Map.{keys_of}
use Rattle.std.specs.BTreeSet.{insert_key}
use Rattle.je_order.specs.Order.{name_cmp}
use Rattle.je_order.specs.Edges.{is_below, is_between}
use Rattle.je_order.specs.Edges.Edge.{Behind, End}
use Rattle.je_order.specs.declared.name.Name.{Name}
use Rattle.record_map.specs.Cells.{first_of, last_of}
use Rattle.tree_nodes.specs.Nodes.{NodeRow, least}

-- the lows of the nodes of each level
abbrev pub lows_of : List NodeRow → List (List Name)
lows_of rows = map keys_of rows

-- the lows of one level; none above the top
abbrev pub lows_at : List (List Name) → ℕ → List Name
lows_at lows level = slice_index_or lows level []

-- the greatest of some lows up to a name
abbrev pub low_up_to : Name → List Name → Name
low_up_to x lows = unwrap_or (last_of (filter (λ low. is_below (Behind x) low) lows)) least

-- the low behind another one; None behind the last
abbrev pub low_after : Name → List Name → Option Name
low_after low lows = first_of (filter (λ n. is_between (Behind low) End n) lows)

-- the levels with a low more on one of them
abbrev pub with_low : ℕ → Name → List (List Name) → List (List Name)
with_low level low lows = set lows level (insert_key name_cmp (lows_at lows level) low)

-- the levels with a root above the top
abbrev pub with_root : List (List Name) → List (List Name)
with_root lows = lows ++ (least ∷ []) ∷ []

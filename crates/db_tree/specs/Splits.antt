-- Which nodes are split where a name gets a slot, and how long the images of their halves are.
use Rattle.std.specs.Prelude.{◌-◌, ◌/◌, ◌+◌, ◌==◌, ℕ, zero, suc, Bool, true, false, List, [], ◌∷◌, Option, None, Some, is_some, length, filter, map, nat_lt, if◌then◌else◌}
use Rattle.std.specs.List.{slice_get}
use Rattle.std.specs.Map.{keys_of}
use Rattle.std.specs.BTreeMap.{insert_entry}
use Rattle.je_order.specs.Order.{name_cmp}
use Rattle.je_order.specs.Edges.{Edge, is_between}
use Rattle.je_order.specs.Edges.Edge.{At}
use Rattle.je_order.specs.declared.name.Name.{Name}
use Rattle.log_entry.specs.Encoding.{size_of}
use Rattle.log_entry.specs.declared.child_slot.ChildSlot.{ChildSlot}
use Rattle.log_entry.specs.declared.entry.Entry.TheVariants.{In, Bin}
use Rattle.record_map.specs.declared.cell.Cell.{Cell}
use Rattle.record_map.specs.Cells.{value_at, between_edges, upper_edge, fresh}
use Rattle.tree_nodes.specs.Lows.{low_up_to, low_after, lows_at, with_low, with_root}
use Rattle.db_tree.specs.declared.node_split.NodeSplit.{NodeSplit}
use Rattle.db_tree.specs.declared.node_at.NodeAt.{NodeAt}
use Rattle.db_tree.specs.Content.{record_slots}
use Rattle.db_tree.specs.Waiting.{logged_for, still_waiting, waiting_raised, count_lows}

-- ---- which nodes are split

-- the names of a node's slots are those within it: names with a cell, or the lows of the level below
abbrev pub slot_names : List (Name × Cell) → List (List Name) → ℕ → List Name
slot_names cells lows zero = keys_of cells
slot_names cells lows (suc level) = lows_at lows level

-- those of some names that are within the node over a name
abbrev pub names_within : Name → List Name → List Name → List Name
names_within x lows names = filter (is_between (At (low_up_to x lows)) (upper_edge (low_after (low_up_to x lows) lows))) names

-- the name that the second half of some names begins with; the first half is the longer one. None of fewer names than the fanout
abbrev pub middle_name : ℕ → List Name → Option Name
middle_name fanout names = if nat_lt (length names) fanout then None else slice_get names (length names - length names / 2)

-- the node with a low is split at a middle
abbrev pub split_at : Name → Option Name → Option Name → Option NodeSplit
split_at low high None = None
split_at low high (Some middle) = Some (record { low = low; middle = middle; high = high })

-- how the node over a name is split, of a level with these lows, whose nodes have slots of these names
abbrev pub split_over : ℕ → Name → List Name → List Name → Option NodeSplit
split_over fanout x names lows = split_at (low_up_to x lows) (low_after (low_up_to x lows) lows) (middle_name fanout (names_within x lows names))

-- a node is split only where the one below it was
abbrev pub then_above : Option NodeSplit → List NodeSplit → List NodeSplit
then_above None above = []
then_above (Some split) above = split ∷ above

-- the nodes that are split where a name gets a slot, level by level
abbrev pub splits_from : ℕ → Name → List Name → List (List Name) → List NodeSplit
splits_from fanout x names [] = []
splits_from fanout x names (lows ∷ above) = then_above (split_over fanout x names lows) (splits_from fanout x lows above)

-- ---- the levels behind the splits

-- the lows of the levels behind splits, the first of which is on a level
abbrev pub lows_split : ℕ → List NodeSplit → List (List Name) → List (List Name)
lows_split level [] lows = lows
lows_split level (split ∷ splits) lows = lows_split (suc level) splits (with_low level split.middle lows)

-- the root is split where each level has a split
abbrev pub is_raised : List NodeSplit → List (List Name) → Bool
is_raised splits lows = length splits == length lows

abbrev pub lows_behind : List NodeSplit → List (List Name) → List (List Name)
lows_behind splits lows = if is_raised splits lows then with_root (lows_split 0 splits lows) else lows_split 0 splits lows

-- ---- the images of nodes

-- a child in its IN's image; how long a slot is, its LSN does not matter for
abbrev pub any_child : Name → ChildSlot
any_child name = record { name = name; child = 0 }

-- the size of the image of what a level has from one edge on and below another one
abbrev pub image_size : List (Name × Cell) → List (List Name) → ℕ → Edge → Edge → ℕ
image_size cells lows zero from upto = size_of (Bin 0 0 (record_slots (between_edges from upto cells)))
image_size cells lows (suc level) from upto = size_of (In 0 0 0 (map any_child (filter (is_between from upto) (lows_at lows level))))

-- ---- trees, as far as their splits depend on them

-- the cells of a tree, the lows of each level, and of these the lows of the nodes that wait to be logged
pub record Shape : Type 0 where
  pub cells : List (Name × Cell)
  pub lows : List (List Name)
  pub waiting : List (List Name)

-- how many nodes of a tree wait to be logged
abbrev pub count_waiting : Shape → ℕ
count_waiting shape = count_lows shape.waiting

-- a name that has a cell makes no slot
abbrev pub has_slot : Name → Shape → Bool
has_slot x shape = is_some (value_at x shape.cells)

abbrev pub splits_of : ℕ → Name → Shape → List NodeSplit
splits_of fanout x shape = splits_from fanout x (keys_of shape.cells) shape.lows

-- the nodes that are logged for splits of a tree, and where a name gets a slot in it
abbrev pub logged_by : List NodeSplit → Shape → List NodeAt
logged_by splits shape = logged_for splits (is_raised splits shape.lows) shape.waiting

abbrev pub nodes_logged : ℕ → Name → Shape → List NodeAt
nodes_logged fanout x shape = if has_slot x shape then [] else logged_by (splits_of fanout x shape) shape

-- a tree behind splits, with the slot of a name; what is logged for them waits no more
abbrev pub shape_behind : List NodeSplit → Name → Shape → Shape
shape_behind splits x shape = record {
  cells = insert_entry name_cmp shape.cells x fresh;
  lows = lows_behind splits shape.lows;
  waiting = still_waiting (logged_by splits shape) 0 (waiting_raised (is_raised splits shape.lows) shape.waiting);
}

-- a tree behind the splits for a name, and with its slot
abbrev pub shape_with : ℕ → Name → Shape → Shape
shape_with fanout x shape = if has_slot x shape then shape else shape_behind (splits_of fanout x shape) x shape

-- the size of the image of a node of a tree
abbrev pub node_size : Shape → NodeAt → ℕ
node_size shape n = image_size shape.cells shape.lows n.level (At n.low) (upper_edge (low_after n.low (lows_at shape.lows n.level)))

-- the sizes of the images that a name's slot needs, in the order in which they are logged
abbrev pub image_sizes : ℕ → Name → Shape → List ℕ
image_sizes fanout x shape = map (node_size (shape_with fanout x shape)) (nodes_logged fanout x shape)

-- how many nodes it makes: one for each split, and a root
abbrev pub one_if : Bool → ℕ
one_if true = 1
one_if false = 0

abbrev pub made_for : List NodeSplit → List (List Name) → ℕ
made_for splits lows = length splits + one_if (is_raised splits lows)

abbrev pub nodes_made : ℕ → Name → Shape → ℕ
nodes_made fanout x shape = if has_slot x shape then 0 else made_for (splits_of fanout x shape) shape.lows

-- whether an image that it needs would pass the last level, which is 64 with the BINs at 1
abbrev pub passes_top : ℕ → Name → Shape → Bool
passes_top fanout x shape = nat_lt 64 (nodes_made fanout x shape)

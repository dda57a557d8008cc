-- Nodes that are split, and the slots of INs.
use Rattle.std.specs.Prelude.{◌≡◌, ◌-◌, ◌/◌, ◌<◌, ℕ, suc, Bool, false, None, take, [], ◌∷◌, List, Option, true, length, option_map}
use Rattle.std.specs.List.{flat_map, slice_get}
use Rattle.log_entry.specs.declared.child_slot.ChildSlot.{ChildSlot}
use Rattle.node_core.specs.declared.slot.Slot.{Slot}
use Rattle.tree_nodes.specs.declared.node.Node.{Node}
use Rattle.je_order.specs.Edges.Edge.{At}
use Rattle.je_order.specs.declared.name.Name.{Name}
use Rattle.record_map.specs.declared.cell.Cell.{Cell}
use Rattle.record_map.specs.Cells.{value_at, between_edges, upper_edge}
use Rattle.tree_nodes.specs.Nodes.{NodeRow, IsOver, least, low_behind}
use Rattle.tree_nodes.specs.Levels.{row_of, AreParts, HasPutAt}
use Rattle.db_tree.specs.declared.node_split.NodeSplit.{NodeSplit}
use Rattle.db_tree.specs.Notes.{is_noted_at}
use Rattle.db_tree.specs.Content.{child_slot_for, lsn_of}

-- the node that is split off another one: a copy of it with a number of its own, which does not wait
abbrev pub split_off : ℕ → ℕ → Node → Node
split_off number slots node = record { number = number; last = node.last; from = node.from; slots = slots; forced = false; noted = node.noted }

-- the slots of children as their IN's image has them
abbrev pub children_in : List Slot → List ChildSlot
children_in slots = flat_map (λ slot. child_slot_for slot.name (lsn_of slot.version)) slots

-- the cells of the BIN with a low
abbrev pub cells_within : Name → NodeRow → List (Name × Cell) → List (Name × Cell)
cells_within low row cells = between_edges (At low) (upper_edge (low_behind low row)) cells

abbrev pub name_of : Option (Name × Cell) → Option Name
name_of o = option_map (λ e. e.0) o

-- the name of the first one in the second half of some cells; the first half is the longer one
abbrev pub middle_of : List (Name × Cell) → Option Name
middle_of cells = name_of (slice_get cells (length cells - length cells / 2))

-- each level has the same node under each low
abbrev pub AreSameByName : List NodeRow → List NodeRow → Type 0
AreSameByName old new = (k : ℕ) (x : Name) → value_at x (row_of new k) ≡ value_at x (row_of old k)

-- ---- splits that can be taken back

-- a node begins at a name of a level, noted where the node is that it was part of, and with its mark
abbrev pub IsSplitOff : List NodeRow → List NodeRow → ℕ → Name → Type 0
IsSplitOff old new level middle = (node : Node) × HasPutAt old new level middle node × ((e : Name × Node) → IsOver (row_of old level) middle e → (node.noted ≡ e.1.noted) × (node.from ≡ e.1.from))

-- a node of a level was split: a new node begins at a name at which none began
pub record IsSplitAt (old new : List NodeRow) (level : ℕ) (middle : Name) : Type 0 where
  pub parts : AreParts old
  pub there : level < length old
  pub free : value_at middle (row_of old level) ≡ None
  pub node : Node
  pub put : HasPutAt old new level middle node
  -- it is noted where the node is that it was part of, and has its mark
  pub noted : (e : Name × Node) → IsOver (row_of old level) middle e → node.noted ≡ e.1.noted
  pub from : (e : Name × Node) → IsOver (row_of old level) middle e → node.from ≡ e.1.from

-- nodes were split, one of each level from one on
abbrev pub AreSplit : ℕ → List NodeSplit → List NodeRow → List NodeRow → Type 0
AreSplit level [] old new = new ≡ old
AreSplit level (split ∷ splits) old new = (mid : List NodeRow) × IsSplitAt old mid level split.middle × AreSplit (suc level) splits mid new

-- a root was put above the top, noted where the old one is, or not
abbrev pub IsRaisedFrom : Bool → List NodeRow → List NodeRow → Type 0
IsRaisedFrom true old new = (0 < length old) × (length new ≡ suc (length old)) × (take (length old) new ≡ old) × (is_noted_at new (length old) least ≡ is_noted_at old (length old - 1) least)
IsRaisedFrom false old new = new ≡ old

-- nodes were split, and a root was put above them, or not
pub record AreGrown (splits : List NodeSplit) (raised : Bool) (old new : List NodeRow) : Type 0 where
  pub mid : List NodeRow
  pub split : AreSplit 0 splits old mid
  pub root : IsRaisedFrom raised mid new

-- The content of nodes: what is committed under names, and the images that are made of it.
use Rattle.std.specs.Prelude.{ℕ, List, [], ◌∷◌, Option, Some, None, nat_lt, if◌then◌else◌}
use Rattle.std.specs.List.{flat_map}
use Rattle.je_order.specs.Edges.Edge.{At}
use Rattle.je_order.specs.declared.name.Name.{Name}
use Rattle.log_entry.specs.declared.child_slot.ChildSlot.{ChildSlot}
use Rattle.log_entry.specs.declared.record_slot.RecordSlot.{RecordSlot}
use Rattle.log_entry.specs.declared.entry.Entry.{Entry}
use Rattle.log_entry.specs.declared.entry.Entry.TheVariants.{In, Bin}
use Rattle.node_core.specs.declared.slot.Version.{Version}
use Rattle.node_core.specs.declared.slot.Version.TheVariants.{There, Deleted, Unset}
use Rattle.record_map.specs.declared.cell.Cell.{Cell}
use Rattle.record_map.specs.Cells.{value_at, between_edges, fresh, upper_edge}
use Rattle.tree_nodes.specs.Nodes.{NodeRow, low_behind}

-- the LSN of a record that is committed
abbrev pub lsn_of : Version → Option ℕ
lsn_of (There lsn) = Some lsn
lsn_of Deleted = None
lsn_of Unset = None

-- what is held of a name: what is committed of it, by which Commit, and what the last image of its BIN says of it if that stands before
-- this Commit
pub record NameState : Type 0 where
  pub version : Version
  pub shown : Version
  pub touched : ℕ

-- so it is in a cell; of a name without a cell nothing is committed
abbrev pub name_state : Cell → NameState
name_state cell = record { version = cell.version; shown = cell.shown; touched = cell.touched }

abbrev pub held_under : Option Cell → NameState
held_under None = name_state fresh
held_under (Some cell) = name_state cell

abbrev pub kept_by : List (Name × Cell) → Name → NameState
kept_by cells x = held_under (value_at x cells)

-- what the last image of a name's BIN says of it, by the image's LSN
abbrev pub shown_held : ℕ → NameState → Version
shown_held last held = if nat_lt last held.touched then held.shown else held.version

abbrev pub lsn_under : Option Cell → Option ℕ
lsn_under o = lsn_of (held_under o).version

-- what is committed under each name
abbrev pub held_by : List (Name × Cell) → Name → Option ℕ
held_by cells x = lsn_under (value_at x cells)

abbrev pub lsn_held : (Name → NameState) → Name → Option ℕ
lsn_held held x = lsn_of (held x).version

-- the slot of a cell in its BIN's image; a cell of which nothing is committed has none
abbrev pub slot_for : Name → Version → List RecordSlot
slot_for name (There lsn) = record { name = name; lsn = Some lsn } ∷ []
slot_for name Deleted = record { name = name; lsn = None } ∷ []
slot_for name Unset = []

abbrev pub record_slots : List (Name × Cell) → List RecordSlot
record_slots cells = flat_map (λ e. slot_for e.0 e.1.version) cells

-- the slot of a child in its IN's image; a child without an image has none
abbrev pub child_slot_for : Name → Option ℕ → List ChildSlot
child_slot_for name None = []
child_slot_for name (Some lsn) = record { name = name; child = lsn } ∷ []

abbrev pub child_slots : NodeRow → List ChildSlot
child_slots row = flat_map (λ e. child_slot_for e.0 e.1.last) row

-- the image of a BIN: the cells from its low on and below the low behind it
abbrev pub bin_image : ℕ → ℕ → Name → NodeRow → List (Name × Cell) → Entry
bin_image db number low row cells = Bin db number (record_slots (between_edges (At low) (upper_edge (low_behind low row)) cells))

-- the image of an IN: the nodes of the level below from its low on and below the low behind it
abbrev pub in_image : ℕ → ℕ → ℕ → Name → NodeRow → NodeRow → Entry
in_image db number of_level low row below = In db number of_level (child_slots (between_edges (At low) (upper_edge (low_behind low row)) below))

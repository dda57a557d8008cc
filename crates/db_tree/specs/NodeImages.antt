-- The images of nodes, before they are logged and when they are.
use Rattle.std.specs.Prelude.{◌≡◌, ◌+◌, ℕ, zero, suc, false, List, [], ◌∷◌, Option, None, Some, map, option_and_then, unwrap_or}
use Rattle.std.specs.List.{AllByRecursion, list_any}
use Rattle.std.specs.Map.{keys_of}
use Rattle.je_order.specs.Edges.{Edge}
use Rattle.je_order.specs.Edges.Edge.{At}
use Rattle.je_order.specs.declared.name.Name.{Name}
use Rattle.log_entry.specs.Body.{IsEntry}
use Rattle.log_entry.specs.Encoding.{size_of}
use Rattle.log_entry.specs.declared.child_slot.ChildSlot.{ChildSlot}
use Rattle.log_entry.specs.declared.entry.Entry.{Entry}
use Rattle.log_entry.specs.declared.entry.Entry.TheVariants.{In}
use Rattle.node_core.specs.declared.slot.Slot.{Slot}
use Rattle.record_map.specs.declared.cell.Cell.{Cell}
use Rattle.record_map.specs.Cells.{value_at, between_edges, upper_edge}
use Rattle.record_tree.specs.Logged.{IsImage}
use Rattle.tree_nodes.specs.declared.node.Node.{Node}
use Rattle.tree_nodes.specs.Nodes.{NodeRow, low_behind}
use Rattle.tree_nodes.specs.Levels.{row_of, slot_of}
use Rattle.db_tree.specs.declared.node_at.NodeAt.{NodeAt}
use Rattle.db_tree.specs.declared.node_image.NodeImage.{NodeImage}
use Rattle.db_tree.specs.Content.{lsn_of, bin_image}
use Rattle.db_tree.specs.Waiting.{waits_at}

-- an image that a log may have
abbrev pub IsLoggable : Entry → Type 0
IsLoggable entry = IsEntry entry × IsImage entry

-- ---- images that are to be logged

-- the slot of a child in its IN's image; 0 where the child has no image yet
abbrev pub kept_child : Slot → ChildSlot
kept_child slot = record { name = slot.name; child = unwrap_or (lsn_of slot.version) 0 }

-- the slots of the children from one edge on and below another one
abbrev pub kept_children : Edge → Edge → NodeRow → List ChildSlot
kept_children from upto row = map kept_child (map slot_of (between_edges from upto row))

-- the image of an IN with these children; images count levels from 1
abbrev pub kept_in : ℕ → ℕ → ℕ → Edge → Edge → NodeRow → Entry
kept_in db number level from upto row = In db number (level + 1) (kept_children from upto row)

-- a node's number
abbrev pub number_in : Option Node → ℕ
number_in None = 0
number_in (Some node) = node.number

abbrev pub number_of : List NodeRow → ℕ → Name → ℕ
number_of rows level low = number_in (value_at low (row_of rows level))

-- the image of the node of a level with a low: the records of a BIN, or the children of an IN
abbrev pub entry_of : ℕ → ℕ → ℕ → Name → List NodeRow → List (Name × Cell) → Entry
entry_of db number zero low rows cells = bin_image db number low (row_of rows 0) cells
entry_of db number (suc k) low rows cells = kept_in db number (suc k) (At low) (upper_edge (low_behind low (row_of rows (suc k)))) (row_of rows k)

abbrev pub node_entry : ℕ → ℕ → Name → List NodeRow → List (Name × Cell) → Entry
node_entry db level low rows cells = entry_of db (number_of rows level low) level low rows cells

-- the lows of its children; a BIN has none
abbrev pub children_of : ℕ → Name → List NodeRow → List Name
children_of zero low rows = []
children_of (suc k) low rows = keys_of (between_edges (At low) (upper_edge (low_behind low (row_of rows (suc k)))) (row_of rows k))

-- an image is that of its node
pub record IsNodeImage (db : ℕ) (rows : List NodeRow) (cells : List (Name × Cell)) (image : NodeImage) : Type 0 where
  pub entry : image.entry ≡ node_entry db image.level image.low rows cells
  pub children : image.children.items ≡ children_of image.level image.low rows

-- the node of an image
abbrev pub node_of : NodeImage → NodeAt
node_of image = record { level = image.level; low = image.low }

-- images are those of some nodes, in their order
pub record AreNodeImages (db : ℕ) (rows : List NodeRow) (cells : List (Name × Cell)) (wanted : List NodeAt) (images : List NodeImage) : Type 0 where
  pub nodes : map node_of images ≡ wanted
  pub each : AllByRecursion (IsNodeImage db rows cells) images

abbrev pub sizes_in : List NodeImage → List ℕ
sizes_in images = map (λ image. size_of image.entry) images

-- each image is one that a log may have
abbrev pub AreLoggable : List NodeImage → Type 0
AreLoggable images = AllByRecursion (λ image. IsLoggable image.entry) images

-- none of the children of a node of a level waits to be logged; a BIN has none
abbrev pub AreBelowLogged : List NodeRow → ℕ → List Name → Type 0
AreBelowLogged rows zero children = Unit {0}
AreBelowLogged rows (suc k) children = list_any (waits_at rows k) children ≡ false

-- ---- images that are logged

-- the LSN of the last image of the node of a level with a low; 0 where it has none
abbrev pub last_at : List NodeRow → ℕ → Name → ℕ
last_at rows level low = unwrap_or (option_and_then (λ node. node.last) (value_at low (row_of rows level))) 0

-- the slots of children, each with the LSN of its child's last image
abbrev pub finished_slots : List NodeRow → ℕ → List Name → List ChildSlot → List ChildSlot
finished_slots rows level children [] = []
finished_slots rows level [] (slot ∷ slots) = slot ∷ slots
finished_slots rows level (low ∷ children) (slot ∷ slots) = record { name = slot.name; child = last_at rows level low } ∷ finished_slots rows level children slots

-- those in the entry of a node of a level; a BIN's has none
abbrev pub finished_below : List NodeRow → ℕ → List Name → List ChildSlot → List ChildSlot
finished_below rows zero children slots = slots
finished_below rows (suc k) children slots = finished_slots rows k children slots

abbrev pub finished_entry : List NodeRow → ℕ → List Name → Entry → Entry
finished_entry rows level children (In db number of_level slots) = In db number of_level (finished_below rows level children slots)
finished_entry rows level children entry = entry

-- an image whose children have their LSNs
abbrev pub finished : List NodeRow → NodeImage → NodeImage
finished rows image = record {
  level = image.level;
  low = image.low;
  entry = finished_entry rows image.level image.children.items image.entry;
  waited = image.waited;
  children = image.children;
}

-- What holds of all nodes and their entries.
use Rattle.std.specs.Prelude.{◌≡◌, ◌≢◌, ◌<◌, ◌≤◌, ◌^◌, ◌⊎◌, Some, None, IfSome, length, map}
use Rattle.std.specs.List.{AllByRecursion}
use Rattle.log_entry.specs.declared.entry.Entry.{Entry}
use Rattle.log_entry.specs.Fields.{IsName}
use Rattle.log_entry.specs.Body.{IsEntry}
use Rattle.node_core.specs.declared.slot.Version.TheVariants.{Deleted}
use Rattle.node_core.specs.declared.slot.Marked.{Marked}
use Rattle.node_core.specs.declared.node.Node.{Node}
use Rattle.node_core.specs.Sorted.{AreSlots}
use Rattle.node_core.specs.Changes.{committed, unmarked}
use Rattle.node_core.specs.Nodes.{IsFullImage}
use Rattle.node_log.specs.Slots.{lsn_in}
use Rattle.node_log.specs.Images.{entry_of, delta_of, node_of, node_with}

-- ---- entries are made

-- a slot whose name and LSN an entry can hold
abbrev pub FitsSlot : Marked → Type 0
FitsSlot m = IsName m.slot.name × IfSome (lsn_in m.slot.version) (λ lsn. lsn < 2 ^ 64)

-- a node whose numbers and slots an entry can hold; an IN has a level from 2 to 64 and a child that has an image
pub record FitsEntry (n : Node) : Type 0 where
  pub db : n.db < 2 ^ 32
  pub number : n.number < 2 ^ 64
  pub full : IfSome n.full (λ lsn. lsn < 2 ^ 64)
  pub slots : AreSlots n.slots
  pub each : AllByRecursion FitsSlot n.slots

abbrev pub IsInternal : Node → Type 0
IsInternal n = (2 ≤ n.level) × (n.level ≤ 64) × (0 < length (committed n.slots)) × AllByRecursion (λ m. m.slot.version ≢ Deleted) n.slots

-- such a node's entry keeps the limits of its kind
abbrev pub ImagesAreEntries : Type 0
ImagesAreEntries = (n : Node) → FitsEntry n → (n.level ≡ 1) ⊎ IsInternal n → IsEntry (entry_of n)

-- and so does its delta
abbrev pub DeltasAreEntries : Type 0
DeltasAreEntries = (n : Node) (delta : Entry) → FitsEntry n → delta_of n ≡ Some delta → IsEntry delta

-- ---- nodes are read back

-- the node as its entry shows it: its committed slots, none of them changed since
abbrev pub image_of : Node → Node
image_of n = record { db = n.db; number = n.number; level = n.level; full = None; slots = map unmarked (committed n.slots) }

-- the node as its last full entry and a delta show it: its committed slots
abbrev pub shown_of : Node → Node
shown_of n = record { db = n.db; number = n.number; level = n.level; full = n.full; slots = committed n.slots }

-- a node's entry shows the node
abbrev pub ImagesAreReadBack : Type 0
ImagesAreReadBack = (n : Node) → (n.level ≡ 1) ⊎ IsInternal n → node_of (entry_of n) ≡ Some (image_of n)

-- a BIN's older entry shows the BIN together with a delta to it
abbrev pub DeltasAreReadBack : Type 0
DeltasAreReadBack = (old new : Node) (delta : Entry) → old.db ≡ new.db → old.number ≡ new.number → old.level ≡ 1 → AreSlots new.slots
    → IsFullImage (image_of old).slots new → delta_of new ≡ Some delta → node_with (entry_of old) delta ≡ Some (shown_of new)

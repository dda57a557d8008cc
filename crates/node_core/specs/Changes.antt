-- Which slots a node's images show.
use Rattle.std.specs.Prelude.{List, Bool, true, false, Option, Some, None, ◌&&◌, filter, map}
use Rattle.je_order.specs.declared.name.Name.{Name}
use Rattle.node_core.specs.declared.slot.Version.{Version}
use Rattle.node_core.specs.declared.slot.Version.TheVariants.{There, Deleted, Unset}
use Rattle.node_core.specs.declared.slot.Slot.{Slot}
use Rattle.node_core.specs.declared.slot.Marked.{Marked}
use Rattle.node_core.specs.Sorted.{at}

-- a version that a log entry can show
abbrev pub is_committed : Version → Bool
is_committed (There lsn) = true
is_committed Deleted = true
is_committed Unset = false

-- the slots that a full image shows
abbrev pub committed : List Marked → List Marked
committed ms = filter (λ m. is_committed m.slot.version) ms

-- the slots that a delta shows: those that were set since the node was logged in full
abbrev pub changed : List Marked → List Marked
changed ms = filter (λ m. m.changed && is_committed m.slot.version) ms

-- a slot that is set now counts as changed, if a log entry can show it
abbrev pub set_now : Slot → Marked
set_now s = record { slot = s; changed = is_committed s.version }

-- a slot that was not set since the node was logged in full
abbrev pub unmarked : Marked → Marked
unmarked m = record { slot = m.slot; changed = false }

-- the slots alone
abbrev pub slots_in : List Marked → List Slot
slots_in ms = map (λ m. m.slot) ms

abbrev pub shows : Option Marked → Bool
shows None = false
shows (Some m) = is_committed m.slot.version

-- an image shows a slot of this name
abbrev pub has_committed : Name → List Marked → Bool
has_committed x ms = shows (at x ms)

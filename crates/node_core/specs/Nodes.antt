-- How a node changes, and how its images stand to it.
use Rattle.std.specs.Prelude.{◌≡◌, ℕ, List, Option, None, IsSome, ◌&&◌, not, map, if◌then◌else◌}
use Rattle.je_order.specs.declared.name.Name.{Name}
use Rattle.node_core.specs.declared.slot.Slot.{Slot}
use Rattle.node_core.specs.declared.slot.Marked.{Marked}
use Rattle.node_core.specs.declared.node.Node.{Node}
use Rattle.node_core.specs.Sorted.{Rises, put, put_all}
use Rattle.node_core.specs.Changes.{is_committed, committed, changed, set_now, unmarked, has_committed}

-- a node with a slot put in. Where this hides a committed slot, no delta can show it
abbrev pub with_slot : Slot → Node → Node
with_slot s n = record {
  db = n.db;
  number = n.number;
  level = n.level;
  full = if not (is_committed s.version) && has_committed s.name n.slots then None else n.full;
  slots = put (set_now s) n.slots;
}

-- a node of which no slot was set since its full image, which is at this LSN
abbrev pub with_changed_cleared : Option ℕ → Node → Node
with_changed_cleared full n = record { db = n.db; number = n.number; level = n.level; full = full; slots = map unmarked n.slots }

-- where a delta can be logged, its slots put into these make the image that the node has now
abbrev pub IsFullImage : List Marked → Node → Type 0
IsFullImage image n = IsSome n.full → Rises image × (put_all (changed n.slots) image ≡ committed n.slots)

use Rattle.std.proofs.Common.{◌≡◌, map}
use Rattle.std.specs.Vec.Iter.{into_iter_items}
use Rattle.node_core.specs.Sorted.{put_all}
use Rattle.node_core.specs.Changes.{set_now}
use Rattle.node_log.proofs.reading.put_slots.Given as goal

abbrev pub invariant-loop-slot : goal.invariant-loop-slot
invariant-loop-slot l =
    (put_all (map set_now (into_iter_items l.slot-iterator)) l.node.slots ≡ put_all (map set_now l.fn.slots) l.initial.node.slots)
    × (l.node.db ≡ l.initial.node.db) × (l.node.number ≡ l.initial.node.number) × (l.node.level ≡ l.initial.node.level)

use Rattle.std.proofs.Common.{◌≡◌, ◌++◌, map}
use Rattle.std.specs.Vec.Iter.{into_iter_items}
use Rattle.node_core.specs.Changes.{set_now}
use Rattle.node_log.proofs.reading.filled.Given as goal

abbrev pub invariant-loop-slot : goal.invariant-loop-slot
invariant-loop-slot l =
    (l.node.slots ++ map set_now (into_iter_items l.slot-iterator) ≡ map set_now l.fn.slots)
    × (l.node.db ≡ l.db) × (l.node.number ≡ l.number) × (l.node.level ≡ l.level)

use Rattle.std.proofs.Common.{◌≡◌, ◌++◌, map, drop}
use Rattle.node_log.specs.Slots.{slot_of_child}
use Rattle.node_log.proofs.slots.slots_of_children.Given as goal

abbrev pub invariant-loop-slot : goal.invariant-loop-slot
invariant-loop-slot l = l.out.items ++ map slot_of_child (drop l.slot-index l.children) ≡ map slot_of_child l.children

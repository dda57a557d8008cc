use Rattle.std.proofs.Common.{◌≡◌, ◌++◌, map, drop}
use Rattle.node_log.specs.Slots.{slot_of_record}
use Rattle.node_log.proofs.slots.slots_of_records.Given as goal

abbrev pub invariant-loop-slot : goal.invariant-loop-slot
invariant-loop-slot l = l.out.items ++ map slot_of_record (drop l.slot-index l.records) ≡ map slot_of_record l.records

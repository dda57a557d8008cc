use Rattle.std.proofs.Common.{◌≡◌, ◌++◌}
use Rattle.db_tree.specs.Content.{record_slots}
use Rattle.db_tree.proofs.tree.record_slots.Given as goal

abbrev pub invariant-loop-name : goal.invariant-loop-name
invariant-loop-name l = l.slots.items ++ record_slots l.name-iterator ≡ record_slots l.initial.name-iterator

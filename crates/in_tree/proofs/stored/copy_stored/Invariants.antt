use Rattle.std.proofs.Common.{◌≡◌, ◌++◌}
use Rattle.db_tree.specs.Stored.{stored_in}
use Rattle.in_tree.proofs.stored.copy_stored.Given as goal

abbrev pub invariant-loop-name : goal.invariant-loop-name
invariant-loop-name l = l.records.items ++ stored_in l.name-iterator ≡ stored_in l.initial.name-iterator

use Rattle.std.proofs.Common.{◌≡◌}
use Rattle.db_tree.specs.Seen.{occupied}
use Rattle.db_tree.proofs.reading.first_occupied.Given as goal

abbrev pub invariant-loop-name : goal.invariant-loop-name
invariant-loop-name l = occupied l.name-iterator ≡ occupied l.initial.name-iterator

use Rattle.std.proofs.Common.{◌≡◌, ◌++◌}
use Rattle.in_tree.proofs.stored.databases.Given as goal

abbrev pub invariant-loop-db : goal.invariant-loop-db
invariant-loop-db l = l.numbers.items ++ l.db-iterator ≡ l.initial.db-iterator

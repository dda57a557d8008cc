use Rattle.std.proofs.Common.{◌≡◌, ◌++◌, drop}
use Rattle.db_tree.specs.Waiting.{halves_of}
use Rattle.db_tree.proofs.logged_nodes.push_all_halves.Given as goal

abbrev pub invariant-loop-level : goal.invariant-loop-level
invariant-loop-level l = l.nodes.items ++ halves_of l.level (drop l.level l.splits) ≡ l.initial.nodes.items ++ halves_of 0 l.splits

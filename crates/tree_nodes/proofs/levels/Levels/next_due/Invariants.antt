use Rattle.tree_nodes.proofs.DueLaws.{NoneBelow}
use Rattle.tree_nodes.proofs.levels.Levels.next_due.Given as goal

abbrev pub invariant-loop-level : goal.invariant-loop-level
invariant-loop-level l = NoneBelow l.levels.items l.level

use Rattle.db_tree.proofs.GrowLaws.{SplitsLeft}
use Rattle.db_tree.proofs.tree.DbTree.split_each.Given as goal

abbrev pub invariant-loop-level : goal.invariant-loop-level
invariant-loop-level l = SplitsLeft l.first l.initial.self.levels l.self.levels l.initial.self.cells l.self.cells l.level l.splits

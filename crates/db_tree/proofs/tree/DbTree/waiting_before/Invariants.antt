use Rattle.std.proofs.Common.{◌≡◌, ◌++◌, drop}
use Rattle.db_tree.specs.Waiting.{waiting_below, waiting_of}
use Rattle.db_tree.proofs.tree.DbTree.waiting_before.Given as goal

abbrev pub invariant-loop-level : goal.invariant-loop-level
invariant-loop-level l = l.nodes.items ++ waiting_below l.level l.top (drop l.level l.splits) (waiting_of l.self.levels) ≡ waiting_below 0 l.top l.splits (waiting_of l.self.levels)

use Rattle.std.proofs.Common.{length}
use Rattle.environment.proofs.OwnFree.{IsCounted}
use Rattle.environment.proofs.own_changes.count_had.Given as goal

-- those so far and those that are left are all, and where those that are left have few new names all have
abbrev pub invariant-loop-change : goal.invariant-loop-change
invariant-loop-change g l = IsCounted l.txn (g.T.Records.cells l.trees) l.count l.rest l.fn.changes

abbrev pub decreases-loop-change : goal.decreases-loop-change
decreases-loop-change g l = length l.rest

use Rattle.std.proofs.Common.{◌≡◌, ◌+◌, count_by, length}
use Rattle.txn_core.specs.Known.{committed}
use Rattle.txn_core.specs.Planning.{HaveFewNew}
use Rattle.environment.specs.Changing.{has_data}
use Rattle.environment.proofs.auto_plan.count_there.Given as goal

-- those so far and those that are left are all, and where those that are left have few new names all have
abbrev pub invariant-loop-change : goal.invariant-loop-change
invariant-loop-change g l =
    (l.count + count_by (has_data (committed (g.T.Records.cells l.trees))) l.rest ≡ count_by (has_data (committed (g.T.Records.cells l.trees))) l.fn.changes)
    × (HaveFewNew (committed (g.T.Records.cells l.trees)) l.rest → HaveFewNew (committed (g.T.Records.cells l.trees)) l.fn.changes)

abbrev pub decreases-loop-change : goal.decreases-loop-change
decreases-loop-change g l = length l.rest

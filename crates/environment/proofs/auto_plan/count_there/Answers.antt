use Rattle.std.proofs.Common.{◌∙◌, sym}
use Rattle.txn_core.specs.Known.{committed}
use Rattle.environment.proofs.ChangeLaws.{counts_new, counts_there}
use Rattle.environment.proofs.auto_plan.count_there.Goals as goal

pub loop-change-preserved-then-is_there : goal.loop-change-preserved-then-is_there
loop-change-preserved-then-is_there g c =
    counts_there (committed (g.T.Records.cells c.args.trees.now)) c.loop-change.count c.in-Some.change.now c.in-Some.later.now c.loop-change.rest.now c.args.changes.now c.in-Some.ensures.cases.0
    (sym c.is_there.ensures ∙ c.if-is_there.true) c.loop-change.invariant

pub loop-change-preserved : goal.loop-change-preserved
loop-change-preserved g c =
    counts_new (committed (g.T.Records.cells c.args.trees.now)) c.loop-change.count c.in-Some.change.now c.in-Some.later.now c.loop-change.rest.now c.args.changes.now c.in-Some.ensures.cases.0
    (sym c.is_there.ensures ∙ c.if-is_there.false) (c.are_there.ensures c.if-not-are_there.false) c.loop-change.invariant

use Rattle.std.proofs.Common.{◌∙◌, sym}
use Rattle.environment.proofs.OwnFree.{counts_had, counts_new}
use Rattle.environment.proofs.own_changes.count_had.Goals as goal

pub loop-change-preserved-then-holds : goal.loop-change-preserved-then-holds
loop-change-preserved-then-holds g c =
    counts_had c.args.txn (g.T.Records.cells c.args.trees.now) c.loop-change.count c.in-Some.change.now c.in-Some.later.now c.loop-change.rest.now c.args.changes.now c.in-Some.ensures.cases.0
    (sym c.holds.ensures ∙ c.if-holds.true) c.loop-change.invariant

pub loop-change-preserved : goal.loop-change-preserved
loop-change-preserved g c =
    counts_new c.args.txn (g.T.Records.cells c.args.trees.now) c.loop-change.count c.in-Some.change.now c.in-Some.later.now c.loop-change.rest.now c.args.changes.now c.in-Some.ensures.cases.0
    (sym c.holds.ensures ∙ c.if-holds.false) (c.have_in.ensures c.if-not-have_in.false) c.loop-change.invariant

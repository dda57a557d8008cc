use Rattle.std.proofs.Common.{refl, sym, ◌∙◌}
use Rattle.txn_locks.specs.Taking.{state_of}
use Rattle.txn_locks.proofs.ReadNeeds.{passed_begins, passed_next, passed_halts}
use Rattle.txn_locks.proofs.reading.owner_in_way.Goals as goal

pub loop-need-init : goal.loop-need-init
loop-need-init c = passed_begins c.args.txn c.args.needs.now c.args.needs.now (state_of c.args.locks.now) refl

pub loop-need-preserved : goal.loop-need-preserved
loop-need-preserved c =
    passed_next c.args.txn c.args.needs.now c.loop-need.need-index c.need-item.result c.in_ok-at.at c.blocker-owner.result (state_of c.args.locks.now)
    c.loop-need-test.true c.need-item.is c.in_ok-at.ensures c.blocker-owner.ensures (sym c.is_some.ensures ∙ c.if-is_some.false) c.loop-need.invariant

pub returns-then-is_some-clause-stopped : goal.returns-then-is_some-clause-stopped
returns-then-is_some-clause-stopped c =
    passed_halts c.args.txn c.args.needs.now c.loop-need.need-index c.need-item.result c.in_ok-at.at c.blocker-owner.result (state_of c.args.locks.now)
    c.loop-need-test.true c.need-item.is c.in_ok-at.ensures c.blocker-owner.ensures c.loop-need.invariant

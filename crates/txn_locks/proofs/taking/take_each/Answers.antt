use Rattle.std.proofs.Common.{◌∙◌, ap}
use Rattle.je_order.specs.declared.txn_id.TxnId.{TxnId}
use Rattle.lock_table.specs.declared.record_id.RecordId.{RecordId}
use Rattle.std.proofs.Common.{Option}
use Rattle.txn_locks.specs.Taking.{state_of}
use Rattle.txn_locks.proofs.NeedSteps.{locking_goes, locking_halts}
use Rattle.txn_locks.proofs.taking.take_each.Goals as goal

pub take_one-requires : goal.take_one-requires
take_one-requires c = ap (λ (f : TxnId → Option RecordId). f c.args.txn) c.loop-place.invariant.taking.pending ∙ c.requires.none

pub loop-place-preserved : goal.loop-place-preserved
loop-place-preserved c =
    locking_goes c.args.txn c.args.needs.now c.loop-place.place c.index-needs-place.result c.args.wait c.in-Ok.stop (state_of c.args.locks.now) (state_of c.loop-place.locks) (state_of c.take_one.new.locks) c.loop-place.got.items c.take_one.new.got.items
    c.in_default.is c.loop-place-test.true c.index-needs-place.is c.loop-place.invariant c.in-Ok.ensures.turn c.in-Ok.ensures.got

pub returns-in-Some-clause-locked : goal.returns-in-Some-clause-locked
returns-in-Some-clause-locked c =
    (locking_halts c.args.txn c.args.needs.now c.loop-place.place c.index-needs-place.result c.args.wait c.in-Ok.stop c.in-Some.locked (state_of c.args.locks.now) (state_of c.loop-place.locks) (state_of c.take_one.new.locks) c.loop-place.got.items c.take_one.new.got.items
    c.in-Some.is c.loop-place-test.true c.index-needs-place.is c.loop-place.invariant c.in-Ok.ensures.turn c.in-Ok.ensures.kept).0

pub returns-in-Some-clause-got : goal.returns-in-Some-clause-got
returns-in-Some-clause-got c =
    (locking_halts c.args.txn c.args.needs.now c.loop-place.place c.index-needs-place.result c.args.wait c.in-Ok.stop c.in-Some.locked (state_of c.args.locks.now) (state_of c.loop-place.locks) (state_of c.take_one.new.locks) c.loop-place.got.items c.take_one.new.got.items
    c.in-Some.is c.loop-place-test.true c.index-needs-place.is c.loop-place.invariant c.in-Ok.ensures.turn c.in-Ok.ensures.kept).1

pub returns-in-Some-clause-reads : goal.returns-in-Some-clause-reads
returns-in-Some-clause-reads c =
    (locking_halts c.args.txn c.args.needs.now c.loop-place.place c.index-needs-place.result c.args.wait c.in-Ok.stop c.in-Some.locked (state_of c.args.locks.now) (state_of c.loop-place.locks) (state_of c.take_one.new.locks) c.loop-place.got.items c.take_one.new.got.items
    c.in-Some.is c.loop-place-test.true c.index-needs-place.is c.loop-place.invariant c.in-Ok.ensures.turn c.in-Ok.ensures.kept).2

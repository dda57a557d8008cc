use Rattle.txn_locks.proofs.ReadNeeds.{going_next}
use Rattle.txn_locks.proofs.reading.give_back_each.Goals as goal

pub loop-lock-preserved : goal.loop-lock-preserved
loop-lock-preserved c =
    going_next c.args.txn c.args.got.now c.loop-lock.lock-index c.lock-item.result c.args.locks.now c.loop-lock.locks c.give_back_read.new.locks
    c.loop-lock-test.true c.lock-item.is c.requires c.give_back_read.ensures.free c.loop-lock.invariant c.give_back_read.ensures.locks c.give_back_read.ensures.pending

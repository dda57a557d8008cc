use Rattle.txn_locks.proofs.ReadNeeds.{AreGoing}
use Rattle.txn_locks.proofs.reading.give_back_each.Given as goal

abbrev pub invariant-loop-lock : goal.invariant-loop-lock
invariant-loop-lock l = AreGoing l.txn l.got l.lock-index l.initial.locks l.locks

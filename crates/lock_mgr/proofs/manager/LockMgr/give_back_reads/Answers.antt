use Rattle.lock_mgr.proofs.NoDeadlockLaws.{free_read}
use Rattle.lock_mgr.proofs.manager.LockMgr.give_back_reads.Goals as goal

pub invariant_of-self : goal.invariant_of-self
invariant_of-self c = free_read c.self.inside.table c.give_back_reads.new.self c.args.txn c.self.invariant c.give_back_reads.ensures.settled c.give_back_reads.ensures.locks c.give_back_reads.ensures.pending

pub returns-clause-free : goal.returns-clause-free
returns-clause-free c = free_read c.self.inside.table c.give_back_reads.new.self c.args.txn c.self.invariant c.give_back_reads.ensures.settled c.give_back_reads.ensures.locks c.give_back_reads.ensures.pending

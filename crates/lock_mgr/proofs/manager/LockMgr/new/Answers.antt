use Rattle.lock_mgr.proofs.NoDeadlockLaws.{free_new}
use Rattle.lock_mgr.proofs.manager.LockMgr.new.Goals as goal

pub invariant_of-result : goal.invariant_of-result
invariant_of-result c = free_new _ c.new.ensures.settled c.new.ensures.pending

pub returns-clause-free : goal.returns-clause-free
returns-clause-free c = free_new _ c.new.ensures.settled c.new.ensures.pending

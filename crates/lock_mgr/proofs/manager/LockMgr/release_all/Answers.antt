use Rattle.lock_mgr.proofs.NoDeadlockLaws.{free_release}
use Rattle.lock_mgr.proofs.manager.LockMgr.release_all.Goals as goal

pub invariant_of-self : goal.invariant_of-self
invariant_of-self c = free_release c.self.inside.table c.release_all.new.self c.args.txn c.self.invariant c.release_all.ensures.settled c.release_all.ensures.locks c.release_all.ensures.pending

pub returns-clause-free : goal.returns-clause-free
returns-clause-free c = free_release c.self.inside.table c.release_all.new.self c.args.txn c.self.invariant c.release_all.ensures.settled c.release_all.ensures.locks c.release_all.ensures.pending

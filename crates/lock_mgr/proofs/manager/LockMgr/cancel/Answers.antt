use Rattle.lock_mgr.proofs.NoDeadlockLaws.{free_cancel}
use Rattle.lock_mgr.proofs.manager.LockMgr.cancel.Goals as goal

pub invariant_of-self : goal.invariant_of-self
invariant_of-self c = free_cancel c.self.inside.table c.cancel.new.self c.args.txn c.self.invariant c.cancel.ensures.settled c.cancel.ensures.locks c.cancel.ensures.pending

pub returns-clause-free : goal.returns-clause-free
returns-clause-free c = free_cancel c.self.inside.table c.cancel.new.self c.args.txn c.self.invariant c.cancel.ensures.settled c.cancel.ensures.locks c.cancel.ensures.pending

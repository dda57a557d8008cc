use Rattle.lock_mgr.proofs.NoDeadlockLaws.{free_forget}
use Rattle.lock_mgr.proofs.manager.LockMgr.forget.Goals as goal

pub invariant_of-self : goal.invariant_of-self
invariant_of-self c = free_forget c.self.inside.table c.forget.new.self c.args.txn c.self.invariant c.forget.ensures.settled c.forget.ensures.locks c.forget.ensures.pending

pub returns-clause-free : goal.returns-clause-free
returns-clause-free c = free_forget c.self.inside.table c.forget.new.self c.args.txn c.self.invariant c.forget.ensures.settled c.forget.ensures.locks c.forget.ensures.pending

use Rattle.txn_locks.proofs.ReadNeeds.{none_left}
use Rattle.txn_locks.proofs.call_locks.CallLocks.answered.Goals as goal

pub returns-clause-reads : goal.returns-clause-reads
returns-clause-reads c = none_left c.args.level c.args.txn c.args.self.now.locks c.give_back_at.new.locks c.have_no_cycle.ensures c.requires.none c.give_back_at.ensures

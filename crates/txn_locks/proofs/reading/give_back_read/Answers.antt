use Rattle.lock_table.specs.Table.{locks_at}
use Rattle.lock_table.proofs.ReadLocks.{read_goes, more_stays}
use Rattle.txn_locks.proofs.reading.give_back_read.Goals as goal

pub returns-then-is_read_alone-clause-locks : goal.returns-then-is_read_alone-clause-locks
returns-then-is_read_alone-clause-locks c =
    read_goes (λ r. locks_at r c.args.locks.now) (λ r. locks_at r c.give_back.new.self) c.args.at.now c.args.txn c.held-held.result c.held-held.ensures (c.is_read_alone.ensures.read c.if-is_read_alone.true) c.give_back.ensures.locks

pub returns-else-is_read_alone-clause-locks : goal.returns-else-is_read_alone-clause-locks
returns-else-is_read_alone-clause-locks c =
    more_stays (λ r. locks_at r c.args.locks.now) c.args.at.now c.args.txn c.held-held.result c.held-held.ensures (c.is_read_alone.ensures.more c.if-is_read_alone.false)

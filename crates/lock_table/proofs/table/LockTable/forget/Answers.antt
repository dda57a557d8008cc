use Rattle.lock_table.specs.Records.{queue_at}
use Rattle.lock_table.specs.Table.{at_txn, is_listed}
use Rattle.lock_table.proofs.WholeTable.{sound_forget}
use Rattle.lock_table.proofs.table.LockTable.forget.Goals as goal

pub invariant_of-self : goal.invariant_of-self
invariant_of-self c = (sound_forget (λ r. queue_at r c.self.inside.queues.entries) (is_listed c.self.inside.lists.entries) (λ t. at_txn t c.self.inside.pending.entries) (λ t. at_txn t c.forget_in.new.pending.entries) c.args.txn c.self.invariant.0 c.forget_in.ensures, c.self.invariant.1, c.self.invariant.2, c.self.invariant.3)

pub returns-clause-settled : goal.returns-clause-settled
returns-clause-settled c = let s = sound_forget (λ r. queue_at r c.self.inside.queues.entries) (is_listed c.self.inside.lists.entries) (λ t. at_txn t c.self.inside.pending.entries) (λ t. at_txn t c.forget_in.new.pending.entries) c.args.txn c.self.invariant.0 c.forget_in.ensures in record { settled = s.settled; alone = s.waits }

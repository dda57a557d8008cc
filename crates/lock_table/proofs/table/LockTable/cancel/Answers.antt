use Rattle.std.proofs.Common.{refl, sym, subst}
use Rattle.lock_table.specs.Records.{queue_at}
use Rattle.lock_table.specs.Table.{at_txn, is_listed, is_among, AreRangesOf, AreReadsNoted, is_used}
use Rattle.lock_table.proofs.RangeLocks.{ranges_cancelled}
use Rattle.lock_table.specs.Locks.{after_cancel}
use Rattle.lock_table.proofs.UsedDatabases.{used_by}
use Rattle.lock_table.proofs.NotedReads.{noted_cancelled}
use Rattle.lock_table.proofs.RecordLists.{unless}
use Rattle.lock_table.proofs.WholeTable.{sound_cancel}
use Rattle.lock_table.proofs.table.LockTable.cancel.Goals as goal

pub invariant_of-self : goal.invariant_of-self
invariant_of-self c = (
  sound_cancel (λ r. queue_at r c.self.inside.queues.entries) (λ r. queue_at r c.cancel_in.new.queues.entries) (is_listed c.self.inside.lists.entries) (λ t. at_txn t c.self.inside.pending.entries) (λ t. at_txn t c.cancel_in.new.pending.entries) c.args.txn c.self.invariant.0 c.cancel_in.ensures.queues (λ t. unless _ _ _ _ (c.cancel_in.ensures.pending t)),
  λ r. subst (AreRangesOf (is_among c.self.inside.ranging)) (sym (c.cancel_in.ensures.queues r)) (ranges_cancelled (is_among c.self.inside.ranging) c.args.txn (queue_at r c.self.inside.queues.entries) (c.self.invariant.1 r)),
  λ r. subst (AreReadsNoted (λ t. at_txn t c.self.inside.reading.entries)) (sym (c.cancel_in.ensures.queues r)) (noted_cancelled (λ t. at_txn t c.self.inside.reading.entries) c.args.txn (queue_at r c.self.inside.queues.entries) (c.self.invariant.2 r)),
  used_by (is_used c.self.inside.dbs) (λ r. queue_at r c.self.inside.queues.entries) (λ r. queue_at r c.cancel_in.new.queues.entries) (after_cancel c.args.txn) refl c.cancel_in.ensures.queues c.self.invariant.3,
)

pub returns-clause-settled : goal.returns-clause-settled
returns-clause-settled c = let s = sound_cancel (λ r. queue_at r c.self.inside.queues.entries) (λ r. queue_at r c.cancel_in.new.queues.entries) (is_listed c.self.inside.lists.entries) (λ t. at_txn t c.self.inside.pending.entries) (λ t. at_txn t c.cancel_in.new.pending.entries) c.args.txn c.self.invariant.0 c.cancel_in.ensures.queues (λ t. unless _ _ _ _ (c.cancel_in.ensures.pending t)) in record { settled = s.settled; alone = s.waits }

use Rattle.std.proofs.Common.{refl, None, sym, ◌∙◌, subst}
use Rattle.je_order.proofs.TxnIds.{at_same}
use Rattle.lock_table.specs.Records.{queue_at}
use Rattle.lock_table.specs.Table.{at_txn, is_listed, is_among, AreRangesOf, AreReadsNoted, is_used}
use Rattle.lock_table.proofs.RangeLocks.{ranges_released}
use Rattle.lock_table.specs.Locks.{after_release}
use Rattle.lock_table.proofs.UsedDatabases.{used_by}
use Rattle.lock_table.proofs.NotedReads.{noted_released}
use Rattle.lock_table.proofs.RecordLists.{changed_there, changed_at}
use Rattle.lock_table.proofs.WholeTable.{sound_release}
use Rattle.lock_table.proofs.table.LockTable.release_all.Goals as goal

pub forget_dbs-requires : goal.forget_dbs-requires
forget_dbs-requires c = used_by (is_used c.self.inside.dbs) (λ r. queue_at r c.self.inside.queues.entries) (λ r. queue_at r c.release_in.new.queues.entries) (after_release c.args.txn) refl c.release_in.ensures.queues c.self.invariant.3

pub invariant_of-self : goal.invariant_of-self
invariant_of-self c = (
  sound_release (λ r. queue_at r c.self.inside.queues.entries) (λ r. queue_at r c.release_in.new.queues.entries) (is_listed c.self.inside.lists.entries) (is_listed c.release_in.new.lists.entries) (λ t. at_txn t c.self.inside.pending.entries) (λ t. at_txn t c.remove.new.self.entries) c.args.txn c.self.invariant.0 c.release_in.ensures.queues c.release_in.ensures.lists (changed_there c.self.inside.pending.entries c.remove.new.self.entries c.args.txn None c.remove.ensures.updates.0),
  λ r. subst (AreRangesOf (is_among c.remove-2.new.self)) (sym (c.release_in.ensures.queues r)) (ranges_released (is_among c.self.inside.ranging) (is_among c.remove-2.new.self) c.args.txn (queue_at r c.self.inside.queues.entries) (λ x n. c.remove-2.ensures.updates.2 x (at_same c.args.txn x ∙ n)) (c.self.invariant.1 r)),
  λ r. subst (AreReadsNoted (λ t. at_txn t c.remove-3.new.self.entries)) (sym (c.release_in.ensures.queues r)) (noted_released (λ t. at_txn t c.self.inside.reading.entries) (λ t. at_txn t c.remove-3.new.self.entries) c.args.txn (queue_at r c.self.inside.queues.entries) (changed_there c.self.inside.reading.entries c.remove-3.new.self.entries c.args.txn None c.remove-3.ensures.updates.0) (c.self.invariant.2 r)),
  c.forget_dbs.ensures,
)

pub returns-clause-settled : goal.returns-clause-settled
returns-clause-settled c = let s = sound_release (λ r. queue_at r c.self.inside.queues.entries) (λ r. queue_at r c.release_in.new.queues.entries) (is_listed c.self.inside.lists.entries) (is_listed c.release_in.new.lists.entries) (λ t. at_txn t c.self.inside.pending.entries) (λ t. at_txn t c.remove.new.self.entries) c.args.txn c.self.invariant.0 c.release_in.ensures.queues c.release_in.ensures.lists (changed_there c.self.inside.pending.entries c.remove.new.self.entries c.args.txn None c.remove.ensures.updates.0) in record { settled = s.settled; alone = s.waits }

pub returns-clause-pending : goal.returns-clause-pending
returns-clause-pending c = rw (← c.self.view_is) (changed_at c.self.inside.pending.entries c.remove.new.self.entries c.args.txn None c.remove.ensures.updates.0)

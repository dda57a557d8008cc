use Rattle.std.proofs.Common.{refl, ◌≡◌, sym, subst, ap, ◌∙◌}
use Rattle.lock_table.specs.Locks.{held_by, after_read}
use Rattle.lock_table.specs.Records.{queue_at}
use Rattle.lock_table.specs.Table.{locks_at, at_txn, is_waiting, is_listed, is_among, AreRangesOf, AreReadsNoted, is_used}
use Rattle.lock_table.proofs.UsedDatabases.{used_by}
use Rattle.lock_table.proofs.NotedReads.{noted_nothing, noted_read, noted_less, waits_nowhere}
use Rattle.lock_table.proofs.RangeLocks.{ranges_read}
use Rattle.lock_table.proofs.WholeTable.{sound_read}
use Rattle.lock_table.proofs.table.LockTable.give_back_reads.Goals as goal

pub returns-then-not-may_read-clause-locks : goal.returns-then-not-may_read-clause-locks
returns-then-not-may_read-clause-locks c = λ r. subst (λ v. locks_at r v ≡ after_read c.args.txn (locks_at r v)) c.self.view_is
    (sym (noted_nothing (λ t. at_txn t c.self.inside.reading.entries) c.args.txn c.may_read.result (queue_at r c.self.inside.queues.entries) (c.self.invariant.2 r) c.may_read.ensures c.if-not-may_read.true))

pub invariant_of-self : goal.invariant_of-self
invariant_of-self c = (
  sound_read (λ r. queue_at r c.self.inside.queues.entries) (λ r. queue_at r c.read_back_in.new.queues.entries) (is_listed c.self.inside.lists.entries) (λ t. at_txn t c.self.inside.pending.entries) c.args.txn c.self.invariant.0 c.read_back_in.ensures,
  λ r. subst (AreRangesOf (is_among c.self.inside.ranging)) (sym (c.read_back_in.ensures r)) (ranges_read (is_among c.self.inside.ranging) c.args.txn (held_by c.args.txn (queue_at r c.self.inside.queues.entries).0) (queue_at r c.self.inside.queues.entries) (c.self.invariant.1 r)),
  λ r. subst (AreReadsNoted (λ t. at_txn t c.self.inside.reading.entries)) (sym (c.read_back_in.ensures r)) (noted_read (λ t. at_txn t c.self.inside.reading.entries) c.args.txn (queue_at r c.self.inside.queues.entries) (c.self.invariant.2 r)),
  used_by (is_used c.self.inside.dbs) (λ r. queue_at r c.self.inside.queues.entries) (λ r. queue_at r c.read_back_in.new.queues.entries) (after_read c.args.txn) refl c.read_back_in.ensures c.self.invariant.3,
)

pub returns-then-waiting-clause-settled : goal.returns-then-waiting-clause-settled
returns-then-waiting-clause-settled c = let s = sound_read (λ r. queue_at r c.self.inside.queues.entries) (λ r. queue_at r c.read_back_in.new.queues.entries) (is_listed c.self.inside.lists.entries) (λ t. at_txn t c.self.inside.pending.entries) c.args.txn c.self.invariant.0 c.read_back_in.ensures in record { settled = s.settled; alone = s.waits }

pub invariant_of-self-2 : goal.invariant_of-self-2
invariant_of-self-2 c =
    let nowhere = waits_nowhere (λ r. queue_at r c.self.inside.queues.entries) c.args.txn (at_txn c.args.txn c.self.inside.pending.entries) (c.self.invariant.0.waits c.args.txn) (ap (is_waiting c.args.txn) c.self.view_is ∙ (sym c.waits_now-waiting.ensures ∙ c.if-waiting.false)) in (
      sound_read (λ r. queue_at r c.self.inside.queues.entries) (λ r. queue_at r c.read_back_in.new.queues.entries) (is_listed c.self.inside.lists.entries) (λ t. at_txn t c.self.inside.pending.entries) c.args.txn c.self.invariant.0 c.read_back_in.ensures,
      λ r. subst (AreRangesOf (is_among c.self.inside.ranging)) (sym (c.read_back_in.ensures r)) (ranges_read (is_among c.self.inside.ranging) c.args.txn (held_by c.args.txn (queue_at r c.self.inside.queues.entries).0) (queue_at r c.self.inside.queues.entries) (c.self.invariant.1 r)),
      λ r. subst (AreReadsNoted (λ t. at_txn t c.note_none.new.reading.entries)) (sym (c.read_back_in.ensures r)) (noted_less (λ t. at_txn t c.self.inside.reading.entries) (λ t. at_txn t c.note_none.new.reading.entries) c.args.txn (queue_at r c.self.inside.queues.entries) (c.self.invariant.0.settled r) (nowhere r) c.note_none.ensures (c.self.invariant.2 r)),
      used_by (is_used c.self.inside.dbs) (λ r. queue_at r c.self.inside.queues.entries) (λ r. queue_at r c.read_back_in.new.queues.entries) (after_read c.args.txn) refl c.read_back_in.ensures c.self.invariant.3,
    )

pub returns-clause-settled : goal.returns-clause-settled
returns-clause-settled c = let s = sound_read (λ r. queue_at r c.self.inside.queues.entries) (λ r. queue_at r c.read_back_in.new.queues.entries) (is_listed c.self.inside.lists.entries) (λ t. at_txn t c.self.inside.pending.entries) c.args.txn c.self.invariant.0 c.read_back_in.ensures in record { settled = s.settled; alone = s.waits }

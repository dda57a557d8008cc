use Rattle.std.proofs.Common.{sym, ◌≡◌, Some, subst}
use Rattle.lock_table.specs.Records.{queue_at}
use Rattle.lock_table.specs.Table.{locks_at, at_txn, is_listed, is_among, is_used}
use Rattle.lock_table.proofs.RangeLocks.{ranges_back}
use Rattle.lock_table.proofs.UsedDatabases.{used_back}
use Rattle.lock_table.proofs.NotedReads.{noted_back}
use Rattle.std.specs.Option.{IsSome}
use Rattle.lock_table.specs.Locks.{held_by}
use Rattle.lock_table.proofs.WholeTable.{sound_give_back}
use Rattle.lock_table.proofs.CallSteps.{some_held}
use Rattle.lock_table.proofs.table.LockTable.give_back.Goals as goal

pub invariant_of-self : goal.invariant_of-self
invariant_of-self c =
    let h = some_held (held_by c.args.txn (queue_at c.args.at.now c.self.inside.queues.entries).0) (subst (λ v. IsSome (held_by c.args.txn (locks_at c.args.at.now v).0)) (sym c.self.view_is) c.requires.holds) in
    let w = c.requires.was h.0 (subst (λ v. held_by c.args.txn (locks_at c.args.at.now v).0 ≡ Some h.0) c.self.view_is h.1) in (
      sound_give_back (λ r. queue_at r c.self.inside.queues.entries) (λ r. queue_at r c.give_back_in.new.queues.entries) (is_listed c.self.inside.lists.entries) (is_listed c.give_back_in.new.lists.entries) (λ t. at_txn t c.self.inside.pending.entries) c.args.txn c.args.at.now c.args.was h.0 c.self.invariant.0 h.1 w c.give_back_in.ensures.queues c.give_back_in.ensures.lists,
      ranges_back (is_among c.self.inside.ranging) (λ r. queue_at r c.self.inside.queues.entries) (λ r. queue_at r c.give_back_in.new.queues.entries) c.args.txn c.args.at.now c.args.was h.0 c.self.invariant.0.settled h.1 w c.give_back_in.ensures.queues c.self.invariant.1,
      noted_back (λ t. at_txn t c.self.inside.reading.entries) (λ t. at_txn t c.note_back.new.reading.entries) (λ r. queue_at r c.self.inside.queues.entries) (λ r. queue_at r c.give_back_in.new.queues.entries) c.args.txn c.args.at.now c.args.was h.0 c.self.invariant.0.settled h.1 c.note_back.ensures.kept c.note_back.ensures.back c.give_back_in.ensures.queues c.self.invariant.2,
      used_back (is_used c.self.inside.dbs) (λ r. queue_at r c.self.inside.queues.entries) (λ r. queue_at r c.give_back_in.new.queues.entries) c.args.txn c.args.at.now c.args.was c.give_back_in.ensures.queues c.self.invariant.3,
    )

pub returns-clause-settled : goal.returns-clause-settled
returns-clause-settled c =
    let h = some_held (held_by c.args.txn (queue_at c.args.at.now c.self.inside.queues.entries).0) (subst (λ v. IsSome (held_by c.args.txn (locks_at c.args.at.now v).0)) (sym c.self.view_is) c.requires.holds) in
    let w = c.requires.was h.0 (subst (λ v. held_by c.args.txn (locks_at c.args.at.now v).0 ≡ Some h.0) c.self.view_is h.1) in
    let s = sound_give_back (λ r. queue_at r c.self.inside.queues.entries) (λ r. queue_at r c.give_back_in.new.queues.entries) (is_listed c.self.inside.lists.entries) (is_listed c.give_back_in.new.lists.entries) (λ t. at_txn t c.self.inside.pending.entries) c.args.txn c.args.at.now c.args.was h.0 c.self.invariant.0 h.1 w c.give_back_in.ensures.queues c.give_back_in.ensures.lists in record { settled = s.settled; alone = s.waits }

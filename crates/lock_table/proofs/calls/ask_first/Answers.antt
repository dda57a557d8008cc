use Rattle.std.proofs.Common.{true, cond, ◌&&◌, Some, refl, ap, sym, ◌∙◌}
use Rattle.std.proofs.lemmas.Bool.{both_ways}
use Rattle.je_order.proofs.TxnIds.{same_itself}
use Rattle.lock_table.specs.Locks.{after_ask}
use Rattle.lock_table.specs.Records.{is_record}
use Rattle.lock_table.specs.Table.{is_listed}
use Rattle.lock_table.proofs.CallSteps.{record_same}
use Rattle.lock_table.proofs.QueueMaps.{changed_equal, queue_absent, queue_added, is_nothing}
use Rattle.lock_table.proofs.calls.ask_first.Goals as goal

pub returns-then-is_empty-clause-queues : goal.returns-then-is_empty-clause-queues
returns-then-is_empty-clause-queues c = queue_absent c.args.queues.now.entries c.args.queues.now.entries c.args.at.now (after_ask c.args.lock) c.requires.none (sym c.in_ok-queue.ensures ∙ is_nothing c.in_ok-queue.queue _ c.is_empty.ensures c.if-is_empty.true) refl

pub returns-clause-queues : goal.returns-clause-queues
returns-clause-queues c =
    let u = changed_equal c.args.queues.now.entries c.insert.new.self.entries c.in_ok-key.key (Some c.in_ok-queue.queue) c.in_ok-insert.ensures.updates.0 in
    queue_added c.args.queues.now.entries _ c.args.at.now (after_ask c.args.lock) c.in_ok-queue.queue c.requires.none c.in_ok-queue.ensures (λ q. rw (← c.in_ok-key.ensures) (u q))

pub returns-clause-listed : goal.returns-clause-listed
returns-clause-listed c = λ n _.
    let t = c.args.lock.txn in
    let at = c.args.at.now in
    let old = is_listed c.args.lists.now.entries t at in
    absurd (both_ways (is_listed c.list_at.new.lists.entries t at) n
    (c.in_ok-list_at.ensures.ok t at ∙ (ap (λ b. cond (b && is_record at at) true old) (same_itself t) ∙ ap (λ b. cond b true old) (record_same at))))

use Rattle.std.proofs.Common.{ap, sym, ◌∙◌}
use Rattle.lock_table.specs.Locks.{has_lock}
use Rattle.lock_table.specs.Records.{queue_at}
use Rattle.lock_table.proofs.CallSteps.{not_pending, not_waiting, cancelled}
use Rattle.lock_table.proofs.calls.cancel_in.Goals as goal

pub returns-in_default-clause-queues : goal.returns-in_default-clause-queues
returns-in_default-clause-queues c = not_pending c.args.txn (λ r. queue_at r c.args.queues.now.entries) _ c.requires c.in_default.ensures.value

pub returns-then-not-is_in-clause-queues : goal.returns-then-not-is_in-clause-queues
returns-then-not-is_in-clause-queues c = not_waiting c.args.txn (λ r. queue_at r c.args.queues.now.entries) _ c.in-Some.at.now c.requires c.in-Some.ensures.value (ap (has_lock c.args.txn) (sym c.waits_at.ensures) ∙ (sym c.is_in.ensures ∙ c.if-not-is_in.true))

pub returns-clause-queues : goal.returns-clause-queues
returns-clause-queues c = cancelled c.args.txn (λ r. queue_at r c.args.queues.now.entries) (λ r. queue_at r c.cancel_at.new.queues.entries) _ c.in-Some.at.now c.requires c.in-Some.ensures.value c.cancel_at.ensures

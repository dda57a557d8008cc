use Rattle.lock_table.specs.Records.{queue_at}
use Rattle.lock_table.proofs.CallSteps.{cancelled}
use Rattle.lock_table.proofs.calls.undo_wait_in.Goals as goal

pub returns-clause-queues : goal.returns-clause-queues
returns-clause-queues c = cancelled c.args.txn (λ r. queue_at r c.args.queues.now.entries) (λ r. queue_at r c.cancel_at.new.queues.entries) _ c.in-Some.at.now c.requires.told c.in-Some.ensures.value c.cancel_at.ensures

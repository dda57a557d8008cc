use Rattle.std.proofs.Common.{ap, ◌∙◌}
use Rattle.lock_table.specs.Locks.{held_by}
use Rattle.lock_table.specs.Records.{queue_at}
use Rattle.lock_table.proofs.ReadLocks.{read_goes, more_stays}
use Rattle.lock_table.proofs.queues.read_back_at.Goals as goal

pub returns-then-is_read_alone : goal.returns-then-is_read_alone
returns-then-is_read_alone c =
    read_goes (λ r. queue_at r c.args.queues.now.entries) (λ r. queue_at r c.give_back_at.new.queues.entries) c.args.at.now c.args.txn c.held_in-held.result
    (c.held_in-held.ensures ∙ ap (held_by c.args.txn) c.owners_at.ensures) (c.is_read_alone.ensures.read c.if-is_read_alone.true) c.give_back_at.ensures

pub returns-else-is_read_alone : goal.returns-else-is_read_alone
returns-else-is_read_alone c =
    more_stays (λ r. queue_at r c.args.queues.now.entries) c.args.at.now c.args.txn c.held_in-held.result
    (c.held_in-held.ensures ∙ ap (held_by c.args.txn) c.owners_at.ensures) (c.is_read_alone.ensures.more c.if-is_read_alone.false)

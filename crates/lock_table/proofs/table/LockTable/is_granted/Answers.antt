use Rattle.std.proofs.Common.{◌∙◌, ap, not, false}
use Rattle.std.specs.Option.{option_map_or}
use Rattle.lock_table.specs.Locks.{has_lock}
use Rattle.lock_table.specs.Records.{queue_at}
use Rattle.lock_table.specs.Table.{was_granted}
use Rattle.lock_table.proofs.table.LockTable.is_granted.Goals as goal

pub returns : goal.returns
returns c =
    ap not (c.is_in.ensures ∙ ap (has_lock c.args.txn) c.waits_at.ensures)
    ∙ ap (λ o. option_map_or (λ r. not (has_lock c.args.txn (queue_at r c.self.inside.queues.entries).1)) o false) c.in-Some.ensures.value
    ∙ ap (was_granted c.args.txn) c.self.view_is

use Rattle.std.proofs.Common.{ap, sym, false, ◌∙◌}
use Rattle.std.specs.Option.{option_map_or}
use Rattle.lock_table.specs.Locks.{after_read}
use Rattle.lock_table.specs.Records.{queue_at}
use Rattle.lock_table.specs.Table.{lists_record}
use Rattle.lock_table.proofs.QueueReads.{read_nothing}
use Rattle.lock_table.proofs.RecordWalks.{all_done, in_none}
use Rattle.lock_table.proofs.calls.read_back_in.Goals as goal

pub returns-in_default : goal.returns-in_default
returns-in_default c = λ r. sym (read_nothing c.args.txn (queue_at r c.args.queues.now.entries) (c.requires.listed r (ap (λ o. option_map_or (λ m. lists_record m.entries r) o false) (sym c.in_default.ensures.value))).0)

pub returns : goal.returns
returns c = λ r. all_done (after_read c.args.txn) (queue_at r c.args.queues.now.entries) _ _ (c.read_back_all.ensures r)
    (λ n. read_nothing c.args.txn (queue_at r c.args.queues.now.entries) (c.requires.listed r (ap (λ o. option_map_or (λ m. lists_record m.entries r) o false) (sym c.in-Some.ensures.value) ∙ in_none _ r n)).0)

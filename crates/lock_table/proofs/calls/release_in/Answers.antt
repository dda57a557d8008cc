use Rattle.std.proofs.Common.{ap, sym, false, ◌∙◌}
use Rattle.std.specs.Option.{option_map_or}
use Rattle.lock_table.specs.Locks.{after_release}
use Rattle.lock_table.specs.Records.{queue_at}
use Rattle.lock_table.specs.Table.{lists_record}
use Rattle.lock_table.proofs.RecordCalls.{release_nothing}
use Rattle.lock_table.proofs.RecordWalks.{all_done, in_none}
use Rattle.lock_table.proofs.calls.release_in.Goals as goal

pub returns-in_default-clause-queues : goal.returns-in_default-clause-queues
returns-in_default-clause-queues c = λ r. sym (release_nothing c.args.txn (queue_at r c.args.queues.now.entries) (c.requires.settled r) (c.requires.listed r (ap (λ o. option_map_or (λ m. lists_record m.entries r) o false) (sym c.in_default.ensures.value))))

pub returns-clause-queues : goal.returns-clause-queues
returns-clause-queues c = λ r. all_done (after_release c.args.txn) (queue_at r c.args.queues.now.entries) _ _ (c.release_all.ensures r)
    (λ n. release_nothing c.args.txn (queue_at r c.args.queues.now.entries) (c.requires.settled r) (c.requires.listed r (ap (λ o. option_map_or (λ m. lists_record m.entries r) o false) (sym c.in-Some.ensures.value) ∙ in_none _ r n)))

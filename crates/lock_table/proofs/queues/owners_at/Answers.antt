use Rattle.std.proofs.Common.{ap, ◌∙◌, Option, []}
use Rattle.std.specs.Option.{unwrap_or}
use Rattle.lock_table.proofs.QueueMaps.{Queue, queue_equal}
use Rattle.lock_table.proofs.queues.owners_at.Goals as goal

pub returns-in-Some : goal.returns-in-Some
returns-in-Some c = c.owners.ensures ∙ ap (λ (o : Option Queue). (unwrap_or o ([], [])).0) c.in-Some.ensures.value ∙ ap (λ (q : Queue). q.0) (queue_equal c.args.at.now c.args.queues.now.entries)

pub returns-in-None : goal.returns-in-None
returns-in-None c = ap (λ (o : Option Queue). (unwrap_or o ([], [])).0) c.in-None.ensures.value ∙ ap (λ (q : Queue). q.0) (queue_equal c.args.at.now c.args.queues.now.entries)

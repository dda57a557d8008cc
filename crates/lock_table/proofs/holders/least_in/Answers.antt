use Rattle.std.proofs.Common.{ap, sym, ◌∙◌}
use Rattle.lock_table.specs.Records.{queue_at}
use Rattle.lock_table.specs.Table.{is_used}
use Rattle.lock_table.proofs.HolderFound.{all_found, none_owns, least_first}
use Rattle.lock_table.proofs.holders.least_in.Goals as goal

pub returns-then-not-contains-clause-least : goal.returns-then-not-contains-clause-least
returns-then-not-contains-clause-least c =
    let es = c.args.queues.now.entries in
    none_owns c.args.db (λ r. queue_at r es) es (all_found es es c.iter.ensures.found) (λ r there. c.requires.used r (ap (is_used c.args.dbs.now) there ∙ (sym c.contains.ensures ∙ c.if-not-contains.true)))

pub returns-clause-least : goal.returns-clause-least
returns-clause-least c =
    let es = c.args.queues.now.entries in
    least_first c.args.db es (all_found es es c.iter.ensures.found) c.first_in.result c.first_in.ensures.owns c.first_in.ensures.first c.first_in.ensures.none

use Rattle.std.proofs.Common.{rules, not}
use Rattle.std.proofs.lemmas.Fn.{filter_same}
use Rattle.waits_for.specs.Cycles.{is_from}
use Rattle.waits_for.proofs.edges.retain_others.Goals as goal

pub returns : goal.returns
returns c = filter_same _ (λ e. not (is_from c.args.waiter e)) _ (λ x b f k. search rules) _ _ c.retain.ensures.filtered

use Rattle.std.proofs.Common.{rules, not, ◌==◌}
use Rattle.std.proofs.lemmas.Fn.{filter_same}
use Rattle.je_answers.specs.declared.active.Active.{Active}
use Rattle.active_txns.proofs.active_txns.ActiveTxns.end.Goals as goal

pub returns-clause-actives : goal.returns-clause-actives
returns-clause-actives c = filter_same _ (λ (a : Active). not (a.session == c.args.session)) _ (λ x b f k. search rules) _ _ c.retain.ensures.filtered

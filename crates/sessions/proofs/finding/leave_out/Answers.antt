use Rattle.std.proofs.Common.{rules, not, ◌==◌}
use Rattle.std.proofs.lemmas.Fn.{filter_same}
use Rattle.je_answers.specs.declared.wait.Wait.{Wait}
use Rattle.sessions.proofs.finding.leave_out.Goals as goal

pub returns : goal.returns
returns c = filter_same _ (λ (w : Wait). not (w.session == c.args.session)) _ (λ x b f k. search rules) _ _ c.retain.ensures.filtered

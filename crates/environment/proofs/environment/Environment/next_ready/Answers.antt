use Rattle.std.proofs.Common.{ℕ, Option, is_some, ◌∙◌, ap, sym, subst}
use Rattle.std.specs.Prelude.{IfSome}
use Rattle.store_model.specs.declared.answer.Fault.{Fault}
use Rattle.environment.specs.Calls.{MayResume}
use Rattle.environment.proofs.Waiting.{first_may}
use Rattle.environment.proofs.environment.Environment.next_ready.Goals as goal

pub returns-clause-may : goal.returns-clause-may
returns-clause-may g c = λ most st here.
    let fault = c.is_some.ensures ∙ ap (λ (f : Option Fault). is_some f) here.at.fault in
    subst (λ (o : Option (ℕ × ℕ)). IfSome o (λ p. MayResume st p.0 p.1)) (sym (c.next_ready.ensures st here.at.sessions_at fault)) (first_may st here.at.apart)

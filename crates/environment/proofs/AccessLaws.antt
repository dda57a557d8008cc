-- A call on records that is refused late, or goes on.
use Rattle.std.proofs.Common.{◌≡◌, ◌∙◌, ℕ, Bool, true, Ok, ap, sym, arith, true≢false}
use Rattle.store_model.specs.declared.answer.Answer.{Answer}
use Rattle.je_answers.specs.Journal.{is_disk_fault}
use Rattle.engine.proofs.CalmAnswers.{IsCalm, faultless}
use Rattle.environment.specs.declared.outcome.Outcome.{Outcome}
use Rattle.je_answers.specs.Standing.{Standing}
use Rattle.environment.specs.Steps.{MayCall}
use Rattle.environment.specs.Calls.{HasCause}

-- a calm answer is no fault of the disk
pub calm_cause : (before after : ℕ) (o : Outcome) (answer : Answer) → o.answer ≡ answer → IsCalm answer → after ≡ before → HasCause before after (Ok o)
calm_cause before after o answer is calm same = record {
  never_falls = omega (arith, same);
  fault = λ fault. absurd (true≢false (ap is_disk_fault (sym fault ∙ is) ∙ faultless answer calm));
}

-- whether a call had waited does not matter to who may make it
pub any_call : (st : Standing) (session : ℕ) (resumed : Bool) → MayCall st session resumed → MayCall st session true
any_call st session resumed may = record { told = may.told; bare = may.bare; alone = may.alone }

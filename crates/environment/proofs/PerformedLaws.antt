-- A call by its kind.
use Rattle.std.proofs.Common.{◌∙◌, ℕ, Bool, Result, Ok, Err, arith, sym}
use Rattle.std.specs.declared.alloc.AllocError.{AllocError}
use Rattle.je_disk.specs.DiskMeaning.{DiskMeaning}
use Rattle.store_model.specs.declared.answer.Answer.{Answer}
use Rattle.store_model.specs.declared.call.Call.{Call}
use Rattle.environment.specs.declared.environment.Environment.{Environment}
use Rattle.environment.specs.declared.outcome.Outcome.{Outcome}
use Rattle.environment.specs.Steps.{HasCome, IsOnly, Performs, PerformsAnswer}
use Rattle.environment.specs.Whole.{CanGoOn}
use Rattle.environment.proofs.EarlyLaws.{same_buffer, same_reach, told_so}

module _ {D : Type 0} (meaning : DiskMeaning D) where
  -- a call that has no victims
  pub performs_only : (old new : Environment D) (session line : ℕ) (call : Call) (resumed : Bool) (answered : Result Answer AllocError) (result : Result Outcome AllocError) → IsOnly answered result →
      PerformsAnswer meaning old new session call answered → Performs meaning old new session line call resumed result
  performs_only old new session line call resumed (Ok answer) (Ok o) only p = record {
    comes = λ most st here sound early may.
        told_so (λ a victims. HasCome meaning most old new st session line call a victims) o answer only.0 only.1 (p.comes most st line here sound early);
    near = tt;
    bounds = p.bounds;
    cause = record { never_falls = p.cause.never_falls; fault = λ is. p.cause.fault (sym only.0 ∙ is) };
  }
  performs_only old new session line call resumed (Err error) (Err other) only p = record {
    comes = λ most st here sound early may. p.comes most st line here sound early;
    near = p.near;
    bounds = p.bounds;
    cause = record { never_falls = p.cause.never_falls; fault = tt };
  }
  performs_only old new session line call resumed (Ok answer) (Err other) only p = absurd only
  performs_only old new session line call resumed (Err error) (Ok o) only p = absurd only

  -- there is no memory for it
  pub none_made : (e : Environment D) (session line : ℕ) (call : Call) (resumed : Bool) (error : AllocError) → CanGoOn e → Performs meaning e e session line call resumed (Err error)
  none_made e session line call resumed error bounds = record {
    comes = λ most st here sound early may. record { here = here; log = same_buffer e.engine.trees.log; near = same_reach e };
    near = same_reach e;
    bounds = bounds;
    cause = record { never_falls = omega arith; fault = tt };
  }

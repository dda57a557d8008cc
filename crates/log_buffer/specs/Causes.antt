-- When a log buffer may say what it does.
use Rattle.std.specs.Prelude.{◌≡◌, ◌≤◌, ◌↔◌, ℕ, Bool, true, false, Result, IfErr, IsErrOf}
use Rattle.je_order.specs.Counts.{HasRisen}
use Rattle.log_buffer.specs.declared.error.LogErr.{LogErr}
use Rattle.log_buffer.specs.declared.error.LogErr.TheVariants.{Fault}

-- a buffer has failed exactly after a call that answered Fault; such a call is one of a buffer that had failed before, or the disk's count of faults rose in it
pub record HasLogCause {T : Type 0} (failed_before failed_after : Bool) (before after : ℕ) (result : Result T LogErr) : Type 0 where
  pub never_falls : before ≤ after
  pub fault : failed_before ≡ false → IsErrOf result Fault → HasRisen before after
  pub stays : failed_before ≡ true → IsErrOf result Fault
  pub failed : failed_after ≡ true ↔ IsErrOf result Fault

-- each error is a fault
abbrev pub FailsByFault : {T : Type 0} → Result T LogErr → Type 0
FailsByFault result = IfErr result (λ error. error ≡ Fault)

-- The cause of what a call of the disk answers.
use Rattle.std.proofs.Common.{◌≡◌, ◌≤◌, ℕ, Result, Ok, Err, IfOk, IsErr, rules, IsErrAnd, false, true, sym, ap, ◌∙◌, subst}
use Rattle.std.proofs.lemmas.Bool.{true≢false}
use Rattle.je_disk.specs.Causes.{HasFault}
use Rattle.je_order.specs.Counts.{HasRisen}
use Rattle.je_disk.specs.declared.error.DiskErr.{DiskErr}
use Rattle.je_disk.specs.declared.error.DiskErr.TheVariants.{Failed}

-- no folder is observable
pub untold : false ≡ true → ⊥
untold t = true≢false (sym t)

-- a fault was counted
pub is_fault : {T : Type 0} (before after : ℕ) (e : DiskErr) → e ≡ Failed → HasRisen before after → before ≤ after → HasFault {T = T} before after (Err e)
is_fault before after e is rose falls = record { never_falls = falls; failed = rose; only = λ h. cc }

-- what is so of the value that a folder gave, is so of the one that the disk hands out
pub value_is : {T E : Type 0} (answer : Result T E) (value : T) (P : T → Type 0) → answer ≡ Ok value → IfOk answer P → P value
value_is answer value P is so = subst (λ a. IfOk a P) is so

pub is_kept : {T E F : Type 0} (answer : Result T E) (result : Result T F) (P : T → Type 0) → IfOk result (λ value. answer ≡ Ok value) → IfOk answer P → IfOk result P
is_kept answer (Ok value) P is so = value_is answer value P is so
is_kept answer (Err _) P is so = tt

pub is_err_kept : {T E F : Type 0} (answer : Result T E) (result : Result T F) → IfOk result (λ value. answer ≡ Ok value) → IsErr answer → IsErr result
is_err_kept (Ok _) (Ok value) is failed = cc
is_err_kept (Err _) (Ok value) is failed = cc
is_err_kept answer (Err _) is failed = search rules

pub same_cause : {T : Type 0} (before after : ℕ) (e : DiskErr) (result : Result T DiskErr) → IsErr result → IsErrAnd result (λ x. x ≡ e) → HasFault {T = T} before after (Err e) →
    HasFault before after result
same_cause before after e (Ok value) is same cause = cc
same_cause before after e (Err x) is same cause = record {
  never_falls = cause.never_falls;
  failed = cause.failed;
  only = λ memory. cause.only (ap (λ y. Err y) (sym same) ∙ memory);
}

-- When a log buffer has failed, for each way in which a call ends.
use Rattle.std.proofs.Common.{◌≡◌, ℕ, ◌<◌, ◌≤◌, ◌⊎◌, inl, inr, Bool, true, false, refl, ap, subst, ◌∙◌, le_refl, le_trans, arith}
use Rattle.std.proofs.lemmas.Bool.{cases_order}
use Rattle.std.specs.Prelude.{Result, Ok, Err, Option, Some, None, OnErr, IsErrAnd, IsErrOf, ◌↔◌}
use Rattle.std.specs.Result.{is_err}
use Rattle.std.specs.Option.{ok_or}
use Rattle.je_disk.specs.declared.error.DiskErr.{DiskErr}
use Rattle.je_disk.specs.declared.error.DiskErr.TheVariants.{Failed, Memory as Wants}
use Rattle.je_disk.specs.Causes.{HasCause as DiskCause}
use Rattle.je_order.specs.Counts.{HasRisen}
use Rattle.log_buffer.specs.declared.error.LogErr.{LogErr}
use Rattle.log_buffer.specs.declared.error.LogErr.TheVariants.{Fault, Full, Memory, Damaged}
use Rattle.log_buffer.specs.Causes.{HasLogCause, FailsByFault}

module _ {T : Type 0} where
  -- no fault
  pub cause_none : (was is : Bool) (before after : ℕ) (r : Result T LogErr) → was ≡ false → is ≡ false → before ≤ after → (IsErrOf r Fault → ⊥) → HasLogCause was is before after r
  cause_none was is before after r old new le none = record {
    never_falls = le;
    fault = λ _ fault. absurd (none fault);
    stays = λ failed. absurd cc;
    failed = (λ failed. absurd cc, λ fault. absurd (none fault));
  }

  pub cause_ok : (was is : Bool) (before after : ℕ) (v : T) → was ≡ false → is ≡ false → before ≤ after → HasLogCause was is before after (Ok v)
  cause_ok was is before after v old new le = cause_none was is before after (Ok v) old new le (λ fault. cc)

  pub cause_memory : (was is : Bool) (before after : ℕ) (r : Result T LogErr) → was ≡ false → is ≡ false → before ≤ after → r ≡ Err Memory → HasLogCause was is before after r
  cause_memory was is before after r old new le memory = cause_none was is before after r old new le (λ fault. cc)

  -- a fault of this call
  pub cause_fault : (was is : Bool) (before after : ℕ) (r : Result T LogErr) → was ≡ false → is ≡ true → before ≤ after → IsErrOf r Fault → HasRisen before after → HasLogCause was is before after r
  cause_fault was is before after r old new le fault rose = record {
    never_falls = le;
    fault = λ _ _. rose;
    stays = λ _. fault;
    failed = (λ _. fault, λ _. new);
  }

  -- a fault of an earlier one
  pub cause_failed : (was is : Bool) (count : ℕ) (r : Result T LogErr) → was ≡ true → is ≡ true → IsErrOf r Fault → HasLogCause was is count count r
  cause_failed was is count r old new fault = record {
    never_falls = le_refl count;
    fault = λ none _. absurd cc;
    stays = λ _. fault;
    failed = (λ _. fault, λ _. new);
  }

-- a call answers as another one did
pub cause_same : {T U : Type 0} (was is : Bool) (before after : ℕ) (r : Result T LogErr) (r' : Result U LogErr) → (IsErrOf r Fault → IsErrOf r' Fault) → (IsErrOf r' Fault → IsErrOf r Fault) → HasLogCause was is before after r → HasLogCause was is before after r'
cause_same was is before after r r' to from cause = record {
  never_falls = cause.never_falls;
  fault = λ old fault. cause.fault old (from fault);
  stays = λ old. to (cause.stays old);
  failed = (λ new. to (cause.failed.0 new), λ fault. cause.failed.1 (from fault));
}

-- a call that goes on where another one went well
pub cause_done : {T U : Type 0} (was was' is : Bool) (before before' after : ℕ) (r : Result T LogErr) (u : T) (v : U) → r ≡ Ok u → was' ≡ was → before' ≡ before → HasLogCause was' is before' after r → HasLogCause was is before after (Ok v)
cause_done was was' is before before' after r u v ok same count cause =
    subst (λ (n : ℕ). HasLogCause was is n after (Ok v)) count (subst (λ (b : Bool). HasLogCause b is before' after (Ok v)) same (cause_same was' is before' after r (Ok v) (λ fault. cc) (λ fault. cc) cause))

-- it had not failed before
was_well : {T : Type 0} (was is : Bool) (before after : ℕ) (r : Result T LogErr) (u : T) → r ≡ Ok u → HasLogCause was is before after r → was ≡ true → ⊥
was_well was is before after r u ok cause failed = let fault = cause.stays failed in absurd cc

pub cause_then_ok : {T U : Type 0} (was is : Bool) (before mid after : ℕ) (r : Result T LogErr) (u : T) (v : U) → r ≡ Ok u → HasLogCause was is before mid r → mid ≤ after → HasLogCause was false before after (Ok v)
cause_then_ok was is before mid after r u v ok cause le = record {
  never_falls = le_trans cause.never_falls le;
  fault = λ _ fault. absurd cc;
  stays = λ failed. absurd (was_well was is before mid r u ok cause failed);
  failed = (λ failed. absurd cc, λ fault. absurd cc);
}

rose_since : (before mid after : ℕ) → before ≤ mid → mid ≤ after → HasRisen mid after → HasRisen before after
rose_since before mid after low high (inl less) = inl (omega arith)
rose_since before mid after low high (inr full) = by_order (cases_order before mid) where
  by_order : (before ≡ mid) ⊎ ((before < mid) ⊎ (mid < before)) → HasRisen before after
  by_order (inl same) = inr (same ∙ full)
  by_order (inr (inl less)) = inl (omega arith)
  by_order (inr (inr more)) = absurd (omega arith)

pub rose_then : {T E : Type 0} (r : Result T E) (before mid after : ℕ) → before ≤ mid → mid ≤ after → OnErr r (HasRisen mid after) → OnErr r (HasRisen before after)
rose_then (Ok v) before mid after low high rose = tt
rose_then (Err e) before mid after low high rose = rose_since before mid after low high rose

pub cause_then_fault : {T U : Type 0} (was is : Bool) (before mid after : ℕ) (r : Result T LogErr) (u : T) (r' : Result U LogErr) → r ≡ Ok u → r' ≡ Err Fault → HasLogCause was is before mid r → mid ≤ after → HasRisen mid after → HasLogCause was true before after r'
cause_then_fault was is before mid after r u r' ok fault cause le rose = record {
  never_falls = le_trans cause.never_falls le;
  fault = λ _ _. rose_since before mid after cause.never_falls le rose;
  stays = λ _. fault;
  failed = (λ _. fault, λ _. refl);
}

-- what went well had no fault before
pub failed_not : {T : Type 0} (was is : Bool) (before after : ℕ) (r : Result T LogErr) (P : Type 0) → is_err r ≡ false → HasLogCause was is before after r → was ≡ true → P
failed_not was is before after r P ok cause failed = let fault = cause.stays failed in let err = ap is_err fault in absurd cc

-- ---- an error that is handed on

pub err_is : {T E : Type 0} (r : Result T E) (e : E) → IsErrAnd r (λ x. x ≡ e) → r ≡ Err e
err_is (Ok v) e is = absurd is
err_is (Err x) e is = ap (λ y. Err y) is

pub cause_err : {T U : Type 0} (was was' is : Bool) (before before' after : ℕ) (r : Result T LogErr) (e : LogErr) (r' : Result U LogErr) → r ≡ Err e → r' ≡ Err e → was' ≡ was → before' ≡ before → HasLogCause was' is before' after r → HasLogCause was is before after r'
cause_err was was' is before before' after r e r' err err' same count cause =
    subst (λ (n : ℕ). HasLogCause was is n after r') count (subst (λ (b : Bool). HasLogCause b is before' after r') same (cause_same was' is before' after r r' (λ fault. cc) (λ fault. cc) cause))

pub cause_refused : {T U : Type 0} (was : Bool) (count : ℕ) (r : Result T LogErr) (e : LogErr) (r' : Result U LogErr) → r ≡ Err e → r' ≡ Err e → (IsErrOf r Fault ↔ was ≡ true) → HasLogCause was was count count r'
cause_refused was count r e r' err err' fault = record {
  never_falls = le_refl count;
  fault = λ none is. let failed = fault.0 cc in absurd cc;
  stays = λ failed. let is = fault.1 failed in cc;
  failed = (λ failed. let is = fault.1 failed in cc, λ is. fault.0 cc);
}

-- an error of a call that fails by faults alone
pub fault_handed : {T U : Type 0} (r : Result T LogErr) (e : LogErr) (r' : Result U LogErr) → FailsByFault r → r ≡ Err e → r' ≡ Err e → r' ≡ Err Fault
fault_handed (Ok v) e r' by_fault err err' = absurd cc
fault_handed (Err x) e r' by_fault err err' = cc

pub not_full : {T : Type 0} (r : Result T LogErr) (P : Type 0) → r ≡ Err Fault → IsErrOf r Full → P
not_full r P fault is = absurd cc

pub not_memory : {T : Type 0} (r : Result T LogErr) (P : Type 0) → r ≡ Err Fault → IsErrOf r Memory → P
not_memory r P fault is = absurd cc

-- ---- an error of the disk that may run out of memory

pub cause_mapped : {T U : Type 0} (was is : Bool) (before after : ℕ) (r : Result T DiskErr) (e : DiskErr) (e' : LogErr) → was ≡ false → r ≡ Err e → (e ≡ Wants → (e' ≡ Memory) × (is ≡ was)) → (e ≡ Failed → (e' ≡ Fault) × (is ≡ true))
    → DiskCause before after r → HasLogCause {T = U} was is before after (Err e')
cause_mapped was is before after r Wants e' old err memory fault cause = let m = memory refl in cause_memory was is before after (Err e') old (m.1 ∙ old) cause.never_falls (ap (λ x. Err x) m.0)
cause_mapped was is before after r Failed e' old err memory fault cause = let f = fault refl in cause_fault was is before after (Err e') old f.1 cause.never_falls (ap (λ x. Err x) f.0) (cause.failed err)

pub map_err_not : {T : Type 0} (is was : Bool) (e : DiskErr) (e' : LogErr) → (e ≡ Wants → (e' ≡ Memory) × (is ≡ was)) → (e ≡ Failed → (e' ≡ Fault) × (is ≡ true)) → (IsErrOf {T = T} (Err e') Full → ⊥) × (IsErrOf {T = T} (Err e') Damaged → ⊥)
map_err_not is was Wants e' memory fault = let m = (memory refl).0 in (λ full. absurd cc, λ damaged. absurd cc)
map_err_not is was Failed e' memory fault = let f = (fault refl).0 in (λ full. absurd cc, λ damaged. absurd cc)

-- ---- an answer where there may be none

pub found_is : {T : Type 0} (o : Option T) (r : Result T LogErr) (v : T) → r ≡ ok_or o Damaged → o ≡ Some v → r ≡ Ok v
found_is o r v is some = is ∙ ap (λ x. ok_or x Damaged) some

pub found_not_full : {T : Type 0} (o : Option T) (r : Result T LogErr) → r ≡ ok_or o Damaged → IsErrOf r Full → ⊥
found_not_full (Some v) r is full = absurd cc
found_not_full None r is full = absurd cc

pub cause_found : {T : Type 0} (was is : Bool) (before after : ℕ) (r : Result (Option T) LogErr) (o : Option T) (r' : Result T LogErr) → r ≡ Ok o → r' ≡ ok_or o Damaged → HasLogCause was is before after r → HasLogCause was is before after r'
cause_found was is before after r (Some v) r' ok found cause = cause_same was is before after r r' (λ fault. cc) (λ fault. cc) cause
cause_found was is before after r None r' ok found cause = cause_same was is before after r r' (λ fault. cc) (λ fault. cc) cause

-- a call that can neither be full, nor run out of memory, nor find damage
pub only_faults : {T : Type 0} (r : Result T LogErr) → (IsErrOf r Full → ⊥) → (IsErrOf r Memory → ⊥) → (IsErrOf r Damaged → ⊥) → FailsByFault r
only_faults (Ok v) full memory damaged = tt
only_faults (Err Full) full memory damaged = absurd (full refl)
only_faults (Err Fault) full memory damaged = refl
only_faults (Err Damaged) full memory damaged = absurd (damaged refl)
only_faults (Err Memory) full memory damaged = absurd (memory refl)

pub on_fault : {T : Type 0} (r : Result T LogErr) (P : Type 0) → FailsByFault r → (IsErrOf r Fault → P) → OnErr r P
on_fault (Ok v) P by p = tt
on_fault (Err e) P by p = p (ap (λ (x : LogErr). Err x) by)

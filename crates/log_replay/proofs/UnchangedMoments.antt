-- Moments that pass while a disk's state stays the same.
use Rattle.std.proofs.Common.{◌≡◌, ◌∙◌, ◌≤◌, ℕ, Result, Ok, Err, ap, sym, arith}
use Rattle.std.specs.Prelude.{IsErrAnd}
use Rattle.std.proofs.lemmas.Grind.{common_steps}
use Rattle.je_disk.specs.declared.error.DiskErr.{DiskErr}
use Rattle.je_disk.specs.declared.error.DiskErr.TheVariants.{Failed, Memory}
use Rattle.je_disk.specs.Causes.{HasCause}
use Rattle.je_order.specs.Counts.{HasRisen}
use Rattle.je_disk.specs.Moments.{History, now, Passes}
use Rattle.je_disk.proofs.MomentLaws.{passes_then, passes_weaken}

pub passes_again : (a b c : History) → now b ≡ now a → Passes a b (λ s. s ≡ now a) → Passes b c (λ s. s ≡ now b) → Passes a c (λ s. s ≡ now a)
passes_again a b c same first second = passes_then a b c (λ s. s ≡ now a) first (passes_weaken b c (λ s. s ≡ now b) (λ s. s ≡ now a) (λ s e. e ∙ same) second)

-- ---- why a call failed

rose_earlier : (before mid after : ℕ) → before ≤ mid → mid ≤ after → HasRisen mid after → HasRisen before after
rose_earlier before mid after le later rose = grind (arith, common_steps)

-- the error of the call that failed, where the count did not fall before it
pub cause_later : {T U : Type 0} (before mid after : ℕ) (r : Result T DiskErr) (e : DiskErr) → before ≤ mid → IsErrAnd r (λ x. x ≡ e) → HasCause {T = U} mid after (Err e) → HasCause before after r
cause_later before mid after (Ok v) e le is cause = absurd is
cause_later {U = U} before mid after (Err x) e le is cause =
    let falls : mid ≤ after = cause.never_falls in
    record {
      never_falls = omega (arith, le, falls);
      failed = λ failed. let same : x ≡ Failed = cc in rose_earlier before mid after le falls (cause.failed (ap (λ (d : DiskErr). let r : Result U DiskErr = Err d in r) (sym is ∙ same)));
    }

pub cause_again : {T U : Type 0} (before after : ℕ) (r : Result T DiskErr) (e : DiskErr) → IsErrAnd r (λ x. x ≡ e) → HasCause {T = U} before after (Err e) → HasCause before after r
cause_again before after r e is cause = cause_later before before after r e (omega arith) is cause

-- out of memory, and success
pub cause_memory : {T : Type 0} (before mid after : ℕ) (r : Result T DiskErr) → before ≤ mid → mid ≤ after → IsErrAnd r (λ x. x ≡ Memory) → HasCause before after r
cause_memory before mid after (Ok v) le later is = absurd is
cause_memory before mid after (Err x) le later is = record { never_falls = omega arith; failed = λ failed. absurd cc }

pub cause_none : {T : Type 0} {v : T} (before mid after : ℕ) → before ≤ mid → mid ≤ after → HasCause before after (Ok v)
cause_none before mid after le later = record { never_falls = omega arith; failed = λ failed. absurd cc }

pub stays : (n : ℕ) → n ≤ n
stays n = omega arith

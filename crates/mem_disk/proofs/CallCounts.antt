-- How a call of the disk is counted, and how it fails.
use Rattle.std.proofs.Common.{◌≡◌, ◌≤◌, ◌<◌, ◌⊎◌, ◌↔◌, ◌∙◌, ℕ, nat_eq, Bool, true, false, List, Contains, Result, Ok, Err, IsErr, IsErrAnd, IsErrOf, inl, inr, refl, sym, ap, subst, arith}
use Rattle.std.specs.Bool.{Decides}
use Rattle.std.specs.List.{IsAnyAnswer}
use Rattle.std.proofs.lemmas.Bool.Decides.{Decides-eqb}
use Rattle.std.proofs.lemmas.List.Elements.{contains_decides, Decides-contains}
use Rattle.je_disk.specs.Causes.{HasFault, HasCause}
use Rattle.je_order.specs.Counts.{HasRisen}
use Rattle.je_disk.specs.States.{State}
use Rattle.je_disk.specs.Moments.{Passes}
use Rattle.je_disk.proofs.MomentLaws.{passes_none}
use Rattle.je_disk.specs.declared.error.DiskErr.{DiskErr}
use Rattle.je_disk.specs.declared.error.DiskErr.TheVariants.{Failed, Memory}
use Rattle.mem_disk.specs.declared.change.Change.{Change}
use Rattle.mem_disk.specs.Replay.{history_of}

same_error : {T : Type 0} (x y : DiskErr) → IsErrOf {T = T} {E = DiskErr} (Err x) y → x ≡ y
same_error x y is = cc

not_failed : (x : DiskErr) → x ≡ Memory → x ≡ Failed → ⊥
not_failed x is other = cc

-- a call that worked is no error
worked : {P : Type 0} → IsErr {T = Unit {0}} {E = DiskErr} (Ok tt) → P
worked h = cc

-- whether the number of a call is listed, by the search in a copy of the list
is_listed : (copy fails : List ℕ) (made : ℕ) (here : Bool) → copy ≡ fails → IsAnyAnswer (λ y b. nat_eq y made ≡ b) copy here → Decides here (Contains fails made)
is_listed copy fails made here same found =
    subst (λ (numbers : List ℕ). Decides here (Contains numbers made)) same (Decides-contains copy made here (contains_decides nat_eq Decides-eqb copy made here found))

-- a call behind the stop fails
pub fails_late : (fails : List ℕ) (stop made next : ℕ) → next ≡ made → stop < made → true ≡ true ↔ (Contains fails next ⊎ (stop < next))
fails_late fails stop made next is late = (λ _. inr (subst (λ (n : ℕ). stop < n) (sym is) late), λ _. refl)

-- a call that is listed fails
pub fails_listed : (copy fails : List ℕ) (stop made next : ℕ) (here : Bool) → copy ≡ fails → IsAnyAnswer (λ y b. nat_eq y made ≡ b) copy here → here ≡ true → next ≡ made →
    true ≡ true ↔ (Contains fails next ⊎ (stop < next))
fails_listed copy fails stop made next here same found is at =
    (λ _. inl (subst (λ (n : ℕ). Contains fails n) (sym at) ((is_listed copy fails made here same found).0 is)), λ _. refl)

-- a call that is neither works
pub works : (copy fails : List ℕ) (stop made : ℕ) (here : Bool) → copy ≡ fails → IsAnyAnswer (λ y b. nat_eq y made ≡ b) copy here → here ≡ false → made ≤ stop →
    false ≡ true ↔ (Contains fails made ⊎ (stop < made))
works copy fails stop made here same found is within = (λ h. cc, by_cause)
  where
    by_cause : Contains fails made ⊎ (stop < made) → false ≡ true
    by_cause (inl listed) = sym is ∙ (is_listed copy fails made here same found).1 listed
    by_cause (inr late) = absurd (omega arith)

-- the call failed
pub call_failed : {T : Type 0} (before after : ℕ) (e : DiskErr) (result : Result T DiskErr) → IsErr result → IsErrAnd result (λ x. x ≡ e) →
    HasFault {T = Unit {0}} before after (Err e) → HasFault before after result
call_failed before after e (Ok value) is same cause = cc
call_failed before after e (Err x) is same cause = record {
  never_falls = cause.never_falls;
  failed = cause.failed;
  only = λ memory. cause.only (ap (λ y. Err y) (sym same ∙ same_error x Memory memory));
}

pub call_failed_so : {T : Type 0} (before after : ℕ) (e : DiskErr) (result : Result T DiskErr) → HasFault {T = Unit {0}} before after (Err e) → HasCause before after result
call_failed_so before after e result cause = record { never_falls = cause.never_falls; failed = λ _. cause.failed }

-- a call that failed says so, and not out of memory
pub says_failed : {T : Type 0} (before after : ℕ) (e : DiskErr) (result : Result T DiskErr) → IsErr result → IsErrAnd result (λ x. x ≡ e) →
    HasFault {T = Unit {0}} before after (Err e) → IsErrOf result Failed
says_failed before after e (Ok value) is same cause = cc
says_failed before after Failed (Err x) is same cause = ap (λ y. Err y) same
says_failed before after Memory (Err x) is same cause = absurd (cause.only refl)

-- the call worked, and so did what came behind it
pub no_fault : {T : Type 0} (before after : ℕ) (value : T) → after ≡ before → HasFault before after (Ok value)
no_fault before after value is = record { never_falls = omega (arith, is); failed = tt; only = λ h. cc }

pub no_fault_so : {T : Type 0} (before after : ℕ) (value : T) → after ≡ before → HasCause before after (Ok value)
no_fault_so before after value is = record { never_falls = omega (arith, is); failed = λ h. cc }

-- the call worked, and what came behind it did not
pub late_fault : {T : Type 0} (before middle after : ℕ) (e : DiskErr) → middle ≡ before → e ≡ Failed → HasRisen middle after → middle ≤ after → HasFault {T = T} before after (Err e)
late_fault before middle after e is failed rose falls = record {
  never_falls = omega (arith, is, falls);
  failed = subst (λ (n : ℕ). HasRisen n after) is rose;
  only = λ memory. not_failed e (same_error e Memory memory) failed;
}

-- whether a call is due to fail, by the number that it has
pub is_due : (fails : List ℕ) (stop made next : ℕ) → made ≡ next → Contains fails made ⊎ (stop < made) → Contains fails next ⊎ (stop < next)
is_due fails stop made next is due = subst (λ (n : ℕ). Contains fails n ⊎ (stop < n)) is due

pub due_at : (F : Type 0) (fails : List ℕ) (stop made next : ℕ) → made ≡ next → F ↔ (Contains fails made ⊎ (stop < made)) → F ↔ (Contains fails next ⊎ (stop < next))
due_at F fails stop made next is due = subst (λ (n : ℕ). F ↔ (Contains fails n ⊎ (stop < n))) is due

pub not_due : {T : Type 0} (value : T) (fails : List ℕ) (stop made next : ℕ) → made ≡ next → IsErr {T = Unit {0}} {E = DiskErr} (Ok tt) ↔ (Contains fails made ⊎ (stop < made)) →
    IsErrOf {E = DiskErr} (Ok value) Failed ↔ (Contains fails next ⊎ (stop < next))
not_due value fails stop made next is due = (λ h. cc, λ d. worked (due.1 (is_due fails stop next made (sym is) d)))

-- nothing was recorded
pub passes_same : (before after : List Change) (P : State → Type 0) → after ≡ before → Passes (history_of before) (history_of after) P
passes_same before after P is = subst (λ (changes : List Change). Passes (history_of before) (history_of changes) P) (sym is) (passes_none (history_of before) P)

-- the call worked, and what came behind it found no memory
pub no_memory : {T : Type 0} (before after : ℕ) (result : Result T DiskErr) → IsErr result → IsErrAnd result (λ e. e ≡ Memory) → after ≡ before → HasCause before after result
no_memory before after (Ok value) is same steady = cc
no_memory before after (Err e) is same steady = record { never_falls = omega (arith, steady); failed = λ failed. absurd (not_failed e same (same_error e Failed failed)) }

pub memory_not_due : {T : Type 0} (result : Result T DiskErr) (fails : List ℕ) (stop made next : ℕ) → IsErr result → IsErrAnd result (λ e. e ≡ Memory) → made ≡ next →
    IsErr {T = Unit {0}} {E = DiskErr} (Ok tt) ↔ (Contains fails made ⊎ (stop < made)) → IsErrOf result Failed ↔ (Contains fails next ⊎ (stop < next))
memory_not_due (Ok value) fails stop made next is same at due = cc
memory_not_due (Err e) fails stop made next is same at due =
    (λ failed. absurd (not_failed e same (same_error e Failed failed)), λ d. worked (due.1 (is_due fails stop next made (sym at) d)))

-- What may go on, and how waiting calls come to rest.
use Rattle.std.proofs.Common.{◌≡◌, ℕ, true, false, true≢false, ◌≤◌, ◌<◌, ◌-◌, length, Option, None, Some, refl, sym, ◌∙◌, ⊎_elim, arith}
use Rattle.std.specs.Prelude.{IfSome, IsNone, option_map, slice_index_or}
use Rattle.std.proofs.lemmas.Bool.{cases_Bool}
use Rattle.je_answers.specs.declared.wait.Wait.{Wait}
use Rattle.je_answers.specs.Standing.{Standing}
use Rattle.je_answers.specs.Journal.{first_ready, ready_in}
use Rattle.environment.specs.Calls.{MayResume}
use Rattle.script_run.specs.declared.recorded.Recorded.{Recorded}
use Rattle.script_run.specs.declared.running.Running.{Running}
use Rattle.script_run.specs.Running.{AreFlags}
use Rattle.script_run.specs.UnderWay.{Beginning, HasSettled, IsCalm, IsNext, standing}
use Rattle.script_run.proofs.Standings.{ready_within, some_ready}

-- the first call that may go on, and what is told of it
pub none_first : (o : Option Wait) → None ≡ option_map {U = ℕ × ℕ} (λ w. (w.session, w.line)) o → o ≡ None
none_first None is = refl
none_first (Some w) is = cc

pub some_first : (st : Standing) (session line : ℕ) (o : Option Wait) → o ≡ first_ready st → option_map {U = ℕ × ℕ} (λ w. (w.session, w.line)) o ≡ Some (session, line) → 0 < ready_in st
some_first st session line None is told = cc
some_first st session line (Some w) is told = some_ready st st.waiting w (sym is)

module _ {D : Type 0} where
  pub next_is : (p : Beginning) (x : Recorded D) (o : Option (ℕ × ℕ)) → o ≡ option_map {U = ℕ × ℕ} (λ w. (w.session, w.line)) (first_ready (standing p x)) →
      IfSome o (λ q. MayResume (standing p x) q.0 q.1) → IfSome o (λ q. IsNext p q.0 q.1 x)
  next_is p x None is may = tt
  next_is p x (Some (session, line)) is may = record { first = sym is; may = may }

  pub none_is : (p : Beginning) (x : Recorded D) (o : Option (ℕ × ℕ)) → o ≡ option_map {U = ℕ × ℕ} (λ w. (w.session, w.line)) (first_ready (standing p x)) → IsNone o → IsCalm p x
  none_is p x None is none = none_first (first_ready (standing p x)) is
  none_is p x (Some q) is none = cc

  pub some_may : (p : Beginning) (session line : ℕ) (x : Recorded D) → IsNext p session line x → 0 < ready_in (standing p x)
  some_may p session line x next = some_first (standing p x) session line (first_ready (standing p x)) refl next.first

  -- how many wait, and how many may go on at most
  pub record AreCounted (p : Beginning) (x : Recorded D) (waiting left : ℕ) : Type 0 where
    pub waits : waiting ≡ length (standing p x).waiting
    pub ready : ready_in (standing p x) ≤ left

  pub counted : (p : Beginning) (x : Recorded D) (waiting : ℕ) → waiting ≡ length (standing p x).waiting → AreCounted p x waiting waiting
  counted p x waiting is = record { waits = is; ready = (let h = ready_within (standing p x) (standing p x).waiting in omega (arith, h, is)) }

  -- fewer wait; or as many, of which fewer may go on
  pub counted_fewer : (p : Beginning) (x y : Recorded D) (waiting left now : ℕ) → AreCounted p x waiting left → HasSettled p x y → now ≡ length (standing p y).waiting → now < waiting → AreCounted p y now now
  counted_fewer p x y waiting left now counts settled is less = counted p y now is

  pub counted_less : (p : Beginning) (x y : Recorded D) (waiting left now : ℕ) → AreCounted p x waiting left → HasSettled p x y → now ≡ length (standing p y).waiting → waiting ≤ now →
      (now ≡ waiting) × AreCounted p y now (left - 1)
  counted_less p x y waiting left now counts settled is more = ⊎_elim
      (λ (fewer : length (standing p y).waiting < length (standing p x).waiting). absurd (over now waiting _ _ is counts.waits fewer more))
      (λ (again : (length (standing p y).waiting ≡ length (standing p x).waiting) × (ready_in (standing p y) < ready_in (standing p x))). (
        is ∙ again.0 ∙ sym counts.waits,
        record { waits = is; ready = one_less (ready_in (standing p y)) (ready_in (standing p x)) left again.1 counts.ready },
      ))
      settled
    where
      over : (now waiting a b : ℕ) → now ≡ a → waiting ≡ b → a < b → waiting ≤ now → ⊥
      over now waiting a b is was less more = omega (arith, is, was, less, more)

      one_less : (new old left : ℕ) → new < old → old ≤ left → new ≤ left - 1
      one_less new old left less within = omega (arith, less, within)

  -- ---- halted runs

  -- a session that may give a line is of a run that goes on
  pub not_halted : (x : Running D) (session : ℕ) → AreFlags x → session < 256 → slice_index_or x.stopped session false ≡ false → x.halted ≡ false
  not_halted x session flags within running = ⊎_elim
      (λ (e : x.halted ≡ true). absurd (true≢false (sym (flags.all e session within) ∙ running)))
      (λ (e : x.halted ≡ false). e)
      (cases_Bool x.halted)

  -- and so is one that may give a step of maintenance
  pub goes_on_with : (x : Running D) → AreFlags x → x.steps_stopped ≡ false → x.halted ≡ false
  goes_on_with x flags going = ⊎_elim
      (λ (e : x.halted ≡ true). absurd (true≢false (sym (flags.steps e) ∙ going)))
      (λ (e : x.halted ≡ false). e)
      (cases_Bool x.halted)

  -- and so is one for whose calls there was memory
  pub not_ended : (x : Running D) → AreFlags x → x.memory_ended ≡ false → x.halted ≡ false
  not_ended x flags memory = ⊎_elim
      (λ (e : x.halted ≡ true). absurd (true≢false (sym (flags.memory e) ∙ memory)))
      (λ (e : x.halted ≡ false). e)
      (cases_Bool x.halted)

-- What a run's ends of sessions leave: its journal, its flags, and who has a transaction.
use Rattle.std.proofs.Common.{◌≡◌, ℕ, ◌+◌, ◌<◌, ◌≤◌, ◌⊎◌, Bool, true, false, true≢false, List, [], ◌∷◌, ◌++◌, length, Option, None, Some, refl, ap, sym, ◌∙◌, subst, inl, ⊎_elim, arith}
use Rattle.std.specs.Prelude.{Result, Ok, Err, OnOk, OnErr, is_err}
use Rattle.std.specs.Option.{is_some}
use Rattle.std.proofs.lemmas.Bool.{cases_lt}
use Rattle.store_model.specs.declared.answer.Answer.{Answer}
use Rattle.store_model.specs.declared.victim.Victim.{Victim}
use Rattle.store_model.specs.declared.event.Event.{Event}
use Rattle.store_model.specs.declared.event.Event.TheVariants.{End, Resume}
use Rattle.je_answers.specs.declared.active.Active.{Active}
use Rattle.je_answers.specs.declared.wait.Wait.{Wait}
use Rattle.je_answers.specs.Standing.{Standing, active_of, without_wait}
use Rattle.standing_laws.specs.Right.{AreRight}
use Rattle.script_run.specs.declared.recorded.Recorded.{Recorded}
use Rattle.script_run.specs.declared.running.Running.{Running}
use Rattle.script_run.specs.Ends.{AreEndsBelow, HasGained, IsStopped}
use Rattle.script_run.specs.Running.{EndsBelow, EndsStopped, HasEnded, HasGoneOn, HasHalted, HasSettledOrHalted}
use Rattle.script_run.specs.UnderWay.{Beginning, BeginsNone, IsCalm, IsNext, IsOutside, StandsAlike, standing}
use Rattle.script_run.proofs.EndLaws.{below_ended, below_gained, below_more, gained_later, gained_none, gained_one, gained_same, gained_then, stopped_gained}
use Rattle.script_run.proofs.RunLaws.{standing_push}
use Rattle.script_run.proofs.SessionLaws.{ended_outside, resumed_outside, stays_outside}
use Rattle.script_run.proofs.Standings.{ended_waits, fewer_wait, standing_same}

-- what is asked where a call failed holds if it holds at all, and if it did not fail
pub on_failed : {T E : Type 0} (r : Result T E) (P : Type 0) → P → OnErr r P
on_failed (Ok v) P h = tt
on_failed (Err e) P h = h

pub not_failed : {T E : Type 0} (r : Result T E) (P : Type 0) → is_err r ≡ false → OnErr r P
not_failed (Ok v) P h = tt
not_failed (Err e) P h = cc

-- what follows from it
pub ok_then : {T E : Type 0} (r : Result T E) (P Q : Type 0) → (P → Q) → OnOk r P → OnOk r Q
ok_then (Ok v) P Q then_ h = then_ h
ok_then (Err e) P Q then_ h = tt

pub err_then : {T E : Type 0} (r : Result T E) (P Q : Type 0) → (P → Q) → OnErr r P → OnErr r Q
err_then (Ok v) P Q then_ h = tt
err_then (Err e) P Q then_ h = then_ h

module _ {D : Type 0} where
  -- ---- going on without a line

  pub gone_on_none : (x : Running D) → HasGoneOn x x
  gone_on_none x = record { stopped = λ s was. was; halted = λ works. works; gained = gained_none x.stopped x.recorded.journal.items }

  pub gone_on_then : (x y z : Running D) → HasGoneOn x y → HasGoneOn y z → HasGoneOn x z
  gone_on_then x y z first next = record {
    stopped = λ s was. next.stopped s (first.stopped s was);
    halted = λ works. first.halted (next.halted works);
    gained = gained_then z.stopped x.recorded.journal.items y.recorded.journal.items z.recorded.journal.items
        (gained_later y.stopped z.stopped x.recorded.journal.items y.recorded.journal.items next.stopped first.gained) next.gained;
  }

  pub stopped_then : (x y : Running D) → HasGoneOn x y → EndsStopped x → EndsStopped y
  stopped_then x y gone h = stopped_gained x.stopped y.stopped x.recorded.journal.items y.recorded.journal.items gone.stopped gone.gained h

  pub below_then : (p : Beginning) (bound : ℕ) (x y : Running D) → HasGoneOn x y → EndsBelow p bound x → EndsBelow p bound y
  below_then p bound x y gone h = below_gained x.stopped y.stopped p.st x.recorded.journal.items y.recorded.journal.items bound gone.stopped gone.gained h

  -- a run whose journal and flags are the same
  pub gone_on_from : (x m y : Running D) → m.recorded.journal.items ≡ x.recorded.journal.items → m.stopped ≡ x.stopped → m.halted ≡ x.halted → HasGoneOn m y → HasGoneOn x y
  gone_on_from x m y items stopped halted gone = record {
    stopped = λ s was. gone.stopped s (subst (λ (l : List Bool). IsStopped l s) (sym stopped) was);
    halted = λ works. sym halted ∙ gone.halted works;
    gained = subst (λ (l : List Event). HasGained y.stopped l y.recorded.journal.items) items gone.gained;
  }

  -- ---- a session that was ended

  -- a run that was halted has gone on
  pub halted_gone_on : (x y : Running D) → HasHalted x y → HasGoneOn x y
  halted_gone_on x y halt = record {
    stopped = halt.stopped;
    halted = λ works. absurd (true≢false (sym halt.halted ∙ works));
    gained = gained_same y.stopped x.recorded.journal.items y.recorded.journal.items halt.same;
  }

  -- and so has one that ended a session that was stopped
  pub ended_gone_on : (session : ℕ) (x y : Running D) → IsStopped x.stopped session → HasEnded session x y ⊎ HasHalted x y → HasGoneOn x y
  ended_gone_on session x y was = λ either. ⊎_elim
      (λ (end : HasEnded session x y). record {
        stopped = λ s h. subst (λ (l : List Bool). IsStopped l s) (sym end.stopped) h;
        halted = λ works. sym end.halted ∙ works;
        gained = gained_one y.stopped x.recorded.journal.items y.recorded.journal.items (End session) end.ended refl (subst (λ (l : List Bool). IsStopped l session) (sym end.stopped) was);
      })
      (λ (halt : HasHalted x y). halted_gone_on x y halt)
      either

  pub ended_stopped : (session : ℕ) (x y : Running D) → IsStopped x.stopped session → HasEnded session x y ⊎ HasHalted x y → IsStopped y.stopped session
  ended_stopped session x y was either = (ended_gone_on session x y was either).stopped session was

  pub ended_settles : (p : Beginning) (session line : ℕ) (x y : Running D) → IsNext p session line x.recorded → HasEnded session x y ⊎ HasHalted x y → HasSettledOrHalted p x y
  ended_settles p session line x y next = λ either. ⊎_elim
      (λ (end : HasEnded session x y). λ works.
      let is : (standing p y.recorded).waiting ≡ without_wait session (standing p x.recorded).waiting =
      ap (λ (s : Standing). s.waiting) (standing_push p x.recorded y.recorded (End session) end.ended) ∙ ended_waits session (standing p x.recorded) in
      inl (subst (λ (l : List Wait). length l < length (standing p x.recorded).waiting) (sym is) (fewer_wait session (standing p x.recorded).waiting next.may.wait next.may.its)))
      (λ (halt : HasHalted x y). λ works. absurd (true≢false (sym halt.halted ∙ works)))
      either

  -- who had no transaction has none
  pub none_same : (p : Beginning) (x y : Recorded D) → y.journal.items ≡ x.journal.items → BeginsNone p x y
  none_same p x y items = λ s none. ap (λ (t : Standing). active_of s t.actives) (standing_same p x y items) ∙ none

  pub none_alike : (p : Beginning) (x y : Recorded D) → StandsAlike p x y → BeginsNone p x y
  none_alike p x y alike = λ s none. ap (active_of s) alike.actives ∙ none

  pub none_then : (p : Beginning) (x y z : Recorded D) → BeginsNone p x y → BeginsNone p y z → BeginsNone p x z
  none_then p x y z first next = λ s none. next s (first s none)

  pub none_ended : (p : Beginning) (session : ℕ) (x y : Recorded D) → y.journal.items ≡ x.journal.items ++ End session ∷ [] → BeginsNone p x y
  none_ended p session x y items = λ s none.
      ap (λ (t : Standing). active_of s t.actives) (standing_push p x y (End session) items) ∙ stays_outside (standing p x) (End session) s tt none

  -- a call that went on is of another session
  pub none_resumed : (p : Beginning) (session line : ℕ) (answer : Answer) (victims : List Victim) (x y : Recorded D) → y.journal.items ≡ x.journal.items ++ Resume session line answer victims ∷ [] →
      ((standing p x).fault ≡ None → AreRight (standing p x)) → IsNext p session line x → BeginsNone p x y
  none_resumed p session line answer victims x y items right next = λ s none.
      ap (λ (t : Standing). active_of s t.actives) (standing_push p x y (Resume session line answer victims) items)
      ∙ resumed_outside (standing p x) session line answer victims next.may.wait s right next.may.its none

  pub ended_none : (p : Beginning) (session : ℕ) (x y : Running D) → HasEnded session x y ⊎ HasHalted x y → BeginsNone p x.recorded y.recorded
  ended_none p session x y = λ either. ⊎_elim
      (λ (end : HasEnded session x y). none_ended p session x.recorded y.recorded end.ended)
      (λ (halt : HasHalted x y). none_same p x.recorded y.recorded halt.same)
      either

  -- its transaction is gone
  pub ended_is_outside : (p : Beginning) (session : ℕ) (x y : Running D) → HasEnded session x y ⊎ HasHalted x y → y.halted ≡ false → IsOutside p session y.recorded
  ended_is_outside p session x y = λ either. ⊎_elim
      (λ (end : HasEnded session x y). λ works.
      ap (λ (t : Standing). active_of session t.actives) (standing_push p x.recorded y.recorded (End session) end.ended) ∙ ended_outside (standing p x.recorded) session)
      (λ (halt : HasHalted x y). λ works. absurd (true≢false (sym halt.halted ∙ works)))
      either

  -- a session that has none
  pub outside_by : (p : Beginning) (session : ℕ) (x : Recorded D) (has : Bool) → has ≡ is_some (active_of session (standing p x).actives) → has ≡ false → IsOutside p session x
  outside_by p session x has is not_has = by_active (active_of session (standing p x).actives) (sym is ∙ not_has) where
    by_active : (o : Option Active) → is_some o ≡ false → o ≡ None
    by_active None h = refl
    by_active (Some a) h = cc

  -- where all before a session had none, and it has none now, all up to it have none
  pub ended_up_to : (p : Beginning) (session : ℕ) (x y : Recorded D) → BeginsNone p x y → ((s : ℕ) → s < session → IsOutside p s x) → IsOutside p session y → (s : ℕ) → s < session + 1 → IsOutside p s y
  ended_up_to p session x y none before its s within = ⊎_elim
      (λ (less : s < session). none s (before s less))
      (λ (more : session ≤ s). (let same : session ≡ s = omega (arith, more, within) in subst (λ n. IsOutside p n y) same its))
      (cases_lt s session)

  -- where it has none it is passed by
  pub passed : (p : Beginning) (session : ℕ) (x : Running D) → EndsBelow p session x → EndsBelow p (session + 1) x
  passed p session x h = below_more x.stopped p.st x.recorded.journal.items session (session + 1) (omega arith) h

  -- the next session, which has a transaction, is ended while no call may go on
  pub ended_below : (p : Beginning) (session : ℕ) (x y : Running D) → IsCalm p x.recorded → is_some (active_of session (standing p x.recorded).actives) ≡ true →
      HasEnded session x y ⊎ HasHalted x y → EndsBelow p session x → EndsBelow p (session + 1) y
  ended_below p session x y calm under_way either h = ⊎_elim
      (λ (end : HasEnded session x y).
      subst (λ (l : List Bool). AreEndsBelow (session + 1) l p.st y.recorded.journal.items) (sym end.stopped)
      (below_ended x.stopped p.st x.recorded.journal.items y.recorded.journal.items session end.ended calm under_way h))
      (λ (halt : HasHalted x y). below_then p (session + 1) x y (halted_gone_on x y halt) (passed p session x h))
      either

  pub works_before : (session : ℕ) (x y z : Running D) → HasEnded session x y ⊎ HasHalted x y → HasGoneOn y z → z.halted ≡ false → x.halted ≡ false
  works_before session x y z either gone works = ⊎_elim
      (λ (end : HasEnded session x y). sym end.halted ∙ gone.halted works)
      (λ (halt : HasHalted x y). absurd (true≢false (sym halt.halted ∙ gone.halted works)))
      either

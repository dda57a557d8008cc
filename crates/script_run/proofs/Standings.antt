-- Where a run stands: what only its journal says, and what ends and syncs leave waiting.
use Rattle.std.proofs.Common.{◌≡◌, ℕ, ◌≤◌, ◌<◌, ◌==◌, Bool, true, false, cond, List, [], ◌∷◌, length, Option, None, Some, Ok, refl, ap, sym, ◌∙◌, subst, inl, inr, ⊎_elim, arith}
use Rattle.std.specs.Prelude.{find, filter, not, option_map}
use Rattle.store_model.specs.declared.durability.Durability.{Durability}
use Rattle.store_model.specs.declared.answer.Answer.{Answer}
use Rattle.store_model.specs.declared.answer.Answer.TheVariants.{DiskFault}
use Rattle.je_answers.specs.declared.active.Active.{Active}
use Rattle.je_answers.specs.declared.wait.Wait.{Wait}
use Rattle.je_answers.specs.Standing.{Standing, active_of, without_wait}
use Rattle.je_answers.specs.After.{after_events, ended_if_any, faulted_if}
use Rattle.je_answers.specs.Journal.{IsFirstReady, first_ready, is_ready, ready_in}
use Rattle.environment.specs.Calls.{MayResume}
use Rattle.script_run.specs.declared.recorded.Recorded.{Recorded}
use Rattle.script_run.specs.UnderWay.{Beginning, HasSettled, IsCalm, IsNext, MayEnd, Settles, StandsAlike, standing}
use Rattle.script_run.proofs.Waiting.{first_of}

module _ {D : Type 0} where
  -- the same journal, the same standing
  pub standing_same : (p : Beginning) (x y : Recorded D) → y.journal.items ≡ x.journal.items → standing p y ≡ standing p x
  standing_same p x y items = ap (after_events p.st) items

  pub calm_same : (p : Beginning) (x y : Recorded D) → y.journal.items ≡ x.journal.items → IsCalm p x → IsCalm p y
  calm_same p x y items calm = ap first_ready (standing_same p x y items) ∙ calm

  pub next_same : (p : Beginning) (session line : ℕ) (x y : Recorded D) → y.journal.items ≡ x.journal.items → IsNext p session line x → IsNext p session line y
  next_same p session line x y items next =
      let is = sym (standing_same p x y items) in
      record {
        first = subst (λ (s : Standing). option_map {U = ℕ × ℕ} (λ w. (w.session, w.line)) (first_ready s) ≡ Some (session, line)) is next.first;
        may = subst (λ (s : Standing). MayResume s session line) is next.may;
      }

  pub may_end_same : (p : Beginning) (session : ℕ) (x y : Recorded D) → y.journal.items ≡ x.journal.items → MayEnd p session x → MayEnd p session y
  may_end_same p session x y items may = ⊎_elim
      (λ (calm : first_ready (standing p x) ≡ None). inl (calm_same p x y items calm))
      (λ (first : IsFirstReady (standing p x) session). inr (subst (λ (s : Standing). IsFirstReady s session) (sym (standing_same p x y items)) first))
      may

  -- who goes on may also end
  pub next_may_end : (p : Beginning) (session line : ℕ) (x : Recorded D) → IsNext p session line x → MayEnd p session x
  next_may_end p session line x next = inr (first_of (first_ready (standing p x)) session line next.first)

  pub settled_same : (p : Beginning) (x m y : Recorded D) → m.journal.items ≡ x.journal.items → HasSettled p m y → HasSettled p x y
  settled_same p x m y items settled = ⊎_elim
      (λ fewer. inl (subst (λ (s : Standing). length (standing p y).waiting < length s.waiting) (standing_same p x m items) fewer))
      (λ again. inr (
        subst (λ (s : Standing). length (standing p y).waiting ≡ length s.waiting) (standing_same p x m items) again.0,
        subst (λ (s : Standing). ready_in (standing p y) < ready_in s) (standing_same p x m items) again.1,
      ))
      settled

  -- what a commit waits for leaves the calls that wait
  pub settles_then : (p : Beginning) (awaited : Option Durability) (x m y : Recorded D) → Settles p (Ok awaited) x m → (standing p y).waiting ≡ (standing p m).waiting → (awaited ≡ None → y ≡ m) → HasSettled p x y
  settles_then p None x m y settles same none = subst (λ (z : Recorded D). HasSettled p x z) (sym (none refl)) settles
  settles_then p (Some durability) x m y settles same none = inl (subst (λ (w : List Wait). length w < length (standing p x).waiting) (sym same) settles)

  -- an event left both the waiting calls and the transactions alike
  pub alike_by : (p : Beginning) (x y : Recorded D) (st : Standing) → standing p y ≡ st → st.waiting ≡ (standing p x).waiting → st.actives ≡ (standing p x).actives → StandsAlike p x y
  alike_by p x y st is waiting actives = record { waiting = ap (λ (s : Standing). s.waiting) is ∙ waiting; actives = ap (λ (s : Standing). s.actives) is ∙ actives }

-- ---- events

ended_in : (o : Option Active) (st : Standing) → (ended_if_any o st).waiting ≡ st.waiting
ended_in None st = refl
ended_in (Some a) st = refl

pub faulted_waits : (answer : Answer) (st : Standing) → (faulted_if answer st).waiting ≡ st.waiting
faulted_waits DiskFault st = refl
faulted_waits answer st = refl

pub faulted_actives : (answer : Answer) (st : Standing) → (faulted_if answer st).actives ≡ st.actives
faulted_actives DiskFault st = refl
faulted_actives answer st = refl

pub ended_waits : (session : ℕ) (st : Standing) → (ended_if_any (active_of session st.actives) (record st { waiting = without_wait session st.waiting })).waiting ≡ without_wait session st.waiting
ended_waits session st = ended_in (active_of session st.actives) (record st { waiting = without_wait session st.waiting })

-- a session that waited waits no more
no_more : (session : ℕ) (waiting : List Wait) → length (without_wait session waiting) ≤ length waiting
no_more session [] = omega arith
no_more session (w ∷ ws) = by_case (w.session == session) (no_more session ws)
  where
    by_case : (b : Bool) → length (without_wait session ws) ≤ length ws → length (cond (not b) (w ∷ without_wait session ws) (without_wait session ws)) ≤ length (w ∷ ws)
    by_case true h = omega (arith, h)
    by_case false h = omega (arith, h)

pub fewer_wait : (session : ℕ) (waiting : List Wait) (w : Wait) → find (λ v. v.session == session) waiting ≡ Some w → length (without_wait session waiting) < length waiting
fewer_wait session [] w found = cc
fewer_wait session (v ∷ vs) w found = by_case (v.session == session) (λ e. fewer_wait session vs w e) found
  where
    by_case : (b : Bool) → (find (λ u. u.session == session) vs ≡ Some w → length (without_wait session vs) < length vs) → cond b (Some v) (find (λ u. u.session == session) vs) ≡ Some w →
        length (cond (not b) (v ∷ without_wait session vs) (without_wait session vs)) < length (v ∷ vs)
    by_case true h e = (let k = no_more session vs in omega (arith, k))
    by_case false h e = (let k = h e in omega (arith, k))

-- where a call may go on, some may
pub some_ready : (st : Standing) (waiting : List Wait) (w : Wait) → find (is_ready st) waiting ≡ Some w → 0 < length (filter (is_ready st) waiting)
some_ready st [] w found = cc
some_ready st (v ∷ vs) w found = by_case (is_ready st v) (λ e. some_ready st vs w e) found
  where
    by_case : (b : Bool) → (find (is_ready st) vs ≡ Some w → 0 < length (filter (is_ready st) vs)) → cond b (Some v) (find (is_ready st) vs) ≡ Some w →
        0 < length (cond b (v ∷ filter (is_ready st) vs) (filter (is_ready st) vs))
    by_case true h e = omega arith
    by_case false h e = h e

-- no more may go on than wait
pub ready_within : (st : Standing) (waiting : List Wait) → length (filter (is_ready st) waiting) ≤ length waiting
ready_within st [] = omega arith
ready_within st (v ∷ vs) = by_case (is_ready st v) (ready_within st vs)
  where
    by_case : (b : Bool) → length (filter (is_ready st) vs) ≤ length vs → length (cond b (v ∷ filter (is_ready st) vs) (filter (is_ready st) vs)) ≤ length (v ∷ vs)
    by_case true h = omega (arith, h)
    by_case false h = omega (arith, h)

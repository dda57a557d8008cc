-- Which sessions have a transaction, event after event.
use Rattle.std.proofs.Common.{◌≡◌, ℕ, ◌<◌, ◌==◌, Bool, true, false, cond, List, [], ◌∷◌, Option, None, Some, refl, ap, sym, ◌∙◌, subst, ⊎_elim}
use Rattle.std.specs.Prelude.{find, not}
use Rattle.std.specs.List.{AllByRecursion}
use Rattle.std.proofs.lemmas.Bool.{eqb-true, eq-eqb, cond-true, cond-false, cases_Bool}
use Rattle.je_order.proofs.Lists.{all_kept, all_push}
use Rattle.store_model.specs.declared.step.Step.{Step}
use Rattle.store_model.specs.declared.step.Step.TheVariants.{Begin as BeginStep, Flush, Finish, Sync as SyncStep}
use Rattle.store_model.specs.declared.call.Call.{Call}
use Rattle.store_model.specs.declared.call.Call.TheVariants.{Begin, Commit, Abort, List as Lists, Create, CreateIndex, Remove, Rename, Truncate, Open, Close, Dup}
use Rattle.store_model.specs.declared.change.Change.{Change}
use Rattle.store_model.specs.declared.record_change.RecordChange.{RecordChange}
use Rattle.store_model.specs.declared.need.Need.{Need}
use Rattle.store_model.specs.declared.place.Place.{Place}
use Rattle.store_model.specs.declared.victim.Victim.{Victim}
use Rattle.store_model.specs.declared.answer.Answer.{Answer}
use Rattle.store_model.specs.declared.answer.Answer.TheVariants.{Done, DiskFault, Invalid}
use Rattle.store_model.specs.declared.answer.Fault.{Fault}
use Rattle.store_model.specs.declared.event.Event.{Event}
use Rattle.store_model.specs.declared.event.Event.TheVariants.{Call as Called, Resume, End, WriteOut, SyncBegin, SyncEnd, Turn}
use Rattle.store_model.specs.Records.{Evaluated}
use Rattle.store_model.specs.Evaluation.{evaluation}
use Rattle.je_answers.specs.declared.active.Active.{Active}
use Rattle.je_answers.specs.declared.wait.Wait.{Wait}
use Rattle.je_answers.specs.Standing.{Standing, active_of, wait_of, without_wait, place_at}
use Rattle.je_answers.specs.Views.{Target, target_of, changes_with, changes_named, outcome_of, needs_in, with_names}
use Rattle.je_answers.specs.Refusals.{early_refusal, late_refusal}
use Rattle.je_answers.specs.Locking.{first_blocked}
use Rattle.je_answers.specs.Events.{auto_active, begun, resumed}
use Rattle.je_answers.specs.After.{Fate, fate_of, closed, ended, all_ended, autos_in, without_waits_of, without_session, marked, marked_by, with_waiting, drawn_by, answered, with_outcome, after_fate, after_changes, after_stop, after_taking, after_on, after_run, after_commit, after_ending, ended_if_any, after_catalog, committed_if_any, opened_at, after_performed, after_evaluated, after_call, after_resumed, faulted_if, after_begin, after_turn, after_event}
use Rattle.je_answers.specs.After.Fate.{Succeeds, IsRefused, Faults}
use Rattle.standing_laws.specs.Right.{AreRight, IsWaitIn}
use Rattle.script_run.specs.Ends.{AreOf}
use Rattle.script_run.proofs.Waiting.{fault_refuses}

-- ---- one event

ended_of : (P : ℕ → Type 0) (a : Active) (st : Standing) → AreOf P st.actives → AreOf P (ended a st).actives
ended_of P a st h = all_kept (λ b. P b.session) (λ b. not (b.session == a.session)) st.actives h

committed_of : (P : ℕ → Type 0) (changes : List Change) (st : Standing) → AreOf P st.actives → AreOf P (committed_if_any changes st).actives
committed_of P [] st h = h
committed_of P (change ∷ changes) st h = h

closed_of : (P : ℕ → Type 0) (b : Bool) (a : Active) (changes : List Change) (st : Standing) → AreOf P st.actives → AreOf P (closed b a changes st).actives
closed_of P true a [] st h = ended_of P a st h
closed_of P true a (change ∷ changes) st h = ended_of P a (committed_if_any (change ∷ changes) st) h
closed_of P false a changes st h = h

fate_keeps : (P : ℕ → Type 0) (fate : Fate) (old st : Standing) (a : Active) (call : Call) (g : Target) (e : Evaluated) → AreOf P old.actives → AreOf P st.actives →
    AreOf P (after_fate fate old st a call g e).actives
fate_keeps P Succeeds old st a call g e was h = closed_of P a.is_auto a (with_names (changes_with st a g e.changes)) (with_outcome a call g e (answered a call g st)) h
fate_keeps P IsRefused old st a call g e was h = closed_of P a.is_auto a [] (answered a call g st) h
fate_keeps P Faults old st a call g e was h = was

changes_keep : (P : ℕ → Type 0) (changes : List RecordChange) (old st : Standing) (a : Active) (call : Call) (g : Target) (e : Evaluated) (answer : Answer) → AreOf P old.actives → AreOf P st.actives →
    AreOf P (after_changes changes old st a call g e answer).actives
changes_keep P [] old st a call g e answer was h = fate_keeps P Succeeds old st a call g e was h
changes_keep P (change ∷ changes) old st a call g e answer was h = fate_keeps P (fate_of answer) old st a call g e was h

all_ended_of : (P : ℕ → Type 0) (actives : List Active) (st : Standing) → AreOf P st.actives → AreOf P (all_ended actives st).actives
all_ended_of P [] st h = h
all_ended_of P (a ∷ actives) st h = all_ended_of P actives (ended a st) (ended_of P a st h)

marked_of : (P : ℕ → Type 0) (victims : List Victim) (actives : List Active) → AreOf P actives → AreOf P (marked victims actives)
marked_of P victims [] h = tt
marked_of P victims (a ∷ actives) h = (by_mark (find (λ v. v.session == a.session) victims), marked_of P victims actives h.1) where
  by_mark : (o : Option Victim) → P (marked_by o a).session
  by_mark None = h.0
  by_mark (Some v) = h.0

stop_keeps : (P : ℕ → Type 0) (b : Bool) (st : Standing) (a : Active) (line : ℕ) (call : Call) (g : Target) (n : Need) (victims : List Victim) → AreOf P st.actives →
    AreOf P (after_stop b st a line call g n victims).actives
stop_keeps P false st a line call g n victims h = h
stop_keeps P true st a line call g n victims h =
    all_ended_of P (autos_in victims st.actives) (without_waits_of victims (with_waiting st a line call g n victims)) (marked_of P victims st.actives h)

taking_keeps : (P : ℕ → Type 0) (o : Option Need) (old st : Standing) (a : Active) (line : ℕ) (call : Call) (g : Target) (answer : Answer) (victims : List Victim) → AreOf P old.actives → AreOf P st.actives →
    AreOf P (after_taking o old st a line call g answer victims).actives
taking_keeps P None old st a line call g answer victims was h = changes_keep P (outcome_of st a call g).changes old st a call g (outcome_of st a call g) answer was h
taking_keeps P (Some n) old st a line call g answer victims was h = stop_keeps P a.waits st a line call g n victims h

target_keeps : (P : ℕ → Type 0) (o : Option Target) (old st : Standing) (a : Active) (line : ℕ) (call : Call) (answer : Answer) (victims : List Victim) → AreOf P old.actives → AreOf P st.actives →
    AreOf P (after_on o old st a line call answer victims).actives
target_keeps P None old st a line call answer victims was h = was
target_keeps P (Some g) old st a line call answer victims was h = taking_keeps P (first_blocked a.txn (needs_in st a call g) st.locks.at) old st a line call g answer victims was h

run_keeps : (P : ℕ → Type 0) (o : Option Active) (st : Standing) (session line : ℕ) (call : Call) (answer : Answer) (victims : List Victim) → P session → AreOf P st.actives →
    AreOf P (after_run o st session line call answer victims).actives
run_keeps P (Some a) st session line call answer victims its h = target_keeps P (target_of st session call) st st a line call answer victims h h
run_keeps P None st session line call answer victims its h =
    target_keeps P (target_of st session call) st (begun st session) (auto_active st session) line call answer victims h (all_push (λ a. P a.session) st.actives (auto_active st session) h its)

commit_keeps : (P : ℕ → Type 0) (fate : Fate) (changes : List Change) (a : Active) (st : Standing) → AreOf P st.actives → AreOf P (after_commit fate changes a st).actives
commit_keeps P Succeeds changes a st h = ended_of P a (committed_if_any changes st) (committed_of P changes st h)
commit_keeps P IsRefused changes a st h = h
commit_keeps P Faults changes a st h = h

ending_keeps : (P : ℕ → Type 0) (o : Option Active) (st : Standing) (answer : Answer) → AreOf P st.actives → AreOf P (after_ending o st answer).actives
ending_keeps P None st answer h = h
ending_keeps P (Some a) st answer h = commit_keeps P (fate_of answer) (changes_named st (st.own a.txn.0)) a st h

drawn_keeps : (P : ℕ → Type 0) (o : Option Active) (st : Standing) → AreOf P st.actives → AreOf P (drawn_by o st).actives
drawn_keeps P None st h = h
drawn_keeps P (Some a) st h = h

catalog_keeps : (P : ℕ → Type 0) (fate : Fate) (changes : List Change) (o : Option Active) (st : Standing) → AreOf P st.actives → AreOf P (after_catalog fate changes o st).actives
catalog_keeps P Succeeds changes o st h = committed_of P changes (drawn_by o st) (drawn_keeps P o st h)
catalog_keeps P IsRefused changes o st h = drawn_keeps P o st h
catalog_keeps P Faults changes o st h = h

abort_keeps : (P : ℕ → Type 0) (o : Option Active) (st : Standing) → AreOf P st.actives → AreOf P (ended_if_any o st).actives
abort_keeps P None st h = h
abort_keeps P (Some a) st h = ended_of P a st h

opening_keeps : (P : ℕ → Type 0) (o : Option Place) (to session : ℕ) (st : Standing) → AreOf P st.actives → AreOf P (opened_at o to session st).actives
opening_keeps P None to session st h = h
opening_keeps P (Some p) to session st h = h

performed_keeps : (P : ℕ → Type 0) (call : Call) (st : Standing) (session line : ℕ) (answer : Answer) (victims : List Victim) → P session → AreOf P st.actives →
    AreOf P (after_performed call st session line answer victims).actives
performed_keeps P (Begin level durability wait) st session line answer victims its h = all_push (λ a. P a.session) st.actives _ h its
performed_keeps P Commit st session line answer victims its h = ending_keeps P (active_of session st.actives) st answer h
performed_keeps P Abort st session line answer victims its h = abort_keeps P (active_of session st.actives) st h
performed_keeps P Lists st session line answer victims its h = drawn_keeps P (active_of session st.actives) st h
performed_keeps P (Create db kind) st session line answer victims its h = catalog_keeps P (fate_of answer) (evaluation (Create db kind) st.store).changes (active_of session st.actives) st h
performed_keeps P (CreateIndex db index) st session line answer victims its h = catalog_keeps P (fate_of answer) (evaluation (CreateIndex db index) st.store).changes (active_of session st.actives) st h
performed_keeps P (Remove db) st session line answer victims its h = catalog_keeps P (fate_of answer) (evaluation (Remove db) st.store).changes (active_of session st.actives) st h
performed_keeps P (Rename db to) st session line answer victims its h = catalog_keeps P (fate_of answer) (evaluation (Rename db to) st.store).changes (active_of session st.actives) st h
performed_keeps P (Truncate db) st session line answer victims its h = catalog_keeps P (fate_of answer) (evaluation (Truncate db) st.store).changes (active_of session st.actives) st h
performed_keeps P (Open cursor db) st session line answer victims its h = h
performed_keeps P (Close cursor) st session line answer victims its h = h
performed_keeps P (Dup cursor to) st session line answer victims its h = opening_keeps P (place_at cursor (st.places session)) to session st h
performed_keeps P call st session line answer victims its h = run_keeps P (active_of session st.actives) st session line call answer victims its h

evaluated_keeps : (P : ℕ → Type 0) (late : Option Answer) (st : Standing) (session line : ℕ) (call : Call) (answer : Answer) (victims : List Victim) → P session → AreOf P st.actives →
    AreOf P (after_evaluated late st session line call answer victims).actives
evaluated_keeps P (Some refusal) st session line call answer victims its h = drawn_keeps P (active_of session st.actives) st h
evaluated_keeps P None st session line call answer victims its h = performed_keeps P call st session line answer victims its h

call_keeps : (P : ℕ → Type 0) (early : Option Answer) (st : Standing) (session line : ℕ) (call : Call) (answer : Answer) (victims : List Victim) → P session → AreOf P st.actives →
    AreOf P (after_call early st session line call answer victims).actives
call_keeps P (Some refusal) st session line call answer victims its h = h
call_keeps P None st session line call answer victims its h = evaluated_keeps P (late_refusal st session call) st session line call answer victims its h

resumed_keeps : (P : ℕ → Type 0) (o : Option Wait) (st : Standing) (session line : ℕ) (answer : Answer) (victims : List Victim) → P session → AreOf P st.actives →
    AreOf P (after_resumed o st session line answer victims).actives
resumed_keeps P None st session line answer victims its h = h
resumed_keeps P (Some w) st session line answer victims its h = call_keeps P (early_refusal (resumed st w) session w.call) (resumed st w) session line w.call answer victims its h

other_keeps : (P : ℕ → Type 0) (answer : Answer) (st : Standing) → AreOf P st.actives → AreOf P (faulted_if answer st).actives
other_keeps P DiskFault st h = h
other_keeps P answer st h = h

begin_keeps : (P : ℕ → Type 0) (answer : Answer) (st : Standing) → AreOf P st.actives → AreOf P (after_begin st answer).actives
begin_keeps P Done st h = h
begin_keeps P DiskFault st h = h
begin_keeps P answer st h = h

turn_keeps : (P : ℕ → Type 0) (step : Step) (answer : Answer) (st : Standing) → AreOf P st.actives → AreOf P (after_turn step st answer).actives
turn_keeps P BeginStep Done st h = h
turn_keeps P BeginStep answer st h = other_keeps P answer st h
turn_keeps P Finish Done st h = h
turn_keeps P Finish answer st h = other_keeps P answer st h
turn_keeps P Flush answer st h = other_keeps P answer st h
turn_keeps P SyncStep answer st h = other_keeps P answer st h

-- a session whose call it is may have a transaction
abbrev pub MayBeOf : (ℕ → Type 0) → Event → Type 0
MayBeOf P (Called session line call answer victims) = P session
MayBeOf P (Resume session line answer victims) = P session
MayBeOf P event = Unit {0}

-- who has a transaction behind an event had one, or gave a call
pub event_keeps : (P : ℕ → Type 0) (st : Standing) (event : Event) → MayBeOf P event → AreOf P st.actives → AreOf P (after_event st event).actives
event_keeps P st (Called session line call answer victims) its h = call_keeps P (early_refusal st session call) st session line call answer victims its h
event_keeps P st (Resume session line answer victims) its h = resumed_keeps P (wait_of session st.waiting) st session line answer victims its h
event_keeps P st (End session) its h = abort_keeps P (active_of session st.actives) (record st { waiting = without_wait session st.waiting }) h
event_keeps P st (WriteOut answer) its h = other_keeps P answer st h
event_keeps P st (SyncBegin answer) its h = begin_keeps P answer st h
event_keeps P st (SyncEnd answer) its h = other_keeps P answer (record st { begun = None }) h
event_keeps P st (Turn line step answer) its h = turn_keeps P step answer st h

-- ---- sessions without a transaction

outside_is : (session : ℕ) (actives : List Active) → active_of session actives ≡ None → AreOf (λ s. (s == session) ≡ false) actives
outside_is session [] none = tt
outside_is session (a ∷ actives) none = by_case (a.session == session) refl (λ found. outside_is session actives found) none where
  by_case : (b : Bool) → (a.session == session) ≡ b → (active_of session actives ≡ None → AreOf (λ s. (s == session) ≡ false) actives) → cond b (Some a) (active_of session actives) ≡ None →
      AreOf (λ s. (s == session) ≡ false) (a ∷ actives)
  by_case true e rest found = cc
  by_case false e rest found = (e, rest found)

is_outside : (session : ℕ) (actives : List Active) → AreOf (λ s. (s == session) ≡ false) actives → active_of session actives ≡ None
is_outside session [] h = refl
is_outside session (a ∷ actives) h = cond-false (a.session == session) (Some a) (active_of session actives) h.0 ∙ is_outside session actives h.1

-- an event of another session brings it none
pub stays_outside : (st : Standing) (event : Event) (session : ℕ) → MayBeOf (λ s. (s == session) ≡ false) event → active_of session st.actives ≡ None → active_of session (after_event st event).actives ≡ None
stays_outside st event session other none = is_outside session (after_event st event).actives (event_keeps (λ s. (s == session) ≡ false) st event other (outside_is session st.actives none))

-- a session whose call waits has a transaction
wait_is_in : (session : ℕ) (actives : List Active) (waiting : List Wait) (w : Wait) → wait_of session waiting ≡ Some w → AllByRecursion (IsWaitIn actives) waiting → (a : Active) × (active_of session actives ≡ Some a)
wait_is_in session actives [] w found h = cc
wait_is_in session actives (v ∷ waiting) w found h = by_case (v.session == session) refl (λ f. wait_is_in session actives waiting w f h.1) found where
  by_case : (b : Bool) → (v.session == session) ≡ b → (wait_of session waiting ≡ Some w → (a : Active) × (active_of session actives ≡ Some a)) → cond b (Some v) (wait_of session waiting) ≡ Some w →
      (a : Active) × (active_of session actives ≡ Some a)
  by_case true e rest f = (h.0.active, subst (λ s. active_of s actives ≡ Some h.0.active) (eqb-true v.session session e) h.0.its)
  by_case false e rest f = rest f

-- so a call that goes on is of another session than one that has none
other_waits : (session other : ℕ) (st : Standing) (w : Wait) → AreRight st → wait_of session st.waiting ≡ Some w → active_of other st.actives ≡ None → (session == other) ≡ false
other_waits session other st w right its none = ⊎_elim
    (λ (e : (session == other) ≡ true).
    let a = wait_is_in session st.actives st.waiting w its right.sound.waits.each in
    let wrong : Some a.0 ≡ None = sym a.1 ∙ ap (λ s. active_of s st.actives) (eqb-true session other e) ∙ none in cc)
    (λ (e : (session == other) ≡ false). e)
    (cases_Bool (session == other))

-- a call that goes on brings a session none
pub resumed_outside : (st : Standing) (session line : ℕ) (answer : Answer) (victims : List Victim) (w : Wait) (other : ℕ) → (st.fault ≡ None → AreRight st) → wait_of session st.waiting ≡ Some w →
    active_of other st.actives ≡ None → active_of other (after_event st (Resume session line answer victims)).actives ≡ None
resumed_outside st session line answer victims w other right its none = by_fault st.fault refl where
  by_fault : (fault : Option Fault) → st.fault ≡ fault → active_of other (after_event st (Resume session line answer victims)).actives ≡ None
  by_fault None is = stays_outside st (Resume session line answer victims) other (other_waits session other st w (right is) its none) none
  by_fault (Some first) is =
      let refused : early_refusal (resumed st w) session w.call ≡ Some (Invalid first) = fault_refuses st.fault first _ is in
      let after : after_event st (Resume session line answer victims) ≡ resumed st w =
      ap (λ (o : Option Wait). after_resumed o st session line answer victims) its ∙ ap (λ (o : Option Answer). after_call o (resumed st w) session line w.call answer victims) refused in
      ap (λ (s : Standing). active_of other s.actives) after ∙ none

-- who is found is of that session
found_is : (session : ℕ) (actives : List Active) (a : Active) → active_of session actives ≡ Some a → a.session ≡ session
found_is session [] a found = cc
found_is session (b ∷ actives) a found = by_case (b.session == session) refl (λ f. found_is session actives a f) found where
  by_case : (c : Bool) → (b.session == session) ≡ c → (active_of session actives ≡ Some a → a.session ≡ session) → cond c (Some b) (active_of session actives) ≡ Some a → a.session ≡ session
  by_case true e rest f = (let is : b ≡ a = cc in sym (ap (λ (x : Active). x.session) is) ∙ eqb-true b.session session e)
  by_case false e rest f = rest f

gone : (session : ℕ) (actives : List Active) → active_of session (without_session session actives) ≡ None
gone session [] = refl
gone session (b ∷ actives) = by_case (b.session == session) refl (gone session actives) where
  by_case : (c : Bool) → (b.session == session) ≡ c → active_of session (without_session session actives) ≡ None →
      active_of session (cond (not c) (b ∷ without_session session actives) (without_session session actives)) ≡ None
  by_case true e rest = rest
  by_case false e rest = cond-false (b.session == session) (Some b) (active_of session (without_session session actives)) e ∙ rest

-- a session that was ended has none
pub ended_outside : (st : Standing) (session : ℕ) → active_of session (after_event st (End session)).actives ≡ None
ended_outside st session = by_active (active_of session st.actives) refl where
  by_active : (o : Option Active) → active_of session st.actives ≡ o → active_of session (ended_if_any o (record st { waiting = without_wait session st.waiting })).actives ≡ None
  by_active None none = none
  by_active (Some a) found = ap (λ s. active_of session (without_session s st.actives)) (found_is session st.actives a found) ∙ gone session st.actives

-- where no session has one, none is under way
pub none_left : (most : ℕ) (actives : List Active) → AreOf (λ s. s < most) actives → ((session : ℕ) → session < most → active_of session actives ≡ None) → actives ≡ []
none_left most [] within none = refl
none_left most (a ∷ actives) within none =
    let found = none a.session within.0 in
    let is : active_of a.session (a ∷ actives) ≡ Some a = cond-true (a.session == a.session) (Some a) (active_of a.session actives) (eq-eqb a.session a.session refl) in
    (let wrong : Some a ≡ None = sym is ∙ found in cc)

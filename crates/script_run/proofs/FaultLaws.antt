-- Where no event is answered by a disk fault, an environment that is valid stays so.
use Rattle.std.proofs.Common.{◌≡◌, ℕ, ◌||◌, List, [], ◌∷◌, Option, None, Some, Bool, true, false, refl, ◌∙◌}
use Rattle.store_model.specs.declared.step.Step.{Step}
use Rattle.store_model.specs.declared.step.Step.TheVariants.{Begin as BeginStep, Flush, Finish, Sync as SyncStep}
use Rattle.store_model.specs.declared.call.Call.{Call}
use Rattle.store_model.specs.declared.call.Call.TheVariants.{Begin, Commit, Abort, List as Lists, Create, CreateIndex, Remove, Rename, Truncate, Open, Close, Dup}
use Rattle.store_model.specs.declared.change.Change.{Change}
use Rattle.store_model.specs.declared.record_change.RecordChange.{RecordChange}
use Rattle.store_model.specs.declared.need.Need.{Need}
use Rattle.store_model.specs.declared.place.Place.{Place}
use Rattle.store_model.specs.declared.victim.Victim.{Victim}
use Rattle.store_model.specs.declared.answer.Answer.{Answer}
use Rattle.store_model.specs.declared.answer.Answer.TheVariants.{Done, DatabaseInUse, LogFull, IdsEnded, DiskFault}
use Rattle.store_model.specs.declared.event.Event.{Event}
use Rattle.store_model.specs.declared.event.Event.TheVariants.{Call as Called, Resume, End, WriteOut, SyncBegin, SyncEnd, Turn}
use Rattle.store_model.specs.Journal.{answers_some, is_disk_fault}
use Rattle.store_model.specs.Records.{Evaluated}
use Rattle.store_model.specs.Evaluation.{evaluation}
use Rattle.je_answers.specs.declared.active.Active.{Active}
use Rattle.je_answers.specs.declared.wait.Wait.{Wait}
use Rattle.je_answers.specs.Standing.{Standing, active_of, wait_of, without_wait, place_at}
use Rattle.je_answers.specs.Views.{Target, target_of, changes_with, changes_named, outcome_of, needs_in, with_names}
use Rattle.je_answers.specs.Refusals.{early_refusal, late_refusal}
use Rattle.je_answers.specs.Locking.{first_blocked}
use Rattle.je_answers.specs.Events.{auto_active, begun, resumed}
use Rattle.je_answers.specs.After.{Fate, fate_of, closed, ended, all_ended, autos_in, without_waits_of, with_waiting, drawn_by, answered, with_outcome, after_fate, after_changes, after_stop, after_taking, after_on, after_run, after_commit, after_ending, ended_if_any, after_catalog, committed_if_any, opened_at, after_performed, after_evaluated, after_call, after_resumed, faulted_if, after_begin, after_turn, after_event, after_events}
use Rattle.je_answers.specs.After.Fate.{Succeeds, IsRefused, Faults}
use Rattle.je_answers.specs.Journal.{has_answer}

-- ---- one event

abbrev IsNoFault : Fate → Type 0
IsNoFault Faults = ⊥
IsNoFault fate = Unit {0}

no_fault : (answer : Answer) → is_disk_fault answer ≡ false → IsNoFault (fate_of answer)
no_fault (DatabaseInUse txn) h = tt
no_fault LogFull h = tt
no_fault IdsEnded h = tt
no_fault DiskFault h = cc
no_fault answer h = tt

closed_fault : (b : Bool) (a : Active) (changes : List Change) (st : Standing) → (closed b a changes st).fault ≡ st.fault
closed_fault true a [] st = refl
closed_fault true a (change ∷ changes) st = refl
closed_fault false a changes st = refl

fate_fault : (fate : Fate) (old st : Standing) (a : Active) (call : Call) (g : Target) (e : Evaluated) → IsNoFault fate → (after_fate fate old st a call g e).fault ≡ st.fault
fate_fault Succeeds old st a call g e ok = closed_fault a.is_auto a (with_names (changes_with st a g e.changes)) (with_outcome a call g e (answered a call g st))
fate_fault IsRefused old st a call g e ok = closed_fault a.is_auto a [] (answered a call g st)
fate_fault Faults old st a call g e ok = absurd ok

changes_fault : (changes : List RecordChange) (old st : Standing) (a : Active) (call : Call) (g : Target) (e : Evaluated) (answer : Answer) → is_disk_fault answer ≡ false →
    (after_changes changes old st a call g e answer).fault ≡ st.fault
changes_fault [] old st a call g e answer h = fate_fault Succeeds old st a call g e tt
changes_fault (change ∷ changes) old st a call g e answer h = fate_fault (fate_of answer) old st a call g e (no_fault answer h)

ended_fault : (actives : List Active) (st : Standing) → (all_ended actives st).fault ≡ st.fault
ended_fault [] st = refl
ended_fault (a ∷ actives) st = ended_fault actives (ended a st)

stop_fault : (b : Bool) (st : Standing) (a : Active) (line : ℕ) (call : Call) (g : Target) (n : Need) (victims : List Victim) → (after_stop b st a line call g n victims).fault ≡ st.fault
stop_fault false st a line call g n victims = refl
stop_fault true st a line call g n victims = ended_fault (autos_in victims st.actives) (without_waits_of victims (with_waiting st a line call g n victims))

taking_fault : (o : Option Need) (old st : Standing) (a : Active) (line : ℕ) (call : Call) (g : Target) (answer : Answer) (victims : List Victim) → is_disk_fault answer ≡ false →
    (after_taking o old st a line call g answer victims).fault ≡ st.fault
taking_fault None old st a line call g answer victims h = changes_fault (outcome_of st a call g).changes old st a call g (outcome_of st a call g) answer h
taking_fault (Some n) old st a line call g answer victims h = stop_fault a.waits st a line call g n victims

target_fault : (o : Option Target) (old st : Standing) (a : Active) (line : ℕ) (call : Call) (answer : Answer) (victims : List Victim) → st.fault ≡ old.fault → is_disk_fault answer ≡ false →
    (after_on o old st a line call answer victims).fault ≡ old.fault
target_fault None old st a line call answer victims same h = refl
target_fault (Some g) old st a line call answer victims same h = taking_fault (first_blocked a.txn (needs_in st a call g) st.locks.at) old st a line call g answer victims h ∙ same

run_fault : (o : Option Active) (st : Standing) (session line : ℕ) (call : Call) (answer : Answer) (victims : List Victim) → is_disk_fault answer ≡ false →
    (after_run o st session line call answer victims).fault ≡ st.fault
run_fault (Some a) st session line call answer victims h = target_fault (target_of st session call) st st a line call answer victims refl h
run_fault None st session line call answer victims h = target_fault (target_of st session call) st (begun st session) (auto_active st session) line call answer victims refl h

committed_fault : (changes : List Change) (st : Standing) → (committed_if_any changes st).fault ≡ st.fault
committed_fault [] st = refl
committed_fault (change ∷ changes) st = refl

commit_fault : (fate : Fate) (changes : List Change) (a : Active) (st : Standing) → IsNoFault fate → (after_commit fate changes a st).fault ≡ st.fault
commit_fault Succeeds changes a st ok = committed_fault changes st
commit_fault IsRefused changes a st ok = refl
commit_fault Faults changes a st ok = absurd ok

ending_fault : (o : Option Active) (st : Standing) (answer : Answer) → is_disk_fault answer ≡ false → (after_ending o st answer).fault ≡ st.fault
ending_fault None st answer h = refl
ending_fault (Some a) st answer h = commit_fault (fate_of answer) (changes_named st (st.own a.txn.0)) a st (no_fault answer h)

drawn_fault : (o : Option Active) (st : Standing) → (drawn_by o st).fault ≡ st.fault
drawn_fault None st = refl
drawn_fault (Some a) st = refl

catalog_fault : (fate : Fate) (changes : List Change) (o : Option Active) (st : Standing) → IsNoFault fate → (after_catalog fate changes o st).fault ≡ st.fault
catalog_fault Succeeds changes o st ok = committed_fault changes (drawn_by o st) ∙ drawn_fault o st
catalog_fault IsRefused changes o st ok = drawn_fault o st
catalog_fault Faults changes o st ok = absurd ok

abort_fault : (o : Option Active) (st : Standing) → (ended_if_any o st).fault ≡ st.fault
abort_fault None st = refl
abort_fault (Some a) st = refl

opening_fault : (o : Option Place) (to session : ℕ) (st : Standing) → (opened_at o to session st).fault ≡ st.fault
opening_fault None to session st = refl
opening_fault (Some p) to session st = refl

performed_fault : (call : Call) (st : Standing) (session line : ℕ) (answer : Answer) (victims : List Victim) → is_disk_fault answer ≡ false →
    (after_performed call st session line answer victims).fault ≡ st.fault
performed_fault (Begin level durability wait) st session line answer victims h = refl
performed_fault Commit st session line answer victims h = ending_fault (active_of session st.actives) st answer h
performed_fault Abort st session line answer victims h = abort_fault (active_of session st.actives) st
performed_fault Lists st session line answer victims h = drawn_fault (active_of session st.actives) st
performed_fault (Create db kind) st session line answer victims h =
    catalog_fault (fate_of answer) (evaluation (Create db kind) st.store).changes (active_of session st.actives) st (no_fault answer h)
performed_fault (CreateIndex db index) st session line answer victims h =
    catalog_fault (fate_of answer) (evaluation (CreateIndex db index) st.store).changes (active_of session st.actives) st (no_fault answer h)
performed_fault (Remove db) st session line answer victims h = catalog_fault (fate_of answer) (evaluation (Remove db) st.store).changes (active_of session st.actives) st (no_fault answer h)
performed_fault (Rename db to) st session line answer victims h = catalog_fault (fate_of answer) (evaluation (Rename db to) st.store).changes (active_of session st.actives) st (no_fault answer h)
performed_fault (Truncate db) st session line answer victims h = catalog_fault (fate_of answer) (evaluation (Truncate db) st.store).changes (active_of session st.actives) st (no_fault answer h)
performed_fault (Open cursor db) st session line answer victims h = refl
performed_fault (Close cursor) st session line answer victims h = refl
performed_fault (Dup cursor to) st session line answer victims h = opening_fault (place_at cursor (st.places session)) to session st
performed_fault call st session line answer victims h = run_fault (active_of session st.actives) st session line call answer victims h

evaluated_fault : (late : Option Answer) (st : Standing) (session line : ℕ) (call : Call) (answer : Answer) (victims : List Victim) → is_disk_fault answer ≡ false →
    (after_evaluated late st session line call answer victims).fault ≡ st.fault
evaluated_fault (Some refusal) st session line call answer victims h = drawn_fault (active_of session st.actives) st
evaluated_fault None st session line call answer victims h = performed_fault call st session line answer victims h

call_fault : (early : Option Answer) (st : Standing) (session line : ℕ) (call : Call) (answer : Answer) (victims : List Victim) → is_disk_fault answer ≡ false →
    (after_call early st session line call answer victims).fault ≡ st.fault
call_fault (Some refusal) st session line call answer victims h = refl
call_fault None st session line call answer victims h = evaluated_fault (late_refusal st session call) st session line call answer victims h

resumed_fault : (o : Option Wait) (st : Standing) (session line : ℕ) (answer : Answer) (victims : List Victim) → is_disk_fault answer ≡ false →
    (after_resumed o st session line answer victims).fault ≡ st.fault
resumed_fault None st session line answer victims h = refl
resumed_fault (Some w) st session line answer victims h = call_fault (early_refusal (resumed st w) session w.call) (resumed st w) session line w.call answer victims h

other_fault : (answer : Answer) (st : Standing) → is_disk_fault answer ≡ false → (faulted_if answer st).fault ≡ st.fault
other_fault DiskFault st h = cc
other_fault answer st h = refl

begin_fault : (answer : Answer) (st : Standing) → is_disk_fault answer ≡ false → (after_begin st answer).fault ≡ st.fault
begin_fault Done st h = refl
begin_fault DiskFault st h = cc
begin_fault answer st h = refl

turn_fault : (step : Step) (answer : Answer) (st : Standing) → is_disk_fault answer ≡ false → (after_turn step st answer).fault ≡ st.fault
turn_fault BeginStep Done st h = refl
turn_fault BeginStep DiskFault st h = cc
turn_fault BeginStep answer st h = refl
turn_fault Finish Done st h = refl
turn_fault Finish DiskFault st h = cc
turn_fault Finish answer st h = refl
turn_fault Flush answer st h = other_fault answer st h
turn_fault SyncStep answer st h = other_fault answer st h

event_fault : (st : Standing) (event : Event) → answers_some is_disk_fault event ≡ false → (after_event st event).fault ≡ st.fault
event_fault st (Called session line call answer victims) h = call_fault (early_refusal st session call) st session line call answer victims h
event_fault st (Resume session line answer victims) h = resumed_fault (wait_of session st.waiting) st session line answer victims h
event_fault st (End session) h = abort_fault (active_of session st.actives) (record st { waiting = without_wait session st.waiting })
event_fault st (WriteOut answer) h = other_fault answer st h
event_fault st (SyncBegin answer) h = begin_fault answer st h
event_fault st (SyncEnd answer) h = other_fault answer (record st { begun = None }) h
event_fault st (Turn line step answer) h = turn_fault step answer st h

-- ---- valid environments

pub valid_after : (st : Standing) (event : Event) → st.fault ≡ None → answers_some is_disk_fault event ≡ false → (after_event st event).fault ≡ None
valid_after st event none h = event_fault st event h ∙ none

pub or_false : (a b : Bool) → (a || b) ≡ false → (a ≡ false) × (b ≡ false)
or_false true b h = cc
or_false false b h = (refl, h)

-- and under several events
pub valid_afterwards : (st : Standing) (events : List Event) → st.fault ≡ None → has_answer is_disk_fault events ≡ false → (after_events st events).fault ≡ None
valid_afterwards st [] none h = none
valid_afterwards st (event ∷ events) none h =
    let parts = or_false (answers_some is_disk_fault event) (has_answer is_disk_fault events) h in
    valid_afterwards (after_event st event) events (valid_after st event none parts.0) parts.1

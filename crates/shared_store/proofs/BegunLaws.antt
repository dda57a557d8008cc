-- The sync that is out stays out through each event that begins and ends none.
use Rattle.std.proofs.Common.{◌≡◌, ℕ, Bool, true, false, true≢false, List, [], ◌∷◌, Option, None, Some, refl, ◌∙◌}
use Rattle.store_model.specs.declared.answer.Answer.{Answer}
use Rattle.store_model.specs.declared.answer.Answer.TheVariants.{Done, DiskFault}
use Rattle.store_model.specs.declared.call.Call.{Call}
use Rattle.store_model.specs.declared.call.Call.TheVariants.{Begin, Commit, Abort, List as Lists, Create, CreateIndex, Remove, Rename, Truncate, Open, Close, Dup}
use Rattle.store_model.specs.declared.change.Change.{Change}
use Rattle.store_model.specs.declared.event.Event.{Event}
use Rattle.store_model.specs.declared.event.Event.TheVariants.{Call as Called, Resume, End, WriteOut, SyncBegin, SyncEnd, Turn}
use Rattle.store_model.specs.declared.need.Need.{Need}
use Rattle.store_model.specs.declared.place.Place.{Place}
use Rattle.store_model.specs.declared.record_change.RecordChange.{RecordChange}
use Rattle.store_model.specs.declared.step.Step.{Step}
use Rattle.store_model.specs.declared.step.Step.TheVariants.{Begin as BeginStep, Finish}
use Rattle.store_model.specs.declared.victim.Victim.{Victim}
use Rattle.store_model.specs.Evaluation.{evaluation}
use Rattle.store_model.specs.Records.{Evaluated}
use Rattle.je_answers.specs.declared.active.Active.{Active}
use Rattle.je_answers.specs.declared.wait.Wait.{Wait}
use Rattle.je_answers.specs.Standing.{Standing, active_of, place_at, wait_of, without_wait}
use Rattle.je_answers.specs.Views.{Target, changes_named, changes_with, needs_in, outcome_of, target_of, with_names}
use Rattle.je_answers.specs.Refusals.{early_refusal, late_refusal}
use Rattle.je_answers.specs.Locking.{first_blocked}
use Rattle.je_answers.specs.Events.{auto_active, begun, resumed}
use Rattle.je_answers.specs.After.{Fate, fate_of, drawn_by, ended, ended_if_any, committed_if_any, answered, with_outcome, closed, after_fate, after_changes, all_ended, autos_in, without_waits_of, with_waiting, after_stop, after_taking, after_on, after_run, after_commit, after_ending, after_catalog, opened_at, after_performed, after_evaluated, after_call, after_resumed, faulted_if, after_turn, after_event}
use Rattle.je_answers.specs.After.Fate.{Succeeds, IsRefused, Faults}
use Rattle.engine.specs.Syncs.{is_sync}

-- the same sync is out
abbrev pub StaysOut : Standing → Standing → Type 0
StaysOut old new = new.begun ≡ old.begun

drawn : (a : Option Active) (st : Standing) → StaysOut st (drawn_by a st)
drawn None st = refl
drawn (Some a) st = refl

ended_any : (a : Option Active) (st : Standing) → StaysOut st (ended_if_any a st)
ended_any None st = refl
ended_any (Some a) st = refl

committed_any : (changes : List Change) (st : Standing) → StaysOut st (committed_if_any changes st)
committed_any [] st = refl
committed_any (change ∷ changes) st = refl

closed_auto : (is_auto : Bool) (a : Active) (changes : List Change) (st : Standing) → StaysOut st (closed is_auto a changes st)
closed_auto true a changes st = committed_any changes st
closed_auto false a changes st = refl

fated : (fate : Fate) (old st : Standing) (a : Active) (call : Call) (g : Target) (evaluated : Evaluated) → StaysOut old st → StaysOut old (after_fate fate old st a call g evaluated)
fated Succeeds old st a call g evaluated same =
    closed_auto a.is_auto a (with_names (changes_with st a g evaluated.changes)) (with_outcome a call g evaluated (answered a call g st)) ∙ same
fated IsRefused old st a call g evaluated same = closed_auto a.is_auto a [] (answered a call g st) ∙ same
fated Faults old st a call g evaluated same = refl

changed : (changes : List RecordChange) (old st : Standing) (a : Active) (call : Call) (g : Target) (evaluated : Evaluated) (answer : Answer) → StaysOut old st →
    StaysOut old (after_changes changes old st a call g evaluated answer)
changed [] old st a call g evaluated answer same = fated Succeeds old st a call g evaluated same
changed (change ∷ changes) old st a call g evaluated answer same = fated (fate_of answer) old st a call g evaluated same

all_end : (actives : List Active) (st : Standing) → StaysOut st (all_ended actives st)
all_end [] st = refl
all_end (a ∷ as_) st = all_end as_ (ended a st)

stopped : (waits : Bool) (st : Standing) (a : Active) (line : ℕ) (call : Call) (g : Target) (n : Need) (victims : List Victim) → StaysOut st (after_stop waits st a line call g n victims)
stopped false st a line call g n victims = refl
stopped true st a line call g n victims =
    let waiting = with_waiting st a line call g n victims in
    all_end (autos_in victims waiting.actives) (without_waits_of victims waiting)

taken : (need : Option Need) (old st : Standing) (a : Active) (line : ℕ) (call : Call) (g : Target) (answer : Answer) (victims : List Victim) → StaysOut old st →
    StaysOut old (after_taking need old st a line call g answer victims)
taken None old st a line call g answer victims same = changed (outcome_of st a call g).changes old st a call g (outcome_of st a call g) answer same
taken (Some n) old st a line call g answer victims same = stopped a.waits st a line call g n victims ∙ same

on : (target : Option Target) (old st : Standing) (a : Active) (line : ℕ) (call : Call) (answer : Answer) (victims : List Victim) → StaysOut old st →
    StaysOut old (after_on target old st a line call answer victims)
on None old st a line call answer victims same = refl
on (Some g) old st a line call answer victims same = taken (first_blocked a.txn (needs_in st a call g) st.locks.at) old st a line call g answer victims same

run : (active : Option Active) (st : Standing) (session line : ℕ) (call : Call) (answer : Answer) (victims : List Victim) → StaysOut st (after_run active st session line call answer victims)
run (Some a) st session line call answer victims = on (target_of st session call) st st a line call answer victims refl
run None st session line call answer victims = on (target_of st session call) st (begun st session) (auto_active st session) line call answer victims refl

commit : (fate : Fate) (changes : List Change) (a : Active) (st : Standing) → StaysOut st (after_commit fate changes a st)
commit Succeeds changes a st = committed_any changes st
commit IsRefused changes a st = refl
commit Faults changes a st = refl

ending : (a : Option Active) (st : Standing) (answer : Answer) → StaysOut st (after_ending a st answer)
ending None st answer = refl
ending (Some a) st answer = commit (fate_of answer) (changes_named st (st.own a.txn.0)) a st

catalog : (fate : Fate) (changes : List Change) (active : Option Active) (st : Standing) → StaysOut st (after_catalog fate changes active st)
catalog Succeeds changes active st = committed_any changes (drawn_by active st) ∙ drawn active st
catalog IsRefused changes active st = drawn active st
catalog Faults changes active st = refl

opens_at : (place : Option Place) (to session : ℕ) (st : Standing) → StaysOut st (opened_at place to session st)
opens_at None to session st = refl
opens_at (Some p) to session st = refl

performed : (call : Call) (st : Standing) (session line : ℕ) (answer : Answer) (victims : List Victim) → StaysOut st (after_performed call st session line answer victims)
performed (Begin level durability wait) st session line answer victims = refl
performed Commit st session line answer victims = ending (active_of session st.actives) st answer
performed Abort st session line answer victims = ended_any (active_of session st.actives) st
performed Lists st session line answer victims = drawn (active_of session st.actives) st
performed (Create db kind) st session line answer victims = catalog (fate_of answer) (evaluation (Create db kind) st.store).changes (active_of session st.actives) st
performed (CreateIndex db index) st session line answer victims = catalog (fate_of answer) (evaluation (CreateIndex db index) st.store).changes (active_of session st.actives) st
performed (Remove db) st session line answer victims = catalog (fate_of answer) (evaluation (Remove db) st.store).changes (active_of session st.actives) st
performed (Rename db to) st session line answer victims = catalog (fate_of answer) (evaluation (Rename db to) st.store).changes (active_of session st.actives) st
performed (Truncate db) st session line answer victims = catalog (fate_of answer) (evaluation (Truncate db) st.store).changes (active_of session st.actives) st
performed (Open cursor db) st session line answer victims = refl
performed (Close cursor) st session line answer victims = refl
performed (Dup cursor to) st session line answer victims = opens_at (place_at cursor (st.places session)) to session st
performed call st session line answer victims = run (active_of session st.actives) st session line call answer victims

evaluated : (refusal : Option Answer) (st : Standing) (session line : ℕ) (call : Call) (answer : Answer) (victims : List Victim) → StaysOut st (after_evaluated refusal st session line call answer victims)
evaluated (Some refusal) st session line call answer victims = drawn (active_of session st.actives) st
evaluated None st session line call answer victims = performed call st session line answer victims

called : (refusal : Option Answer) (st : Standing) (session line : ℕ) (call : Call) (answer : Answer) (victims : List Victim) → StaysOut st (after_call refusal st session line call answer victims)
called (Some refusal) st session line call answer victims = refl
called None st session line call answer victims = evaluated (late_refusal st session call) st session line call answer victims

goes_on : (wait : Option Wait) (st : Standing) (session line : ℕ) (answer : Answer) (victims : List Victim) → StaysOut st (after_resumed wait st session line answer victims)
goes_on None st session line answer victims = refl
goes_on (Some w) st session line answer victims = called (early_refusal (resumed st w) session w.call) (resumed st w) session line w.call answer victims

faults : (answer : Answer) (st : Standing) → StaysOut st (faulted_if answer st)
faults DiskFault st = refl
faults answer st = refl

turned : (step : Step) (st : Standing) (answer : Answer) → StaysOut st (after_turn step st answer)
turned BeginStep st Done = refl
turned BeginStep st answer = faults answer st
turned Finish st Done = refl
turned Finish st answer = faults answer st
turned step st answer = faults answer st

pub stays_out : (st : Standing) (event : Event) → is_sync event ≡ false → StaysOut st (after_event st event)
stays_out st (Called session line call answer victims) other = called (early_refusal st session call) st session line call answer victims
stays_out st (Resume session line answer victims) other = goes_on (wait_of session st.waiting) st session line answer victims
stays_out st (End session) other = ended_any (active_of session st.actives) (record st { waiting = without_wait session st.waiting })
stays_out st (WriteOut answer) other = faults answer st
stays_out st (SyncBegin answer) other = absurd (true≢false other)
stays_out st (SyncEnd answer) other = absurd (true≢false other)
stays_out st (Turn line step answer) other = turned step st answer

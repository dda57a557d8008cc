-- What a journal has committed, and where it leaves the store.
use Rattle.std.proofs.Common.{arith, ◌≡◌, ℕ, ◌+◌, List, [], ◌∷◌, ◌++◌, Option, None, Some, Bool, true, false, refl, ap, ap₂, sym, ◌∙◌, subst, length, append_assoc}
use Rattle.std.proofs.lemmas.List.{length-append}
use Rattle.std.proofs.lemmas.Option.{none-some}
use Rattle.std.specs.Prelude.{option_to_list}
use Rattle.store_model.specs.declared.store.Store.{Store}
use Rattle.store_model.specs.declared.step.Step.{Step}
use Rattle.store_model.specs.declared.step.Step.TheVariants.{Begin as BeginStep, Flush, Finish, Sync as SyncStep}
use Rattle.store_model.specs.declared.call.Call.{Call}
use Rattle.store_model.specs.declared.call.Call.TheVariants.{Begin, Commit, Abort, List as Lists, Create, CreateIndex, Remove, Rename, Truncate, Get, GetBoth, Put, Delete, Open, Close, Dup, Count, Cur, CPutCur, CDel, CPut}
use Rattle.store_model.specs.declared.change.Change.{Change}
use Rattle.store_model.specs.declared.record_change.RecordChange.{RecordChange}
use Rattle.store_model.specs.declared.need.Need.{Need}
use Rattle.store_model.specs.declared.place.Place.{Place}
use Rattle.store_model.specs.declared.victim.Victim.{Victim}
use Rattle.store_model.specs.declared.answer.Fault.{Fault}
use Rattle.store_model.specs.declared.answer.Fault.TheVariants.{Disk}
use Rattle.store_model.specs.declared.answer.Answer.{Answer}
use Rattle.store_model.specs.declared.answer.Answer.TheVariants.{Done, DiskFault}
use Rattle.store_model.specs.declared.event.Event.{Event}
use Rattle.store_model.specs.declared.event.Event.TheVariants.{Call as Called, Resume, End, WriteOut, SyncBegin, SyncEnd, Turn}
use Rattle.store_model.specs.Store.{store_after}
use Rattle.store_model.specs.Records.{Evaluated}
use Rattle.store_model.specs.Evaluation.{evaluation}
use Rattle.store_model.specs.Refusals.{or_refusal}
use Rattle.store_model.proofs.StoreLaws.{store_after-append}
use Rattle.je_answers.specs.declared.active.Active.{Active}
use Rattle.je_answers.specs.declared.wait.Wait.{Wait}
use Rattle.je_answers.specs.Standing.{Standing, active_of, wait_of, without_wait, place_at}
use Rattle.je_answers.specs.Views.{Target, target_of, changes_with, with_names, changes_named, outcome_of, needs_in}
use Rattle.je_answers.specs.Refusals.{fault_refusal, waits_refusal, abort_refusal, txn_refusal, early_refusal, late_refusal}
use Rattle.je_answers.specs.Locking.{first_blocked}
use Rattle.je_answers.specs.Events.{auto_active, begun, resumed}
use Rattle.je_answers.specs.After.{Fate, fate_of, closed, ended, all_ended, autos_in, without_waits_of, with_waiting, drawn_by, answered, with_outcome, after_fate, after_changes, after_stop, after_taking, after_on, after_run, after_commit, after_ending, ended_if_any, after_catalog, opened_at, after_performed, after_evaluated, after_call, after_resumed, faulted_if, after_begin, after_turn, after_event, after_events}
use Rattle.je_answers.specs.After.Fate.{Succeeds, IsRefused, Faults}
use Rattle.je_answers.specs.Journal.{logged, tried, changes_closed, changes_taken, changes_in, changes_run, changes_ended, changes_performed, changes_evaluated, changes_of, changes_resumed, changes_by, answer_by, commit_of, attempt_of, commits_of, attempts_of}
use Rattle.je_answers.specs.Laws.{CommitsMakeTheStore, AttemptsGoOn}

-- ---- one event

none_more : (n : ℕ) → n ≡ n + 0
none_more n = omega arith

some_more : (n a b c : ℕ) → c ≡ a + b → n + a + b ≡ n + c
some_more n a b c is = omega arith

-- a standing became another one by these commits
pub record IsMadeBy (old new : Standing) (commits : List (List Change)) : Type 0 where
  pub store : new.store ≡ store_after old.store commits
  pub count : new.commits ≡ old.commits + length commits

-- by none
unmade : (old new : Standing) → new.store ≡ old.store → new.commits ≡ old.commits → IsMadeBy old new []
unmade old new store commits = record { store = store; count = commits ∙ none_more old.commits }

closed_none : (b : Bool) → changes_closed b [] ≡ []
closed_none true = refl
closed_none false = refl

refused_none : (changes : List Change) → logged changes IsRefused ≡ []
refused_none [] = refl
refused_none (change ∷ changes) = refl

fault_none : (changes : List Change) → logged changes Faults ≡ []
fault_none [] = refl
fault_none (change ∷ changes) = refl

-- a call of its own transaction is closed
by_closing : (b : Bool) (a : Active) (changes : List Change) (st : Standing) → IsMadeBy st (closed b a changes st) (logged (changes_closed b changes) Succeeds)
by_closing true a [] st = unmade st (closed true a [] st) refl refl
by_closing true a (change ∷ changes) st = record { store = refl; count = refl }
by_closing false a changes st = unmade st st refl refl

closing_none : (b : Bool) (a : Active) (old st : Standing) → st.store ≡ old.store → st.commits ≡ old.commits → IsMadeBy old (closed b a [] st) []
closing_none true a old st store commits = unmade old (closed true a [] st) store commits
closing_none false a old st store commits = unmade old st store commits

by_fate : (fate : Fate) (old st : Standing) (a : Active) (call : Call) (g : Target) (e : Evaluated) → st.store ≡ old.store → st.commits ≡ old.commits →
    IsMadeBy old (after_fate fate old st a call g e) (logged (changes_closed a.is_auto (with_names (changes_with st a g e.changes))) fate)
by_fate Succeeds old st a call g e store commits =
    let made = by_closing a.is_auto a (with_names (changes_with st a g e.changes)) (with_outcome a call g e (answered a call g st)) in
    let new = logged (changes_closed a.is_auto (with_names (changes_with st a g e.changes))) Succeeds in
    record {
      store = made.store ∙ ap (λ (s : Store). store_after s new) store;
      count = made.count ∙ ap (λ (n : ℕ). n + length new) commits;
    }
by_fate IsRefused old st a call g e store commits =
    subst (IsMadeBy old (after_fate IsRefused old st a call g e)) (sym (refused_none (changes_closed a.is_auto (with_names (changes_with st a g e.changes)))))
    (closing_none a.is_auto a old (answered a call g st) store commits)
by_fate Faults old st a call g e store commits =
    subst (IsMadeBy old (after_fate Faults old st a call g e)) (sym (fault_none (changes_closed a.is_auto (with_names (changes_with st a g e.changes))))) (unmade old (after_fate Faults old st a call g e) refl refl)

by_changes : (changes : List RecordChange) (old st : Standing) (a : Active) (call : Call) (g : Target) (e : Evaluated) (answer : Answer) → e.changes ≡ changes → st.store ≡ old.store → st.commits ≡ old.commits →
    IsMadeBy old (after_changes changes old st a call g e answer) (logged (changes_closed a.is_auto (with_names (changes_with st a g e.changes))) (fate_of answer))
by_changes [] old st a call g e answer is store commits =
    let none : changes_closed a.is_auto (with_names (changes_with st a g e.changes)) ≡ [] = ap (λ (cs : List RecordChange). changes_closed a.is_auto (with_names (changes_with st a g cs))) is ∙ closed_none a.is_auto in
    subst (λ (cs : List Change). IsMadeBy old (after_changes [] old st a call g e answer) (logged cs (fate_of answer))) (sym none)
    (subst (λ (cs : List Change). IsMadeBy old (after_changes [] old st a call g e answer) (logged cs Succeeds)) none (by_fate Succeeds old st a call g e store commits))
by_changes (change ∷ changes) old st a call g e answer is store commits = by_fate (fate_of answer) old st a call g e store commits

-- victims that end leave the store as it is
ended_same : (actives : List Active) (old st : Standing) → st.store ≡ old.store → st.commits ≡ old.commits → IsMadeBy old (all_ended actives st) []
ended_same [] old st store commits = unmade old st store commits
ended_same (a ∷ actives) old st store commits = ended_same actives old (ended a st) store commits

by_stop : (b : Bool) (old st : Standing) (a : Active) (line : ℕ) (call : Call) (g : Target) (n : Need) (victims : List Victim) → st.store ≡ old.store → st.commits ≡ old.commits →
    IsMadeBy old (after_stop b st a line call g n victims) []
by_stop false old st a line call g n victims store commits = unmade old (after_stop false st a line call g n victims) store commits
by_stop true old st a line call g n victims store commits =
    ended_same (autos_in victims st.actives) old (without_waits_of victims (with_waiting st a line call g n victims)) store commits

by_taking : (o : Option Need) (old st : Standing) (a : Active) (line : ℕ) (call : Call) (g : Target) (answer : Answer) (victims : List Victim) → st.store ≡ old.store → st.commits ≡ old.commits →
    IsMadeBy old (after_taking o old st a line call g answer victims) (logged (changes_taken o st a call g) (fate_of answer))
by_taking None old st a line call g answer victims store commits =
    by_changes (outcome_of st a call g).changes old st a call g (outcome_of st a call g) answer refl store commits
by_taking (Some n) old st a line call g answer victims store commits = by_stop a.waits old st a line call g n victims store commits

by_target : (o : Option Target) (old st : Standing) (a : Active) (line : ℕ) (call : Call) (answer : Answer) (victims : List Victim) → st.store ≡ old.store → st.commits ≡ old.commits →
    IsMadeBy old (after_on o old st a line call answer victims) (logged (changes_in o st a call) (fate_of answer))
by_target None old st a line call answer victims store commits = unmade old old refl refl
by_target (Some g) old st a line call answer victims store commits = by_taking (first_blocked a.txn (needs_in st a call g) st.locks.at) old st a line call g answer victims store commits

by_run : (o : Option Active) (st : Standing) (session line : ℕ) (call : Call) (answer : Answer) (victims : List Victim) →
    IsMadeBy st (after_run o st session line call answer victims) (logged (changes_run o st session call) (fate_of answer))
by_run (Some a) st session line call answer victims = by_target (target_of st session call) st st a line call answer victims refl refl
by_run None st session line call answer victims = by_target (target_of st session call) st (begun st session) (auto_active st session) line call answer victims refl refl

by_commit : (fate : Fate) (changes : List Change) (a : Active) (st : Standing) → IsMadeBy st (after_commit fate changes a st) (logged changes fate)
by_commit Succeeds [] a st = unmade st (after_commit Succeeds [] a st) refl refl
by_commit Succeeds (change ∷ changes) a st = record { store = refl; count = refl }
by_commit IsRefused [] a st = unmade st st refl refl
by_commit IsRefused (change ∷ changes) a st = unmade st st refl refl
by_commit Faults [] a st = unmade st (after_commit Faults [] a st) refl refl
by_commit Faults (change ∷ changes) a st = unmade st (after_commit Faults (change ∷ changes) a st) refl refl

by_ending : (o : Option Active) (st : Standing) (answer : Answer) → IsMadeBy st (after_ending o st answer) (logged (changes_ended o st) (fate_of answer))
by_ending None st answer = unmade st st refl refl
by_ending (Some a) st answer = by_commit (fate_of answer) (changes_named st (st.own a.txn.0)) a st

by_catalog : (fate : Fate) (changes : List Change) (o : Option Active) (st : Standing) → IsMadeBy st (after_catalog fate changes o st) (logged changes fate)
by_catalog Succeeds [] None st = unmade st (after_catalog Succeeds [] None st) refl refl
by_catalog Succeeds [] (Some a) st = unmade st st refl refl
by_catalog Succeeds (change ∷ changes) None st = record { store = refl; count = refl }
by_catalog Succeeds (change ∷ changes) (Some a) st = record { store = refl; count = refl }
by_catalog IsRefused [] None st = unmade st (after_catalog IsRefused [] None st) refl refl
by_catalog IsRefused [] (Some a) st = unmade st st refl refl
by_catalog IsRefused (change ∷ changes) None st = unmade st (after_catalog IsRefused (change ∷ changes) None st) refl refl
by_catalog IsRefused (change ∷ changes) (Some a) st = unmade st st refl refl
by_catalog Faults [] o st = unmade st (after_catalog Faults [] o st) refl refl
by_catalog Faults (change ∷ changes) o st = unmade st (after_catalog Faults (change ∷ changes) o st) refl refl

by_drawing : (o : Option Active) (st : Standing) → IsMadeBy st (drawn_by o st) []
by_drawing None st = unmade st (drawn_by None st) refl refl
by_drawing (Some a) st = unmade st st refl refl

by_abort : (o : Option Active) (old st : Standing) → st.store ≡ old.store → st.commits ≡ old.commits → IsMadeBy old (ended_if_any o st) []
by_abort None old st store commits = unmade old st store commits
by_abort (Some a) old st store commits = unmade old (ended a st) store commits

by_opening : (o : Option Place) (to session : ℕ) (st : Standing) → IsMadeBy st (opened_at o to session st) []
by_opening None to session st = unmade st st refl refl
by_opening (Some p) to session st = unmade st (opened_at (Some p) to session st) refl refl

by_performing : (call : Call) (st : Standing) (session line : ℕ) (answer : Answer) (victims : List Victim) →
    IsMadeBy st (after_performed call st session line answer victims) (logged (changes_performed call st session) (fate_of answer))
by_performing (Begin level durability wait) st session line answer victims = unmade st (after_performed (Begin level durability wait) st session line answer victims) refl refl
by_performing Commit st session line answer victims = by_ending (active_of session st.actives) st answer
by_performing Abort st session line answer victims = by_abort (active_of session st.actives) st st refl refl
by_performing Lists st session line answer victims = by_drawing (active_of session st.actives) st
by_performing (Create db kind) st session line answer victims = by_catalog (fate_of answer) (evaluation (Create db kind) st.store).changes (active_of session st.actives) st
by_performing (CreateIndex db index) st session line answer victims = by_catalog (fate_of answer) (evaluation (CreateIndex db index) st.store).changes (active_of session st.actives) st
by_performing (Remove db) st session line answer victims = by_catalog (fate_of answer) (evaluation (Remove db) st.store).changes (active_of session st.actives) st
by_performing (Rename db to) st session line answer victims = by_catalog (fate_of answer) (evaluation (Rename db to) st.store).changes (active_of session st.actives) st
by_performing (Truncate db) st session line answer victims = by_catalog (fate_of answer) (evaluation (Truncate db) st.store).changes (active_of session st.actives) st
by_performing (Open cursor db) st session line answer victims = unmade st (after_performed (Open cursor db) st session line answer victims) refl refl
by_performing (Close cursor) st session line answer victims = unmade st (after_performed (Close cursor) st session line answer victims) refl refl
by_performing (Dup cursor to) st session line answer victims = by_opening (place_at cursor (st.places session)) to session st
by_performing (Get db key rmw) st session line answer victims = by_run (active_of session st.actives) st session line (Get db key rmw) answer victims
by_performing (GetBoth db key value rmw) st session line answer victims = by_run (active_of session st.actives) st session line (GetBoth db key value rmw) answer victims
by_performing (Put db key value mode) st session line answer victims = by_run (active_of session st.actives) st session line (Put db key value mode) answer victims
by_performing (Delete db key) st session line answer victims = by_run (active_of session st.actives) st session line (Delete db key) answer victims
by_performing (Count cursor) st session line answer victims = by_run (active_of session st.actives) st session line (Count cursor) answer victims
by_performing (Cur cursor motion rmw) st session line answer victims = by_run (active_of session st.actives) st session line (Cur cursor motion rmw) answer victims
by_performing (CPutCur cursor value) st session line answer victims = by_run (active_of session st.actives) st session line (CPutCur cursor value) answer victims
by_performing (CDel cursor) st session line answer victims = by_run (active_of session st.actives) st session line (CDel cursor) answer victims
by_performing (CPut cursor key value mode) st session line answer victims = by_run (active_of session st.actives) st session line (CPut cursor key value mode) answer victims

by_evaluation : (late : Option Answer) (st : Standing) (session line : ℕ) (call : Call) (answer : Answer) (victims : List Victim) →
    IsMadeBy st (after_evaluated late st session line call answer victims) (logged (changes_evaluated late st session call) (fate_of answer))
by_evaluation (Some refusal) st session line call answer victims = by_drawing (active_of session st.actives) st
by_evaluation None st session line call answer victims = by_performing call st session line answer victims

by_call : (early : Option Answer) (st : Standing) (session line : ℕ) (call : Call) (answer : Answer) (victims : List Victim) →
    IsMadeBy st (after_call early st session line call answer victims) (logged (changes_of early st session call) (fate_of answer))
by_call (Some refusal) st session line call answer victims = unmade st st refl refl
by_call None st session line call answer victims = by_evaluation (late_refusal st session call) st session line call answer victims

by_resuming : (o : Option Wait) (st : Standing) (session line : ℕ) (answer : Answer) (victims : List Victim) →
    IsMadeBy st (after_resumed o st session line answer victims) (logged (changes_resumed o st session) (fate_of answer))
by_resuming None st session line answer victims = unmade st st refl refl
by_resuming (Some w) st session line answer victims =
    let made = by_call (early_refusal (resumed st w) session w.call) (resumed st w) session line w.call answer victims in
    record { store = made.store; count = made.count }

by_fault : (answer : Answer) (old st : Standing) → st.store ≡ old.store → st.commits ≡ old.commits → IsMadeBy old (faulted_if answer st) []
by_fault DiskFault old st store commits = unmade old (faulted_if DiskFault st) store commits
by_fault answer old st store commits = unmade old st store commits

by_begin : (st : Standing) (answer : Answer) → IsMadeBy st (after_begin st answer) []
by_begin st Done = unmade st (after_begin st Done) refl refl
by_begin st DiskFault = unmade st (after_begin st DiskFault) refl refl
by_begin st answer = unmade st st refl refl

by_turn : (step : Step) (st : Standing) (answer : Answer) → IsMadeBy st (after_turn step st answer) []
by_turn BeginStep st Done = unmade st (after_turn BeginStep st Done) refl refl
by_turn Finish st Done = unmade st (after_turn Finish st Done) refl refl
by_turn BeginStep st answer = by_fault answer st st refl refl
by_turn Flush st answer = by_fault answer st st refl refl
by_turn Finish st answer = by_fault answer st st refl refl
by_turn SyncStep st answer = by_fault answer st st refl refl

-- an event leaves the store changed by its commit
pub by_event : (st : Standing) (event : Event) → IsMadeBy st (after_event st event) (commit_of st event)
by_event st (Called session line call answer victims) = by_call (early_refusal st session call) st session line call answer victims
by_event st (Resume session line answer victims) = by_resuming (wait_of session st.waiting) st session line answer victims
by_event st (End session) = by_abort (active_of session st.actives) st (record st { waiting = without_wait session st.waiting }) refl refl
by_event st (WriteOut answer) = by_fault answer st st refl refl
by_event st (SyncBegin answer) = by_begin st answer
by_event st (SyncEnd answer) = by_fault answer st (record st { begun = None }) refl refl
by_event st (Turn line step answer) = by_turn step st answer

-- ---- a journal

made_then : (a b c : Standing) (first second : List (List Change)) → IsMadeBy a b first → IsMadeBy b c second → IsMadeBy a c (first ++ second)
made_then a b c first second f s = record {
  store = s.store ∙ ap (λ (x : Store). store_after x second) f.store ∙ sym (store_after-append a.store first second);
  count = s.count ∙ ap (λ (n : ℕ). n + length second) f.count ∙ some_more a.commits (length first) (length second) (length (first ++ second)) (length-append first second);
}

by_events : (st : Standing) (events : List Event) → IsMadeBy st (after_events st events) (commits_of st events)
by_events st [] = unmade st st refl refl
by_events st (event ∷ events) =
    made_then st (after_event st event) (after_events (after_event st event) events) (commit_of st event) (commits_of (after_event st event) events)
    (by_event st event) (by_events (after_event st event) events)

pub commits-make_the_store : (st : Standing) (events : List Event) → CommitsMakeTheStore st events
commits-make_the_store st events = let made = by_events st events in record { store = made.store; count = made.count }

-- ---- attempts

-- behind a fault nothing is to be committed, and the fault stays
record StaysFaulted (st : Standing) (event : Event) : Type 0 where
  changes : changes_by st event ≡ []
  first : Fault
  fault : (after_event st event).fault ≡ Some first

nothing_left : (fault : Option Fault) (first : Fault) (rest : Option Answer) (st : Standing) (session : ℕ) (call : Call) → fault ≡ Some first →
    changes_of (or_refusal (fault_refusal fault) rest) st session call ≡ []
nothing_left None first rest st session call is = absurd (none-some first is)
nothing_left (Some other) first rest st session call is = refl

call_stays : (fault : Option Fault) (first : Fault) (rest : Option Answer) (st : Standing) (session line : ℕ) (call : Call) (answer : Answer) (victims : List Victim) → fault ≡ Some first →
    after_call (or_refusal (fault_refusal fault) rest) st session line call answer victims ≡ st
call_stays None first rest st session line call answer victims is = absurd (none-some first is)
call_stays (Some other) first rest st session line call answer victims is = refl

-- the refusals behind that of a fault
abbrev other_refusals : Standing → ℕ → Call → Option Answer
other_refusals st session call =
    or_refusal (waits_refusal st (active_of session st.actives)) (or_refusal (abort_refusal call (active_of session st.actives)) (txn_refusal call (active_of session st.actives)))

resume_stays : (o : Option Wait) (st : Standing) (first : Fault) (session line : ℕ) (answer : Answer) (victims : List Victim) → st.fault ≡ Some first →
    (changes_resumed o st session ≡ []) × ((after_resumed o st session line answer victims).fault ≡ Some first)
resume_stays None st first session line answer victims is = (refl, is)
resume_stays (Some w) st first session line answer victims is =
    let next = resumed st w in (
      nothing_left st.fault first (other_refusals next session w.call) next session w.call is,
      ap (λ (s : Standing). s.fault) (call_stays st.fault first (other_refusals next session w.call) next session line w.call answer victims is) ∙ is,
    )

fault_if : (answer : Answer) (st : Standing) (first : Fault) → st.fault ≡ Some first → (g : Fault) × ((faulted_if answer st).fault ≡ Some g)
fault_if DiskFault st first is = (Disk, refl)
fault_if answer st first is = (first, is)

begin_stays : (st : Standing) (first : Fault) (answer : Answer) → st.fault ≡ Some first → (g : Fault) × ((after_begin st answer).fault ≡ Some g)
begin_stays st first Done is = (first, is)
begin_stays st first DiskFault is = (Disk, refl)
begin_stays st first answer is = (first, is)

turn_stays : (step : Step) (st : Standing) (first : Fault) (answer : Answer) → st.fault ≡ Some first → (g : Fault) × ((after_turn step st answer).fault ≡ Some g)
turn_stays BeginStep st first Done is = (first, is)
turn_stays Finish st first Done is = (first, is)
turn_stays BeginStep st first answer is = fault_if answer st first is
turn_stays Flush st first answer is = fault_if answer st first is
turn_stays Finish st first answer is = fault_if answer st first is
turn_stays SyncStep st first answer is = fault_if answer st first is

end_stays : (o : Option Active) (st : Standing) (first : Fault) → st.fault ≡ Some first → (ended_if_any o st).fault ≡ Some first
end_stays None st first is = is
end_stays (Some a) st first is = is

stays : (st : Standing) (event : Event) → changes_by st event ≡ [] → (g : Fault) × ((after_event st event).fault ≡ Some g) → StaysFaulted st event
stays st event none fault = record { changes = none; first = fault.0; fault = fault.1 }

stays_faulted : (st : Standing) (first : Fault) (event : Event) → st.fault ≡ Some first → StaysFaulted st event
stays_faulted st first (Called session line call answer victims) is =
    stays st (Called session line call answer victims) (nothing_left st.fault first (other_refusals st session call) st session call is)
    (first, ap (λ (s : Standing). s.fault) (call_stays st.fault first (other_refusals st session call) st session line call answer victims is) ∙ is)
stays_faulted st first (Resume session line answer victims) is =
    let same = resume_stays (wait_of session st.waiting) st first session line answer victims is in
    stays st (Resume session line answer victims) same.0 (first, same.1)
stays_faulted st first (End session) is =
    stays st (End session) refl (first, end_stays (active_of session st.actives) (record st { waiting = without_wait session st.waiting }) first is)
stays_faulted st first (WriteOut answer) is = stays st (WriteOut answer) refl (fault_if answer st first is)
stays_faulted st first (SyncBegin answer) is = stays st (SyncBegin answer) refl (begin_stays st first answer is)
stays_faulted st first (SyncEnd answer) is = stays st (SyncEnd answer) refl (fault_if answer (record st { begun = None }) first is)
stays_faulted st first (Turn line step answer) is = stays st (Turn line step answer) refl (turn_stays step st first answer is)

-- a journal that begins behind a fault
record IsIdle (st : Standing) (events : List Event) : Type 0 where
  commits : commits_of st events ≡ []
  attempts : attempts_of st events ≡ []

idle : (st : Standing) (first : Fault) (events : List Event) → st.fault ≡ Some first → IsIdle st events
idle st first [] is = record { commits = refl; attempts = refl }
idle st first (event ∷ events) is =
    let same = stays_faulted st first event is in
    let rest = idle (after_event st event) same.first events same.fault in
    record {
      commits = ap₂ (λ (x y : List (List Change)). x ++ y) (ap (λ (cs : List Change). logged cs (answer_by event)) same.changes) rest.commits;
      attempts = ap₂ (λ (x y : List (List Change)). x ++ y) (ap (λ (cs : List Change). tried cs (answer_by event)) same.changes) rest.attempts;
    }

-- what was tried was committed, or was met by a fault
data Tries (changes : List Change) (fate : Fate) : Type 0 where
  succeeds : tried changes fate ≡ logged changes fate → Tries changes fate
  fails : (change : Change) (rest : List Change) → changes ≡ change ∷ rest → fate ≡ Faults → Tries changes fate

tries : (changes : List Change) (fate : Fate) → Tries changes fate
tries [] fate = succeeds refl
tries (change ∷ changes) Succeeds = succeeds refl
tries (change ∷ changes) IsRefused = succeeds refl
tries (change ∷ changes) Faults = fails change changes refl refl

-- where changes were to be committed and the disk failed, the environment has that fault
nothing : (change : Change) (rest : List Change) → [] ≡ change ∷ rest → ⊥
nothing change rest is = cc

closing_nothing : (b : Bool) (change : Change) (rest : List Change) → changes_closed b [] ≡ change ∷ rest → ⊥
closing_nothing b change rest is = nothing change rest (sym (closed_none b) ∙ is)

fate_faults : (fate : Fate) (old st : Standing) (a : Active) (call : Call) (g : Target) (e : Evaluated) → fate ≡ Faults → (after_fate fate old st a call g e).fault ≡ Some Disk
fate_faults Succeeds old st a call g e is = cc
fate_faults IsRefused old st a call g e is = cc
fate_faults Faults old st a call g e is = refl

changes_fault : (changes : List RecordChange) (old st : Standing) (a : Active) (call : Call) (g : Target) (e : Evaluated) (answer : Answer) (change : Change) (rest : List Change) →
    e.changes ≡ changes → changes_closed a.is_auto (with_names (changes_with st a g e.changes)) ≡ change ∷ rest → fate_of answer ≡ Faults → (after_changes changes old st a call g e answer).fault ≡ Some Disk
changes_fault [] old st a call g e answer change rest same is faults =
    absurd (closing_nothing a.is_auto change rest (sym (ap (λ (cs : List RecordChange). changes_closed a.is_auto (with_names (changes_with st a g cs))) same) ∙ is))
changes_fault (first ∷ others) old st a call g e answer change rest same is faults = fate_faults (fate_of answer) old st a call g e faults

taking_faults : (o : Option Need) (old st : Standing) (a : Active) (line : ℕ) (call : Call) (g : Target) (answer : Answer) (victims : List Victim) (change : Change) (rest : List Change) →
    changes_taken o st a call g ≡ change ∷ rest → fate_of answer ≡ Faults → (after_taking o old st a line call g answer victims).fault ≡ Some Disk
taking_faults None old st a line call g answer victims change rest is faults =
    changes_fault (outcome_of st a call g).changes old st a call g (outcome_of st a call g) answer change rest refl is faults
taking_faults (Some n) old st a line call g answer victims change rest is faults = absurd (nothing change rest is)

target_faults : (o : Option Target) (old st : Standing) (a : Active) (line : ℕ) (call : Call) (answer : Answer) (victims : List Victim) (change : Change) (rest : List Change) →
    changes_in o st a call ≡ change ∷ rest → fate_of answer ≡ Faults → (after_on o old st a line call answer victims).fault ≡ Some Disk
target_faults None old st a line call answer victims change rest is faults = absurd (nothing change rest is)
target_faults (Some g) old st a line call answer victims change rest is faults =
    taking_faults (first_blocked a.txn (needs_in st a call g) st.locks.at) old st a line call g answer victims change rest is faults

run_faults : (o : Option Active) (st : Standing) (session line : ℕ) (call : Call) (answer : Answer) (victims : List Victim) (change : Change) (rest : List Change) →
    changes_run o st session call ≡ change ∷ rest → fate_of answer ≡ Faults → (after_run o st session line call answer victims).fault ≡ Some Disk
run_faults (Some a) st session line call answer victims change rest is faults = target_faults (target_of st session call) st st a line call answer victims change rest is faults
run_faults None st session line call answer victims change rest is faults =
    target_faults (target_of st session call) st (begun st session) (auto_active st session) line call answer victims change rest is faults

commit_faults : (fate : Fate) (changes : List Change) (a : Active) (st : Standing) → fate ≡ Faults → (after_commit fate changes a st).fault ≡ Some Disk
commit_faults Succeeds changes a st is = cc
commit_faults IsRefused changes a st is = cc
commit_faults Faults changes a st is = refl

ending_faults : (o : Option Active) (st : Standing) (answer : Answer) (change : Change) (rest : List Change) → changes_ended o st ≡ change ∷ rest → fate_of answer ≡ Faults →
    (after_ending o st answer).fault ≡ Some Disk
ending_faults None st answer change rest is faults = absurd (nothing change rest is)
ending_faults (Some a) st answer change rest is faults = commit_faults (fate_of answer) (changes_named st (st.own a.txn.0)) a st faults

catalog_faults : (fate : Fate) (changes : List Change) (o : Option Active) (st : Standing) → fate ≡ Faults → (after_catalog fate changes o st).fault ≡ Some Disk
catalog_faults Succeeds changes o st is = cc
catalog_faults IsRefused changes o st is = cc
catalog_faults Faults changes o st is = refl

performing_faults : (call : Call) (st : Standing) (session line : ℕ) (answer : Answer) (victims : List Victim) (change : Change) (rest : List Change) →
    changes_performed call st session ≡ change ∷ rest → fate_of answer ≡ Faults → (after_performed call st session line answer victims).fault ≡ Some Disk
performing_faults (Begin level durability wait) st session line answer victims change rest is faults = absurd (nothing change rest is)
performing_faults Abort st session line answer victims change rest is faults = absurd (nothing change rest is)
performing_faults Lists st session line answer victims change rest is faults = absurd (nothing change rest is)
performing_faults (Open cursor db) st session line answer victims change rest is faults = absurd (nothing change rest is)
performing_faults (Close cursor) st session line answer victims change rest is faults = absurd (nothing change rest is)
performing_faults (Dup cursor to) st session line answer victims change rest is faults = absurd (nothing change rest is)
performing_faults Commit st session line answer victims change rest is faults = ending_faults (active_of session st.actives) st answer change rest is faults
performing_faults (Create db kind) st session line answer victims change rest is faults = catalog_faults (fate_of answer) (evaluation (Create db kind) st.store).changes (active_of session st.actives) st faults
performing_faults (CreateIndex db index) st session line answer victims change rest is faults = catalog_faults (fate_of answer) (evaluation (CreateIndex db index) st.store).changes (active_of session st.actives) st faults
performing_faults (Remove db) st session line answer victims change rest is faults = catalog_faults (fate_of answer) (evaluation (Remove db) st.store).changes (active_of session st.actives) st faults
performing_faults (Rename db to) st session line answer victims change rest is faults = catalog_faults (fate_of answer) (evaluation (Rename db to) st.store).changes (active_of session st.actives) st faults
performing_faults (Truncate db) st session line answer victims change rest is faults = catalog_faults (fate_of answer) (evaluation (Truncate db) st.store).changes (active_of session st.actives) st faults
performing_faults (Get db key rmw) st session line answer victims change rest is faults = run_faults (active_of session st.actives) st session line (Get db key rmw) answer victims change rest is faults
performing_faults (GetBoth db key value rmw) st session line answer victims change rest is faults = run_faults (active_of session st.actives) st session line (GetBoth db key value rmw) answer victims change rest is faults
performing_faults (Put db key value mode) st session line answer victims change rest is faults = run_faults (active_of session st.actives) st session line (Put db key value mode) answer victims change rest is faults
performing_faults (Delete db key) st session line answer victims change rest is faults = run_faults (active_of session st.actives) st session line (Delete db key) answer victims change rest is faults
performing_faults (Count cursor) st session line answer victims change rest is faults = run_faults (active_of session st.actives) st session line (Count cursor) answer victims change rest is faults
performing_faults (Cur cursor motion rmw) st session line answer victims change rest is faults = run_faults (active_of session st.actives) st session line (Cur cursor motion rmw) answer victims change rest is faults
performing_faults (CPutCur cursor value) st session line answer victims change rest is faults = run_faults (active_of session st.actives) st session line (CPutCur cursor value) answer victims change rest is faults
performing_faults (CDel cursor) st session line answer victims change rest is faults = run_faults (active_of session st.actives) st session line (CDel cursor) answer victims change rest is faults
performing_faults (CPut cursor key value mode) st session line answer victims change rest is faults = run_faults (active_of session st.actives) st session line (CPut cursor key value mode) answer victims change rest is faults

evaluation_faults : (late : Option Answer) (st : Standing) (session line : ℕ) (call : Call) (answer : Answer) (victims : List Victim) (change : Change) (rest : List Change) →
    changes_evaluated late st session call ≡ change ∷ rest → fate_of answer ≡ Faults → (after_evaluated late st session line call answer victims).fault ≡ Some Disk
evaluation_faults (Some refusal) st session line call answer victims change rest is faults = absurd (nothing change rest is)
evaluation_faults None st session line call answer victims change rest is faults = performing_faults call st session line answer victims change rest is faults

call_faults : (early : Option Answer) (st : Standing) (session line : ℕ) (call : Call) (answer : Answer) (victims : List Victim) (change : Change) (rest : List Change) →
    changes_of early st session call ≡ change ∷ rest → fate_of answer ≡ Faults → (after_call early st session line call answer victims).fault ≡ Some Disk
call_faults (Some refusal) st session line call answer victims change rest is faults = absurd (nothing change rest is)
call_faults None st session line call answer victims change rest is faults = evaluation_faults (late_refusal st session call) st session line call answer victims change rest is faults

resuming_faults : (o : Option Wait) (st : Standing) (session line : ℕ) (answer : Answer) (victims : List Victim) (change : Change) (rest : List Change) →
    changes_resumed o st session ≡ change ∷ rest → fate_of answer ≡ Faults → (after_resumed o st session line answer victims).fault ≡ Some Disk
resuming_faults None st session line answer victims change rest is faults = absurd (nothing change rest is)
resuming_faults (Some w) st session line answer victims change rest is faults =
    call_faults (early_refusal (resumed st w) session w.call) (resumed st w) session line w.call answer victims change rest is faults

event_faults : (st : Standing) (event : Event) (change : Change) (rest : List Change) → changes_by st event ≡ change ∷ rest → answer_by event ≡ Faults →
    (after_event st event).fault ≡ Some Disk
event_faults st (Called session line call answer victims) change rest is faults = call_faults (early_refusal st session call) st session line call answer victims change rest is faults
event_faults st (Resume session line answer victims) change rest is faults = resuming_faults (wait_of session st.waiting) st session line answer victims change rest is faults
event_faults st (End session) change rest is faults = absurd (nothing change rest is)
event_faults st (WriteOut answer) change rest is faults = absurd (nothing change rest is)
event_faults st (SyncBegin answer) change rest is faults = absurd (nothing change rest is)
event_faults st (SyncEnd answer) change rest is faults = absurd (nothing change rest is)
event_faults st (Turn line step answer) change rest is faults = absurd (nothing change rest is)

-- an event more, and then what the later ones come to
event_then : (st : Standing) (event : Event) (events : List Event) → Tries (changes_by st event) (answer_by event) → AttemptsGoOn (after_event st event) events → AttemptsGoOn st (event ∷ events)
event_then st event events (succeeds same) rest = (
  rest.0,
  ap₂ (λ (x y : List (List Change)). x ++ y) same rest.1
      ∙ sym (append_assoc (commit_of st event) (commits_of (after_event st event) events) (option_to_list rest.0)),
)
event_then st event events (fails change others is faults) rest =
    let none = idle (after_event st event) Disk events (event_faults st event change others is faults) in
    let no_commit : commit_of st event ≡ [] = ap₂ logged is faults in
    let one : attempt_of st event ≡ (change ∷ others) ∷ [] = ap₂ tried is faults in (
      Some (change ∷ others),
      ap₂ (λ (x y : List (List Change)). x ++ y) one none.attempts
          ∙ sym (ap₂ (λ (x y : List (List Change)). (x ++ y) ++ (change ∷ others) ∷ []) no_commit none.commits),
    )

pub attempts-go_on : (st : Standing) (events : List Event) → AttemptsGoOn st events
attempts-go_on st [] = (None, refl)
attempts-go_on st (event ∷ events) = event_then st event events (tries (changes_by st event) (answer_by event)) (attempts-go_on (after_event st event) events)

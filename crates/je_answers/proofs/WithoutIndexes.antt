-- Events that make no index leave a store without one.
use Rattle.std.proofs.Common.{◌≡◌, ℕ, List, [], ◌∷◌, Option, None, Some, Bool, true, false, refl}
use Rattle.std.specs.List.{AllByRecursion}
use Rattle.je_order.proofs.Lists.{all_append}
use Rattle.store_model.specs.declared.store.Store.{Store}
use Rattle.store_model.specs.declared.store.Database.{Database}
use Rattle.store_model.specs.declared.index.Index.{Index}
use Rattle.store_model.specs.declared.call.Call.{Call}
use Rattle.store_model.specs.declared.call.Call.TheVariants.{Commit, Create, CreateIndex, Remove, Rename, Truncate, Get, GetBoth, Put, Delete, Count, Cur, CPutCur, CDel, CPut}
use Rattle.store_model.specs.declared.change.Change.{Change}
use Rattle.store_model.specs.declared.record_change.RecordChange.{RecordChange}
use Rattle.store_model.specs.declared.record_change.RecordChange.TheVariants.{Set, Unset}
use Rattle.store_model.specs.declared.need.Need.{Need}
use Rattle.store_model.specs.declared.answer.Answer.{Answer}
use Rattle.store_model.specs.declared.event.Event.{Event}
use Rattle.store_model.specs.declared.event.Event.TheVariants.{Call as Called, Resume, End, WriteOut, SyncBegin, SyncEnd, Turn}
use Rattle.store_model.specs.Store.{database_of, change_in}
use Rattle.store_model.specs.Evaluation.{emptying, evaluation_in}
use Rattle.store_model.specs.Indexes.{MakesNoIndex, Numbered}
use Rattle.je_answers.specs.declared.active.Active.{Active}
use Rattle.je_answers.specs.declared.wait.Wait.{Wait}
use Rattle.je_answers.specs.Standing.{Standing, active_of, wait_of, database_at}
use Rattle.je_answers.specs.Views.{Target, target_of, changes_in, changes_with, with_names, changes_named, outcome_of, needs_in}
use Rattle.je_answers.specs.Refusals.{early_refusal, late_refusal}
use Rattle.je_answers.specs.Locking.{first_blocked}
use Rattle.je_answers.specs.Events.{auto_active, begun, resumed}
use Rattle.je_answers.specs.After.{Fate}
use Rattle.je_answers.specs.After.Fate.{Succeeds, IsRefused, Faults}
use Rattle.je_answers.specs.Journal.{logged, changes_closed, changes_taken, changes_in as changes_in_target, changes_run, changes_ended, changes_performed, changes_evaluated, changes_of, changes_resumed, changes_by}

-- ---- changes that make no index

record_makes_none : (db : List ℕ) (change : RecordChange) → MakesNoIndex (change_in db change)
record_makes_none db (Set at value) = tt
record_makes_none db (Unset at) = tt

pub named_make_none : (changes : List (Numbered × RecordChange)) → AllByRecursion MakesNoIndex (with_names changes)
named_make_none [] = tt
named_make_none (c ∷ changes) = (record_makes_none c.0.1.name c.1, named_make_none changes)

one_makes_none : (o : Option Database) (change : RecordChange) → AllByRecursion MakesNoIndex (changes_in o change)
one_makes_none None change = tt
one_makes_none (Some d) change = (record_makes_none d.name change, tt)

pub own_make_none : (st : Standing) (own : List (ℕ × RecordChange)) → AllByRecursion MakesNoIndex (changes_named st own)
own_make_none st [] = tt
own_make_none st (c ∷ own) =
    all_append MakesNoIndex (changes_in (database_at c.0 st) c.1) (changes_named st own) (one_makes_none (database_at c.0 st) c.1) (own_make_none st own)

closed_make_none : (b : Bool) (changes : List Change) → AllByRecursion MakesNoIndex changes → AllByRecursion MakesNoIndex (changes_closed b changes)
closed_make_none true changes h = h
closed_make_none false changes h = tt

taken_make_none : (o : Option Need) (st : Standing) (a : Active) (call : Call) (g : Target) → AllByRecursion MakesNoIndex (changes_taken o st a call g)
taken_make_none None st a call g = closed_make_none a.is_auto _ (named_make_none (changes_with st a g (outcome_of st a call g).changes))
taken_make_none (Some n) st a call g = tt

target_makes_none : (o : Option Target) (st : Standing) (a : Active) (call : Call) → AllByRecursion MakesNoIndex (changes_in_target o st a call)
target_makes_none None st a call = tt
target_makes_none (Some g) st a call = taken_make_none (first_blocked a.txn (needs_in st a call g) st.locks.at) st a call g

run_makes_none : (o : Option Active) (st : Standing) (session : ℕ) (call : Call) → AllByRecursion MakesNoIndex (changes_run o st session call)
run_makes_none (Some a) st session call = target_makes_none (target_of st session call) st a call
run_makes_none None st session call = target_makes_none (target_of st session call) (begun st session) (auto_active st session) call

ended_makes_none : (o : Option Active) (st : Standing) → AllByRecursion MakesNoIndex (changes_ended o st)
ended_makes_none None st = tt
ended_makes_none (Some a) st = own_make_none st (st.own a.txn.0)

remove_makes_none : (db : List ℕ) (store : Store) (o : Option Database) → AllByRecursion MakesNoIndex (evaluation_in (Remove db) store o).changes
remove_makes_none db store None = tt
remove_makes_none db store (Some d) = (tt, tt)

rename_makes_none : (db to : List ℕ) (store : Store) (o : Option Database) → AllByRecursion MakesNoIndex (evaluation_in (Rename db to) store o).changes
rename_makes_none db to store None = tt
rename_makes_none db to store (Some d) = (tt, tt)

emptying_makes_none : (db : List ℕ) (o : Option Index) → AllByRecursion MakesNoIndex (emptying db o).changes
emptying_makes_none db None = (tt, tt)
emptying_makes_none db (Some index) = tt

truncate_makes_none : (db : List ℕ) (store : Store) (o : Option Database) → AllByRecursion MakesNoIndex (evaluation_in (Truncate db) store o).changes
truncate_makes_none db store None = tt
truncate_makes_none db store (Some d) = emptying_makes_none db d.index

-- a call that makes no index
abbrev pub IsNoIndexing : Call → Type 0
IsNoIndexing (CreateIndex db index) = ⊥
IsNoIndexing call = Unit {0}

performed_makes_none : (call : Call) (st : Standing) (session : ℕ) → IsNoIndexing call → AllByRecursion MakesNoIndex (changes_performed call st session)
performed_makes_none Commit st session is = ended_makes_none (active_of session st.actives) st
performed_makes_none (Create db kind) st session is = (tt, tt)
performed_makes_none (CreateIndex db index) st session is = absurd is
performed_makes_none (Remove db) st session is = remove_makes_none db st.store (database_of db st.store)
performed_makes_none (Rename db to) st session is = rename_makes_none db to st.store (database_of db st.store)
performed_makes_none (Truncate db) st session is = truncate_makes_none db st.store (database_of db st.store)
performed_makes_none (Get db key rmw) st session is = run_makes_none (active_of session st.actives) st session (Get db key rmw)
performed_makes_none (GetBoth db key value rmw) st session is = run_makes_none (active_of session st.actives) st session (GetBoth db key value rmw)
performed_makes_none (Put db key value mode) st session is = run_makes_none (active_of session st.actives) st session (Put db key value mode)
performed_makes_none (Delete db key) st session is = run_makes_none (active_of session st.actives) st session (Delete db key)
performed_makes_none (Count cursor) st session is = run_makes_none (active_of session st.actives) st session (Count cursor)
performed_makes_none (Cur cursor motion rmw) st session is = run_makes_none (active_of session st.actives) st session (Cur cursor motion rmw)
performed_makes_none (CPutCur cursor value) st session is = run_makes_none (active_of session st.actives) st session (CPutCur cursor value)
performed_makes_none (CDel cursor) st session is = run_makes_none (active_of session st.actives) st session (CDel cursor)
performed_makes_none (CPut cursor key value mode) st session is = run_makes_none (active_of session st.actives) st session (CPut cursor key value mode)
performed_makes_none call st session is = tt

evaluated_makes_none : (late : Option Answer) (st : Standing) (session : ℕ) (call : Call) → IsNoIndexing call → AllByRecursion MakesNoIndex (changes_evaluated late st session call)
evaluated_makes_none (Some refusal) st session call is = tt
evaluated_makes_none None st session call is = performed_makes_none call st session is

call_makes_none : (early : Option Answer) (st : Standing) (session : ℕ) (call : Call) → IsNoIndexing call → AllByRecursion MakesNoIndex (changes_of early st session call)
call_makes_none (Some refusal) st session call is = tt
call_makes_none None st session call is = evaluated_makes_none (late_refusal st session call) st session call is

-- nor does the call that an event is of
abbrev pub MakesNone : Standing → Event → Type 0
MakesNone st (Called session line call answer victims) = IsNoIndexing call
MakesNone st (Resume session line answer victims) = (w : Wait) → wait_of session st.waiting ≡ Some w → IsNoIndexing w.call
MakesNone st event = Unit {0}

resumed_makes_none : (o : Option Wait) (st : Standing) (session : ℕ) → ((w : Wait) → o ≡ Some w → IsNoIndexing w.call) → AllByRecursion MakesNoIndex (changes_resumed o st session)
resumed_makes_none None st session is = tt
resumed_makes_none (Some w) st session is = call_makes_none (early_refusal (resumed st w) session w.call) (resumed st w) session w.call (is w refl)

event_makes_none : (st : Standing) (event : Event) → MakesNone st event → AllByRecursion MakesNoIndex (changes_by st event)
event_makes_none st (Called session line call answer victims) is = call_makes_none (early_refusal st session call) st session call is
event_makes_none st (Resume session line answer victims) is = resumed_makes_none (wait_of session st.waiting) st session is
event_makes_none st (End session) is = tt
event_makes_none st (WriteOut answer) is = tt
event_makes_none st (SyncBegin answer) is = tt
event_makes_none st (SyncEnd answer) is = tt
event_makes_none st (Turn line step answer) is = tt

logged_make_none : (changes : List Change) (fate : Fate) → AllByRecursion MakesNoIndex changes → AllByRecursion (AllByRecursion MakesNoIndex) (logged changes fate)
logged_make_none [] fate all = tt
logged_make_none (change ∷ changes) Succeeds all = (all, tt)
logged_make_none (change ∷ changes) IsRefused all = tt
logged_make_none (change ∷ changes) Faults all = tt

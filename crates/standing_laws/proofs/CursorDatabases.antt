-- A database on which a session has a cursor goes on under its name: by cases of the event, cut as after_event is.
use Rattle.std.proofs.Common.{◌≡◌, ℕ, ◌+◌, inl, inr, Bool, true, false, List, [], ◌∷◌, ◌++◌, Some, None, Option, refl, ap, sym, ◌∙◌, subst}
use Rattle.std.specs.Prelude.{length}
use Rattle.std.specs.List.{AllByRecursion}
use Rattle.std.specs.Option.{is_some}
use Rattle.std.proofs.lemmas.Bool.{both_ways}
use Rattle.std.proofs.lemmas.Option.{none-some}
use Rattle.je_order.specs.declared.txn_id.TxnId.{TxnId}
use Rattle.store_model.specs.declared.store.Database.{Database}
use Rattle.store_model.specs.declared.kind.Kind.{Kind}
use Rattle.store_model.specs.declared.index.Index.{Index}
use Rattle.store_model.specs.declared.call.Call.{Call}
use Rattle.store_model.specs.declared.call.Call.TheVariants.{Begin, Commit, Abort, List as Lists, Create, CreateIndex, Remove, Rename, Truncate, Get, GetBoth, Put, Delete, Open, Close, Dup, Count, Cur, CPutCur, CDel, CPut}
use Rattle.store_model.specs.declared.change.Change.{Change}
use Rattle.store_model.specs.declared.record_change.RecordChange.{RecordChange}
use Rattle.store_model.specs.declared.record_change.RecordChange.TheVariants.{Set as SetRecord, Unset as UnsetRecord}
use Rattle.store_model.specs.declared.place.Place.{Place}
use Rattle.store_model.specs.declared.need.Need.{Need}
use Rattle.store_model.specs.declared.victim.Victim.{Victim}
use Rattle.store_model.specs.declared.step.Step.{Step}
use Rattle.store_model.specs.declared.step.Step.TheVariants.{Begin as BeginStep, Flush, Finish, Sync as SyncStep}
use Rattle.store_model.specs.declared.answer.Answer.{Answer}
use Rattle.store_model.specs.declared.answer.Answer.TheVariants.{Done, DatabaseInUse, DiskFault, NameTaken}
use Rattle.store_model.specs.declared.event.Event.TheVariants.{Call as Called, Resume, End, WriteOut, SyncBegin, SyncEnd, Turn}
use Rattle.store_model.specs.Store.{database_of, change_in}
use Rattle.store_model.specs.Records.{Evaluated}
use Rattle.store_model.specs.Indexes.{Numbered, index_pairs}
use Rattle.store_model.specs.Evaluation.{Outcome, evaluation, evaluation_in, indexing, emptying}
use Rattle.store_model.specs.Refusals.{or_refusal, creation_refusal, taken_refusal}
use Rattle.je_answers.specs.declared.active.Active.{Active}
use Rattle.je_answers.specs.declared.wait.Wait.{Wait}
use Rattle.je_answers.specs.Standing.{Standing, active_of, wait_of, without_wait, place_at, database_at}
use Rattle.je_answers.specs.Views.{Target, target_of, changes_in, changes_with, with_names, changes_named, outcome_of, needs_in}
use Rattle.je_answers.specs.Refusals.{early_refusal, late_refusal, number_refusal, there_refusal, name_refusal, target_refusal}
use Rattle.je_answers.specs.Locking.{first_blocked, has_cursor_on, IsUnused}
use Rattle.je_answers.specs.Events.{auto_active, begun, resumed, IsExclusive, IsPerformed, IsEvaluated, IsCallAnswered, IsResumed}
use Rattle.je_answers.specs.After.{Fate, fate_of, drawn_by, ended, ended_if_any, committed_if_any, all_ended, autos_in, without_waits_of, with_waiting, answered, with_outcome, opened_at, closed, after_fate, after_changes, after_stop, after_taking, after_on, after_run, after_commit, after_ending, after_catalog, after_performed, after_evaluated, after_call, after_resumed, faulted_if, after_begin, after_turn}
use Rattle.je_answers.specs.After.Fate.{Succeeds, IsRefused, Faults}
use Rattle.standing_laws.specs.Right.{IsUnder, HasCursorOn}
use Rattle.standing_laws.specs.Laws.{CursorsKeepDatabases}
use Rattle.standing_laws.proofs.NamedDatabases.{IsOther, IsOfRecord, under_all, under_indexed, under_made, under_removed, under_renamed, under_emptied}

-- ---- changes of records

of_record : (db : List ℕ) (change : RecordChange) → IsOfRecord (change_in db change)
of_record db (SetRecord at value) = tt
of_record db (UnsetRecord at) = tt

pub all_with : (changes : List (Numbered × RecordChange)) → AllByRecursion IsOfRecord (with_names changes)
all_with [] = tt
all_with (c ∷ changes) = (of_record c.0.1.name c.1, all_with changes)

all_in : (o : Option Database) (change : RecordChange) (more : List Change) → AllByRecursion IsOfRecord more → AllByRecursion IsOfRecord (changes_in o change ++ more)
all_in None change more all = all
all_in (Some d) change more all = (of_record d.name change, all)

pub all_named : (st : Standing) (own : List (ℕ × RecordChange)) → AllByRecursion IsOfRecord (changes_named st own)
all_named st [] = tt
all_named st (c ∷ own) = all_in (database_at c.0 st) c.1 (changes_named st own) (all_named st own)

module _ (number : ℕ) (name : List ℕ) (kind : Kind) where
  abbrev pub Keeps : Standing → Type 0
  Keeps st = IsUnder st number name kind

  -- ---- small steps

  under_committed : (changes : List Change) (st : Standing) → AllByRecursion IsOfRecord changes → Keeps st → Keeps (committed_if_any changes st)
  under_committed [] st all u = u
  under_committed (change ∷ changes) st all u = under_all (change ∷ changes) st.store st.last_db st.numbers number name kind all u

  under_drawn : (o : Option Active) (st : Standing) → Keeps st → Keeps (drawn_by o st)
  under_drawn None st u = u
  under_drawn (Some a) st u = u

  under_any_ended : (o : Option Active) (st : Standing) → Keeps st → Keeps (ended_if_any o st)
  under_any_ended None st u = u
  under_any_ended (Some a) st u = u

  under_all_ended : (as_ : List Active) (st : Standing) → Keeps st → Keeps (all_ended as_ st)
  under_all_ended [] st u = u
  under_all_ended (a ∷ as_) st u = under_all_ended as_ (ended a st) u

  -- ---- a call on records

  under_closed : (b : Bool) (a : Active) (changes : List Change) (st : Standing) → AllByRecursion IsOfRecord changes → Keeps st → Keeps (closed b a changes st)
  under_closed true a changes st all u = under_committed changes st all u
  under_closed false a changes st all u = u

  under_fate : (fate : Fate) (old st : Standing) (a : Active) (call : Call) (g : Target) (evaluated : Evaluated) → Keeps old → Keeps st → Keeps (after_fate fate old st a call g evaluated)
  under_fate Succeeds old st a call g evaluated before u = under_closed a.is_auto a (with_names (changes_with st a g evaluated.changes)) (with_outcome a call g evaluated (answered a call g st)) (all_with (changes_with st a g evaluated.changes)) u
  under_fate IsRefused old st a call g evaluated before u = under_closed a.is_auto a [] (answered a call g st) tt u
  under_fate Faults old st a call g evaluated before u = before

  under_changes : (changes : List RecordChange) (old st : Standing) (a : Active) (call : Call) (g : Target) (evaluated : Evaluated) (answer : Answer) → Keeps old → Keeps st → Keeps (after_changes changes old st a call g evaluated answer)
  under_changes [] old st a call g evaluated answer before u = under_fate Succeeds old st a call g evaluated before u
  under_changes (change ∷ changes) old st a call g evaluated answer before u = under_fate (fate_of answer) old st a call g evaluated before u

  under_stop : (b : Bool) (st : Standing) (a : Active) (line : ℕ) (call : Call) (g : Target) (n : Need) (vs : List Victim) → Keeps st → Keeps (after_stop b st a line call g n vs)
  under_stop false st a line call g n vs u = u
  under_stop true st a line call g n vs u = under_all_ended (autos_in vs st.actives) (without_waits_of vs (with_waiting st a line call g n vs)) u

  under_taking : (o : Option Need) (old st : Standing) (a : Active) (line : ℕ) (call : Call) (g : Target) (answer : Answer) (vs : List Victim) → Keeps old → Keeps st → Keeps (after_taking o old st a line call g answer vs)
  under_taking None old st a line call g answer vs before u = under_changes (outcome_of st a call g).changes old st a call g (outcome_of st a call g) answer before u
  under_taking (Some n) old st a line call g answer vs before u = under_stop a.waits st a line call g n vs u

  under_on : (o : Option Target) (old st : Standing) (a : Active) (line : ℕ) (call : Call) (answer : Answer) (vs : List Victim) → Keeps old → Keeps st → Keeps (after_on o old st a line call answer vs)
  under_on None old st a line call answer vs before u = before
  under_on (Some g) old st a line call answer vs before u = under_taking (first_blocked a.txn (needs_in st a call g) st.locks.at) old st a line call g answer vs before u

  under_run : (o : Option Active) (st : Standing) (session line : ℕ) (call : Call) (answer : Answer) (vs : List Victim) → Keeps st → Keeps (after_run o st session line call answer vs)
  under_run (Some a) st session line call answer vs u = under_on (target_of st session call) st st a line call answer vs u u
  under_run None st session line call answer vs u = under_on (target_of st session call) st (begun st session) (auto_active st session) line call answer vs u u

  -- ---- the other calls

  under_commit : (fate : Fate) (changes : List Change) (a : Active) (st : Standing) → AllByRecursion IsOfRecord changes → Keeps st → Keeps (after_commit fate changes a st)
  under_commit Succeeds changes a st all u = under_committed changes st all u
  under_commit IsRefused changes a st all u = u
  under_commit Faults changes a st all u = u

  under_ending : (o : Option Active) (st : Standing) (answer : Answer) → Keeps st → Keeps (after_ending o st answer)
  under_ending None st answer u = u
  under_ending (Some a) st answer u = under_commit (fate_of answer) (changes_named st (st.own a.txn.0)) a st (all_named st (st.own a.txn.0)) u

  under_opened : (o : Option Place) (to session : ℕ) (st : Standing) → Keeps st → Keeps (opened_at o to session st)
  under_opened None to session st u = u
  under_opened (Some p) to session st u = u

  -- ---- changes of the catalog

  -- what the changes keep, they keep where a number was drawn before
  under_catalog : (fate : Fate) (changes : List Change) (o : Option Active) (st : Standing) → (fate ≡ Succeeds → Keeps (committed_if_any changes (drawn_by o st))) → Keeps st → Keeps (after_catalog fate changes o st)
  under_catalog Succeeds changes o st done u = done refl
  under_catalog IsRefused changes o st done u = under_drawn o st u
  under_catalog Faults changes o st done u = u

  -- the name of a database that is there is none that is free
  other_name : (st : Standing) (db : List ℕ) → Keeps st → is_some (database_of db st.store) ≡ false → IsOther name db
  other_name st db u free e = both_ways (is_some (database_of db st.store)) free (ap (λ (n : List ℕ). is_some (database_of n st.store)) (sym e) ∙ ap is_some u.its)

  free_name : (taken : Bool) (count : ℕ) → creation_refusal taken count ≡ None → taken ≡ false
  free_name true count h = absurd (none-some NameTaken (sym h))
  free_name false count h = refl

  free_to : (taken : Bool) → taken_refusal taken ≡ None → taken ≡ false
  free_to true h = absurd (none-some NameTaken (sym h))
  free_to false h = refl

  or_none : (a b : Option Answer) → or_refusal a b ≡ None → (a ≡ None) × (b ≡ None)
  or_none None b h = (refl, h)
  or_none (Some x) b h = absurd (none-some x (sym h))

  late_name : (st : Standing) (session : ℕ) (call : Call) → late_refusal st session call ≡ None → name_refusal st session call ≡ None
  late_name st session call h =
      let a = or_none (number_refusal st.last_txn (active_of session st.actives)) _ h in
      let b = or_none (there_refusal st session call) _ a.1 in
      (or_none (name_refusal st session call) (target_refusal call (target_of st session call)) b.1).0

  -- and a database that a cursor is on is none that nobody uses
  other_unused : (st : Standing) (db : List ℕ) → Keeps st → HasCursorOn st number → IsUnused st (st.numbers db) → IsOther name db
  other_unused st db u has unused e =
      both_ways (has_cursor_on (st.numbers db) (st.places has.0)) (unused.cursors has.0) (subst (λ (n : ℕ). has_cursor_on n (st.places has.0) ≡ true) (sym u.number_is ∙ ap st.numbers e) has.1)

  not_refused : (t : TxnId) → fate_of (DatabaseInUse t) ≡ Succeeds → ⊥
  not_refused t e = cc

  -- a change of the catalog that is answered so that it is made found the database unused
  exclusive : (st : Standing) (db : List ℕ) (outcome : Outcome) (limit : Option Answer) (answer : Answer) → IsExclusive (st.numbers db) outcome limit st answer → fate_of answer ≡ Succeeds → IsUnused st (st.numbers db)
  exclusive st db outcome limit answer (inl h) e = h.0
  exclusive st db outcome limit answer (inr (inl h)) e = absurd (not_refused h.0 (ap fate_of (sym h.2) ∙ e))
  exclusive st db outcome limit answer (inr (inr h)) e = absurd (not_refused h.0 (ap fate_of (sym h.2) ∙ e))

  made : (o : Option Active) (st : Standing) (db : List ℕ) (its : Kind) → IsOther name db → Keeps st → Keeps (committed_if_any (evaluation (Create db its) st.store).changes (drawn_by o st))
  made None st db its other u = under_made st.store st.numbers number (st.last_db + 1) name kind its db other u
  made (Some a) st db its other u = under_made st.store st.numbers number (st.last_db + 1) name kind its db other u

  removed : (d : Option Database) (o : Option Active) (st : Standing) (db : List ℕ) → IsOther name db → Keeps st → Keeps (committed_if_any (evaluation_in (Remove db) st.store d).changes (drawn_by o st))
  removed None o st db other u = under_drawn o st u
  removed (Some d) None st db other u = under_removed st.store st.numbers number name kind db other u
  removed (Some d) (Some a) st db other u = under_removed st.store st.numbers number name kind db other u

  renamed : (d : Option Database) (o : Option Active) (st : Standing) (db to : List ℕ) → IsOther name db → IsOther name to → Keeps st → Keeps (committed_if_any (evaluation_in (Rename db to) st.store d).changes (drawn_by o st))
  renamed None o st db to other free u = under_drawn o st u
  renamed (Some d) None st db to other free u = under_renamed st.store st.numbers number name kind db to other free u
  renamed (Some d) (Some a) st db to other free u = under_renamed st.store st.numbers number name kind db to other free u

  emptied : (d : Option Database) (o : Option Active) (st : Standing) (db : List ℕ) → IsOther name db → Keeps st → Keeps (committed_if_any (evaluation_in (Truncate db) st.store d).changes (drawn_by o st))
  emptied None o st db other u = under_drawn o st u
  emptied (Some d) o st db other u = by_index d.index o
    where
      by_index : (index : Option Index) (active : Option Active) → Keeps (committed_if_any (emptying db index).changes (drawn_by active st))
      by_index None None = under_emptied st.store st.numbers number (st.last_db + 1) name kind db other u
      by_index None (Some a) = under_emptied st.store st.numbers number (st.last_db + 1) name kind db other u
      by_index (Some index) active = under_drawn active st u

  indexed : (d : Option Database) (o : Option Active) (st : Standing) (db : List ℕ) (index : Index) → IsOther name db → Keeps st → Keeps (committed_if_any (indexing db index d).changes (drawn_by o st))
  indexed None o st db index other u = under_drawn o st u
  indexed (Some d) None st db index other u = under_indexed st.store st.last_db st.numbers number name kind db index (index_pairs index.extract d.pairs) other u
  indexed (Some d) (Some a) st db index other u = under_indexed st.store st.last_db st.numbers number name kind db index (index_pairs index.extract d.pairs) other u

  -- ---- a call

  under_performed : (call : Call) (limit : Option Answer) (st : Standing) (session line : ℕ) (answer : Answer) (vs : List Victim) → HasCursorOn st number → late_refusal st session call ≡ None
      → IsPerformed call limit st session line answer vs → Keeps st → Keeps (after_performed call st session line answer vs)
  under_performed (Begin level durability wait) limit st session line answer vs has late is u = u
  under_performed Commit limit st session line answer vs has late is u = under_ending (active_of session st.actives) st answer u
  under_performed Abort limit st session line answer vs has late is u = under_any_ended (active_of session st.actives) st u
  under_performed Lists limit st session line answer vs has late is u = under_drawn (active_of session st.actives) st u
  under_performed (Create db its) limit st session line answer vs has late is u =
      under_catalog (fate_of answer) (evaluation (Create db its) st.store).changes (active_of session st.actives) st
      (λ e. made (active_of session st.actives) st db its (other_name st db u (free_name (is_some (database_of db st.store)) (length st.store.databases) (late_name st session (Create db its) late))) u) u
  under_performed (CreateIndex db index) limit st session line answer vs has late is u =
      under_catalog (fate_of answer) (evaluation (CreateIndex db index) st.store).changes (active_of session st.actives) st
      (λ e. indexed (database_of index.primary st.store) (active_of session st.actives) st db index
      (other_name st db u (free_name (is_some (database_of db st.store)) (length st.store.databases) (late_name st session (CreateIndex db index) late))) u) u
  under_performed (Remove db) limit st session line answer vs has late is u =
      under_catalog (fate_of answer) (evaluation (Remove db) st.store).changes (active_of session st.actives) st
      (λ e. removed (database_of db st.store) (active_of session st.actives) st db (other_unused st db u has (exclusive st db (evaluation (Remove db) st.store) limit answer is.0 e)) u) u
  under_performed (Rename db to) limit st session line answer vs has late is u =
      under_catalog (fate_of answer) (evaluation (Rename db to) st.store).changes (active_of session st.actives) st
      (λ e. renamed (database_of db st.store) (active_of session st.actives) st db to (other_unused st db u has (exclusive st db (evaluation (Rename db to) st.store) limit answer is.0 e))
      (other_name st to u (free_to (is_some (database_of to st.store)) (late_name st session (Rename db to) late))) u) u
  under_performed (Truncate db) limit st session line answer vs has late is u =
      under_catalog (fate_of answer) (evaluation (Truncate db) st.store).changes (active_of session st.actives) st
      (λ e. emptied (database_of db st.store) (active_of session st.actives) st db (other_unused st db u has (exclusive st db (evaluation (Truncate db) st.store) limit answer is.0 e)) u) u
  under_performed (Open cursor db) limit st session line answer vs has late is u = u
  under_performed (Close cursor) limit st session line answer vs has late is u = u
  under_performed (Dup cursor to) limit st session line answer vs has late is u = under_opened (place_at cursor (st.places session)) to session st u
  under_performed (Get db key rmw) limit st session line answer vs has late is u = under_run (active_of session st.actives) st session line (Get db key rmw) answer vs u
  under_performed (GetBoth db key value rmw) limit st session line answer vs has late is u = under_run (active_of session st.actives) st session line (GetBoth db key value rmw) answer vs u
  under_performed (Put db key value mode) limit st session line answer vs has late is u = under_run (active_of session st.actives) st session line (Put db key value mode) answer vs u
  under_performed (Delete db key) limit st session line answer vs has late is u = under_run (active_of session st.actives) st session line (Delete db key) answer vs u
  under_performed (Count cursor) limit st session line answer vs has late is u = under_run (active_of session st.actives) st session line (Count cursor) answer vs u
  under_performed (Cur cursor motion rmw) limit st session line answer vs has late is u = under_run (active_of session st.actives) st session line (Cur cursor motion rmw) answer vs u
  under_performed (CPutCur cursor value) limit st session line answer vs has late is u = under_run (active_of session st.actives) st session line (CPutCur cursor value) answer vs u
  under_performed (CDel cursor) limit st session line answer vs has late is u = under_run (active_of session st.actives) st session line (CDel cursor) answer vs u
  under_performed (CPut cursor key value mode) limit st session line answer vs has late is u = under_run (active_of session st.actives) st session line (CPut cursor key value mode) answer vs u

  pub under_evaluated : (o : Option Answer) (limit : Option Answer) (st : Standing) (session line : ℕ) (call : Call) (answer : Answer) (vs : List Victim) → late_refusal st session call ≡ o → HasCursorOn st number
      → IsEvaluated o limit st session line call answer vs → Keeps st → Keeps (after_evaluated o st session line call answer vs)
  under_evaluated (Some refusal) limit st session line call answer vs late has is u = under_drawn (active_of session st.actives) st u
  under_evaluated None limit st session line call answer vs late has is u = under_performed call limit st session line answer vs has late is u

  under_call : (o : Option Answer) (limit : Option Answer) (st : Standing) (session line : ℕ) (call : Call) (answer : Answer) (vs : List Victim) → HasCursorOn st number
      → IsCallAnswered o limit st session line call answer vs → Keeps st → Keeps (after_call o st session line call answer vs)
  under_call (Some refusal) limit st session line call answer vs has is u = u
  under_call None limit st session line call answer vs has is u = under_evaluated (late_refusal st session call) limit st session line call answer vs refl has is u

  -- ---- the other events

  under_resumed : (o : Option Wait) (limit : Option Answer) (st : Standing) (session line : ℕ) (answer : Answer) (vs : List Victim) → HasCursorOn st number → IsResumed o limit st session line answer vs → Keeps st
      → Keeps (after_resumed o st session line answer vs)
  under_resumed None limit st session line answer vs has is u = u
  under_resumed (Some w) limit st session line answer vs has is u = under_call (early_refusal (resumed st w) session w.call) limit (resumed st w) session line w.call answer vs has is.2 u

  under_faulted : (answer : Answer) (st : Standing) → Keeps st → Keeps (faulted_if answer st)
  under_faulted DiskFault st u = u
  under_faulted answer st u = u

  under_begin : (answer : Answer) (st : Standing) → Keeps st → Keeps (after_begin st answer)
  under_begin Done st u = u
  under_begin DiskFault st u = u
  under_begin answer st u = u

  under_turn : (step : Step) (answer : Answer) (st : Standing) → Keeps st → Keeps (after_turn step st answer)
  under_turn BeginStep Done st u = u
  under_turn Finish Done st u = u
  under_turn BeginStep answer st u = under_faulted answer st u
  under_turn Finish answer st u = under_faulted answer st u
  under_turn Flush answer st u = under_faulted answer st u
  under_turn SyncStep answer st u = under_faulted answer st u

pub cursors_keep-databases : CursorsKeepDatabases
cursors_keep-databases limit st (Called session line call answer victims) number name kind has is u = under_call number name kind (early_refusal st session call) limit st session line call answer victims has is u
cursors_keep-databases limit st (Resume session line answer victims) number name kind has is u = under_resumed number name kind (wait_of session st.waiting) limit st session line answer victims has is u
cursors_keep-databases limit st (End session) number name kind has is u = under_any_ended number name kind (active_of session st.actives) (record st { waiting = without_wait session st.waiting }) u
cursors_keep-databases limit st (WriteOut answer) number name kind has is u = under_faulted number name kind answer st u
cursors_keep-databases limit st (SyncBegin answer) number name kind has is u = under_begin number name kind answer st u
cursors_keep-databases limit st (SyncEnd answer) number name kind has is u = under_faulted number name kind answer (record st { begun = None }) u
cursors_keep-databases limit st (Turn line step answer) number name kind has is u = under_turn number name kind step answer st u

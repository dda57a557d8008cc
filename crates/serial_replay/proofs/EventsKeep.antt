-- Each event keeps what holds of the calls: by cases of the event, cut as after_event is.
use Rattle.std.proofs.Common.{◌≡◌, ◌≤◌, ◌<◌, ◌+◌, ◌⊎◌, inl, inr, ℕ, ◌==◌, Bool, true, false, cond, ◌&&◌, ◌||◌, List, [], ◌∷◌, ◌++◌, Option, None, Some, refl, ap, sym, ◌∙◌, subst, ⊎_elim, arith, nat_lt, is_some}
use Rattle.std.specs.List.{list_any, AllByRecursion}
use Rattle.std.specs.Option.{is_none}
use Rattle.je_order.specs.Order.{is_same_bytes}
use Rattle.std.proofs.lemmas.Bool.{cases_Bool, cond-true, cond-false, both_ways, eqb-true}
use Rattle.je_order.specs.declared.txn_id.TxnId.{TxnId}
use Rattle.je_order.specs.Transactions.{is_same_txn}
use Rattle.je_order.proofs.TxnIds.{same_is}
use Rattle.lock_table.specs.declared.record_id.RecordId.{RecordId}
use Rattle.store_model.specs.declared.store.TheConstants.{LAST_TXN}
use Rattle.store_model.specs.declared.kind.Kind.{Kind}
use Rattle.store_model.specs.declared.call.Call.{Call}
use Rattle.store_model.specs.declared.call.Call.TheVariants.{Begin, Commit, Abort, List as Lists, Create, CreateIndex, Remove, Rename, Truncate, Get, GetBoth, Put, Delete, Open, Close, Dup, Count, Cur, CPutCur, CDel, CPut}
use Rattle.store_model.specs.declared.store.Database.{Database}
use Rattle.store_model.specs.declared.index.Index.{Index}
use Rattle.store_model.specs.declared.change.Change.{Change}
use Rattle.store_model.specs.declared.change.Change.TheVariants.{Make, MakeIndex as MadeIndex, Remove as Removed, Rename as Renamed, Empty}
use Rattle.store_model.specs.declared.record_change.RecordChange.{RecordChange}
use Rattle.store_model.specs.declared.need.Need.{Need}
use Rattle.store_model.specs.declared.victim.Victim.{Victim}
use Rattle.store_model.specs.declared.step.Step.{Step}
use Rattle.store_model.specs.declared.step.Step.TheVariants.{Begin as BeginStep, Flush, Finish, Sync as SyncStep}
use Rattle.store_model.specs.declared.answer.Fault.{Fault}
use Rattle.store_model.specs.declared.answer.Answer.{Answer}
use Rattle.store_model.specs.declared.answer.Answer.TheVariants.{Done, Logged, Rec, NoPosition, DiskFault}
use Rattle.store_model.specs.declared.event.Event.{Event}
use Rattle.store_model.specs.declared.event.Event.TheVariants.{Call as Called, Resume, End, WriteOut, SyncBegin, SyncEnd, Turn}
use Rattle.store_model.specs.Store.{Pair, IsStore, database_of, new_database, databases_renamed, changed}
use Rattle.store_model.proofs.StoreLaws.{changed_is_right}
use Rattle.store_model.specs.Records.{Evaluated, evaluation as evaluation_of}
use Rattle.store_model.specs.Indexes.{is_index_of, index_pairs}
use Rattle.store_model.specs.declared.extract.Extract.{Extract}
use Rattle.store_model.specs.declared.kind.Kind.TheVariants.{Plain, Dup as DupKind}
use Rattle.store_model.specs.Evaluation.{Outcome, evaluation, evaluation_in, emptying, indexing}
use Rattle.store_model.specs.Refusals.{or_refusal, creation_refusal, access_refusal, taken_refusal, indexed_refusal, index_refusal, database_refuses, is_plain, is_primary, made_by, next_txn}
use Rattle.je_answers.specs.declared.active.Active.{Active}
use Rattle.je_answers.specs.declared.wait.Wait.{Wait}
use Rattle.store_model.specs.declared.place.Place.{Place}
use Rattle.je_answers.specs.Standing.{Standing, place_at, active_of, wait_of, without_wait, database_at, with_number, numbered}
use Rattle.je_answers.specs.Views.{Target, target_at, target_of, view_in, view_of, changes_with, with_names, changes_named, needs_in, outcome_of}
use Rattle.je_answers.specs.Refusals.{waits_refusal, txn_refusal, early_refusal, late_refusal, number_refusal, there_refusal, name_refusal, target_refusal}
use Rattle.je_answers.specs.Locking.{IsUnused, first_blocked, owner_before}
use Rattle.je_answers.specs.Events.{log_limit, auto_active, begun, due, waiting_answer, cycle_of, lock_target, queues_before, resumed, IsLogged, IsDone, IsWaiting, IsStopped, IsTaken, IsOn, IsRun, IsExclusive, IsPerformed, IsEvaluated, IsCallAnswered, IsReady, IsResumed, IsAnswered}
use Rattle.je_answers.specs.After.{Fate, fate_of, drawn_by, faulted, committed_if_any, ended, ended_if_any, closed, with_outcome, answered, after_fate, after_changes, after_taking, after_on, after_run, after_commit, after_ending, after_catalog, after_performed, after_evaluated, after_call, after_resumed, faulted_if, after_begin, after_end, after_turn, after_event}
use Rattle.je_answers.specs.After.Fate.{Succeeds, IsRefused, Faults}
use Rattle.standing_laws.specs.Right.{AreSound, AreRight, MayWait, is_active, txn_id}
use Rattle.standing_laws.specs.Laws.{AreBare}
use Rattle.standing_laws.proofs.StandingsBare.{begun_is-bare}
use Rattle.standing_laws.proofs.Among.{IsAmong, all_at, any_some, among_append, among_second, found_is, its_session}
use Rattle.standing_laws.proofs.Moves.{begun_found, drawn_untold}
use Rattle.standing_laws.proofs.StandingsStay.{MayRun, may_run, early_parts, has_number, late_number, next_is, begun_is-right, resumed_is-right, no_active}
use Rattle.serial_replay.specs.Replay.{AnsweredCall, is_of_cursors, is_on_records, is_evaluated, name_on, cursor_of, told_if, told_within, told_of, told_resumed, told_by, with_told}
use Rattle.serial_replay.proofs.Filling.{puts_in, filled, up_filled, index_made}
use Rattle.serial_replay.proofs.Stores.{Numbers, Over, over_by, Base, base_of, pairs_of, based, base_at, pairs_at, numbered_in, same_bytes, bytes_exact, number_of_found, AreNumbered, found_there}
use Rattle.serial_replay.proofs.Keeping.{IsUsedBy, IsWell, KeepsOf, IsKnown}
use Rattle.serial_replay.proofs.Ending.{IsOfRecords, same_numbers, none_made, end_is, known_end}
use Rattle.serial_replay.proofs.Told.{none_told, numbered_le}
use Rattle.serial_replay.proofs.Quiet.{as_before, known_quiet, same_locks, same_places}
use Rattle.serial_replay.proofs.CatalogSteps.{IsCatalogStep, none_up, known_catalog, with_it, IsOfNew, used_other, IsDone as IsCatalogDone, made_done, removed_done, renamed_done, emptied_done}
use Rattle.serial_replay.proofs.Replies.{early_other, late_other, limit_is, evaluated_succeeds, not_told, not_on_records, auto_untold, is_told}
use Rattle.serial_replay.proofs.Calls.{is_own, own_evaluated, IsLost, comes_evaluated}
use Rattle.serial_replay.proofs.Through.{records_number, answered_by, lost_answer, IsFound, found_target}
use Rattle.serial_replay.proofs.SeenIndexes.{has_records}
use Rattle.serial_replay.proofs.Places.{on_records, IsAtCursor, IsTargetOf}
use Rattle.serial_replay.proofs.Cursors.{known_opened, known_closed, known_copied}
use Rattle.serial_replay.proofs.EventSteps.{as_told, same_known, faulted_known, target_facts, known_ended, known_stop, known_done, known_lost, known_refused, known_committed}

-- ---- what a call that is stopped answers

waiting_other : (o : Option (List TxnId)) (at : _) (owner : TxnId) → is_evaluated (waiting_answer o at owner) ≡ false
waiting_other None at owner = refl
waiting_other (Some cycle) at owner = refl

stopped_other : (o : Option TxnId) (b : Bool) (st : Standing) (a : Active) (line : ℕ) (call : Call) (g : Target) (n : Need) (answer : Answer) (vs : List Victim) → a.waits ≡ b → IsStopped o st a line call g n answer vs → is_evaluated answer ≡ false
stopped_other None b st a line call g n answer vs e is = absurd is
stopped_other (Some owner) b st a line call g n answer vs e is = by b (subst (λ (x : Bool). IsWaiting x st a line call g n owner answer vs) e is)
  where
    by : (x : Bool) → IsWaiting x st a line call g n owner answer vs → is_evaluated answer ≡ false
    by false h = ap is_evaluated h.0
    by true h = ap is_evaluated h.3 ∙ waiting_other (cycle_of a.txn h.0) (lock_target g n) owner

-- ---- a call on records

own_through : (o : Over) (records : List Pair) (answer : Answer) → is_own answer ≡ true → is_evaluated (answered_by o records answer) ≡ true
own_through None records answer h = own_evaluated answer h
own_through (Some o) records (Rec key value) h = refl
own_through (Some o) records answer h = own_evaluated answer h

may_tell : (call : Call) → MayWait call → (is_of_cursors call || is_on_records call) ≡ true
may_tell call may = let k = on_records call may in ap (λ (b : Bool). b || is_on_records call) k.0 ∙ k.1

module _ (limit : Option Answer) (old st : Standing) (a : Active) (line : ℕ) (call : Call) (g : Target) (told : List AnsweredCall) (answer : Answer) (vs : List Victim) (o : Option AnsweredCall) (may : MayWait call) (m : MayRun st a) (known : IsKnown st told)
    (on : IsTargetOf st a call g) (bare : a.is_auto ≡ true → st.own a.txn.0 ≡ []) (named : a.is_auto ≡ false → name_on (target_of st a.session call) ≡ g.database.name) (sound_old : AreSound old) (known_old : IsKnown old told) (o_is : o ≡ told_of (Some a) st call answer) where
  untold : is_evaluated answer ≡ false → (new : Standing) → IsKnown new told → IsKnown new (with_told o told)
  untold e new k = as_told st new o told (o_is ∙ not_told (Some a) st call answer e) k

  found : IsFound st.numbers st.store g.db g.database g (over_by st.numbers g.database.index)
  found = subst (λ (x : Target). IsFound st.numbers st.store g.db g.database x (over_by st.numbers g.database.index)) on.is
      (found_target st.numbers st.last_db st.store known.ground.well.store known.ground.well.numbers known.ground.well.over g.db g.at g.database on.here)

  -- an answer of evaluation, or that its cursor stands at no record
  came : (is_evaluated (outcome_of st a call g).answer ≡ true) ⊎ IsLost g.database.kind call g.at (view_of st a g)
  came = by (comes_evaluated g.database.kind call g.at (view_of st a g) may)
    where
      by : (is_own (evaluation_of g.database.kind call g.at (view_of st a g)).answer ≡ true) ⊎ IsLost g.database.kind call g.at (view_of st a g)
          → (is_evaluated (outcome_of st a call g).answer ≡ true) ⊎ IsLost g.database.kind call g.at (view_of st a g)
      by (inl own) = inl (ap is_evaluated (found.answer (view_in st a) (evaluation_of g.database.kind call g.at (view_of st a g)).answer)
          ∙ own_through (over_by st.numbers g.database.index) (view_in st a (records_number g.db (over_by st.numbers g.database.index), found.records)) (evaluation_of g.database.kind call g.at (view_of st a g)).answer own)
      by (inr lost) = inr lost

  lost_is : IsLost g.database.kind call g.at (view_of st a g) → (outcome_of st a call g).answer ≡ NoPosition
  lost_is lost = found.answer (view_in st a) (evaluation_of g.database.kind call g.at (view_of st a g)).answer
      ∙ (ap (λ (v : Evaluated). answered_by (over_by st.numbers g.database.index) (view_in st a (records_number g.db (over_by st.numbers g.database.index), found.records)) v.answer) lost.is
      ∙ lost_answer (over_by st.numbers g.database.index) (view_in st a (records_number g.db (over_by st.numbers g.database.index), found.records)))

  succeeds : first_blocked a.txn (needs_in st a call g) st.locks.at ≡ None → (b : Bool) → a.is_auto ≡ b → (b ≡ false → answer ≡ (outcome_of st a call g).answer)
      → IsKnown (closed b a (with_names (changes_with st a g (outcome_of st a call g).changes)) (with_outcome a call g (outcome_of st a call g) (answered a call g st))) (with_told o told)
  succeeds free true e f =
      as_told st _ o told (o_is ∙ auto_untold a st call answer e) (known_committed st a call g told may m known on free (bare e))
  succeeds free false e f = by came
    where
      by : (is_evaluated (outcome_of st a call g).answer ≡ true) ⊎ IsLost g.database.kind call g.at (view_of st a g) → IsKnown (with_outcome a call g (outcome_of st a call g) (answered a call g st)) (with_told o told)
      by (inl evaluated) =
          subst (λ (x : Option AnsweredCall). IsKnown (with_outcome a call g (outcome_of st a call g) (answered a call g st)) (with_told x told))
          (sym (o_is ∙ is_told a st call answer e (may_tell call may) (ap is_evaluated (f refl) ∙ evaluated)))
          (known_done st a call g told may m known on free e (named e) evaluated answer (f refl) (has_records st a told known.ground))
      by (inr lost) = untold (ap is_evaluated (f refl) ∙ ap is_evaluated (lost_is lost)) _ (known_lost st a call g told may m known on free lost)

  -- what it comes to is logged as done
  came_succeeds : fate_of (outcome_of st a call g).answer ≡ Succeeds
  came_succeeds = by came
    where
      by : (is_evaluated (outcome_of st a call g).answer ≡ true) ⊎ IsLost g.database.kind call g.at (view_of st a g) → fate_of (outcome_of st a call g).answer ≡ Succeeds
      by (inl evaluated) = evaluated_succeeds (outcome_of st a call g).answer evaluated
      by (inr lost) = ap fate_of (lost_is lost)

  at_fate : (f : Fate) → fate_of answer ≡ f → IsKnown (after_fate f old st a call g (outcome_of st a call g)) (with_told o told) → IsKnown (after_fate (fate_of answer) old st a call g (outcome_of st a call g)) (with_told o told)
  at_fate f e k = subst (λ (x : Fate). IsKnown (after_fate x old st a call g (outcome_of st a call g)) (with_told o told)) (sym e) k

  by_changes : first_blocked a.txn (needs_in st a call g) st.locks.at ≡ None → (cs : List RecordChange) → IsDone cs limit st a (outcome_of st a call g) answer
      → IsKnown (after_changes cs old st a call g (outcome_of st a call g) answer) (with_told o told)
  by_changes free [] is = succeeds free a.is_auto refl (λ e. is)
  by_changes free (c ∷ cs) is = by (log_limit limit) refl is
    where
      due_of : (b : Bool) → a.is_auto ≡ b → answer ≡ due st a (outcome_of st a call g) → IsKnown (after_fate (fate_of answer) old st a call g (outcome_of st a call g)) (with_told o told)
      due_of true e h = at_fate Succeeds (ap fate_of (h ∙ cond-true a.is_auto (Logged (st.commits + 1)) (outcome_of st a call g).answer e)) (succeeds free a.is_auto refl (λ k. absurd (both_ways a.is_auto k e)))
      due_of false e h =
          let is_its : answer ≡ (outcome_of st a call g).answer = h ∙ cond-false a.is_auto (Logged (st.commits + 1)) (outcome_of st a call g).answer e in
          at_fate Succeeds (ap fate_of is_its ∙ came_succeeds) (succeeds free a.is_auto refl (λ k. is_its))

      by : (l : Option Answer) → log_limit limit ≡ l → IsLogged l (due st a (outcome_of st a call g)) answer → IsKnown (after_fate (fate_of answer) old st a call g (outcome_of st a call g)) (with_told o told)
      by (Some l) e h = let k = limit_is limit l e in
          at_fate IsRefused (ap fate_of h ∙ k.fate) (untold (ap is_evaluated h ∙ k.other.evaluated) _ (known_refused st a call g told may m known on free))
      by None e (inl h) = due_of a.is_auto refl h
      by None e (inr h) = at_fate Faults (ap fate_of h) (untold (ap is_evaluated h) (faulted old) (faulted_known old told sound_old known_old))

  pub known_taking : (n : Option Need) → first_blocked a.txn (needs_in st a call g) st.locks.at ≡ n → IsTaken n limit st a line call g answer vs → IsKnown (after_taking n old st a line call g answer vs) (with_told o told)
  known_taking None e is = by_changes e (outcome_of st a call g).changes is.0
  known_taking (Some n) e is =
      untold (stopped_other (owner_before a.txn n (queues_before st a call g)) a.waits st a line call g n answer vs refl is) _ (known_stop st a call g told may m known on a.waits line n vs e)

known_on : (t : Option Target) (limit : Option Answer) (old st : Standing) (a : Active) (line : ℕ) (call : Call) (told : List AnsweredCall) (answer : Answer) (vs : List Victim) (o : Option AnsweredCall) → MayWait call → MayRun st a → IsKnown st told
    → ((g : Target) → t ≡ Some g → IsTargetOf st a call g) → (a.is_auto ≡ true → st.own a.txn.0 ≡ []) → ((g : Target) → t ≡ Some g → a.is_auto ≡ false → name_on (target_of st a.session call) ≡ g.database.name) → AreSound old → IsKnown old told → o ≡ told_of (Some a) st call answer → IsOn t limit st a line call answer vs
    → IsKnown (after_on t old st a line call answer vs) (with_told o told)
known_on None limit old st a line call told answer vs o may m known on bare named sound_old known_old o_is is = absurd is
known_on (Some g) limit old st a line call told answer vs o may m known on bare named sound_old known_old o_is is =
    known_taking limit old st a line call g told answer vs o may m known (on g refl) bare (named g refl) sound_old known_old o_is (first_blocked a.txn (needs_in st a call g) st.locks.at) refl is

-- ---- transactions begin

known_with : (st : Standing) (a : Active) (told : List AnsweredCall) → AreSound st → IsKnown st told → active_of a.session st.actives ≡ None → a.txn.0 ≡ next_txn st.last_txn → nat_lt st.last_txn LAST_TXN ≡ true → IsKnown (record st { actives = st.actives ++ a ∷ []; last_txn = next_txn st.last_txn }) told
known_with st a told sound known none is more =
    known_quiet st new told sound (record { store = refl; numbers = refl; last_db = refl; last_txn = (let h = next_is st.last_txn more in omega (arith, h)); own = λ t. refl }) known
    (λ b k keep. ⊎_elim (λ old. inl (as_before st new b old (same_locks b.txn st new (λ r. refl)) (λ own. same_places b.session st new refl))) (λ now. inr (its b now)) (among_append st.actives (a ∷ []) b k))
  where
    new : Standing
    new = record st { actives = st.actives ++ a ∷ []; last_txn = next_txn st.last_txn }

    above : st.last_txn < a.txn.0
    above = subst (λ (n : ℕ). st.last_txn < n) (sym is) (next_is st.last_txn more)

    none_own : st.own a.txn.0 ≡ []
    none_own = sound.own_active a.txn.0 (⊎_elim
        (λ e. let b = any_some (λ (x : Active). is_same_txn (txn_id a.txn.0) x.txn) st.actives e in
        let low = numbered_le st.last_txn st.actives b.0 sound.numbers b.1 in
        let same = ap (λ (t : TxnId). t.0) (same_is (txn_id a.txn.0) b.0.txn b.2) in
        absurd (omega (arith, low, same, above)))
        (λ e. e)
        (cases_Bool (is_active (txn_id a.txn.0) st.actives)))

    no_place : (cursor : ℕ) (p : Place) → place_at cursor (st.places a.session) ≡ Some p → ⊥
    no_place cursor p e = let k = sym (ap (place_at cursor) (sound.places a.session none)) ∙ e in absurd (cc (k))

    its : (b : Active) → IsAmong b (a ∷ []) → KeepsOf (record st { actives = st.actives ++ a ∷ []; last_txn = next_txn st.last_txn }) told b.txn b.level b.session b.is_auto
    its b (inl e) = subst (λ (x : Active). KeepsOf new told x.txn x.level x.session x.is_auto) e (record {
      said = [];
      calls = none_told a.txn st.last_txn told above known.ground.last;
      follows = none_own;
      positions = λ own cursor p f. absurd (no_place cursor p f);
      ser = λ h. tt;
      places = λ own h cursor p f n i. absurd (no_place cursor p f);
      repeatable = λ h. tt;
    })
    its b (inr k) = absurd k

known_drawn : (o : Option Active) (st : Standing) (told : List AnsweredCall) → AreSound st → IsKnown st told → IsKnown (drawn_by o st) told
known_drawn None st told sound known =
    same_known st (record st { last_txn = next_txn st.last_txn }) told sound (record { store = refl; numbers = refl; last_db = refl; last_txn = more (nat_lt st.last_txn LAST_TXN); own = λ t. refl }) (λ r. refl) (λ session. refl) refl known
  where
    more : (b : Bool) → st.last_txn ≤ cond b (st.last_txn + 1) st.last_txn
    more true = omega arith
    more false = omega arith
known_drawn (Some a) st told sound known = known

-- ---- whose transaction it is

allowed_at : (call : Call) (o : Option Target) (g : Target) → target_refusal call o ≡ None → o ≡ Some g → index_refusal call g.database.index ≡ None
allowed_at call o g h e = (both_none (index_refusal call g.database.index) (database_refuses g.database.kind call) (ap (target_refusal call) (sym e) ∙ h)).0
  where
    both_none : (a b : Option Answer) → or_refusal a b ≡ None → (a ≡ None) × (b ≡ None)
    both_none None b k = (refl, k)
    both_none (Some x) b k = absurd (cc (k))

known_run : (active : Option Active) (limit : Option Answer) (st : Standing) (session line : ℕ) (call : Call) (answer : Answer) (vs : List Victim) (told : List AnsweredCall) → MayWait call → AreRight st → IsKnown st told → active_of session st.actives ≡ active
    → waits_refusal st active ≡ None → number_refusal st.last_txn active ≡ None → target_refusal call (target_of st session call) ≡ None → AreBare st → IsRun active limit st session line call answer vs
    → IsKnown (after_run active st session line call answer vs) (with_told (told_of active st call answer) told)
known_run (Some a) limit st session line call answer vs told may r known its free number allowed bare is =
    known_on (target_of st session call) limit st st a line call told answer vs (told_of (Some a) st call answer) may (may_run st session a r its free) known
    (λ g e. let k = target_facts st told session call g may known.ground e in record { here = k.0; its = subst (λ (n : ℕ). IsAtCursor (st.places n) (cursor_of call) g) (sym same) k.1; is = k.2; allowed = allowed_at call (target_of st session call) g allowed e })
    (all_at (λ (x : Active). x.is_auto ≡ true → st.own x.txn.0 ≡ []) st.actives a bare (its_session session st.actives a its).0)
    (λ g e auto. ap (λ (n : ℕ). name_on (target_of st n call)) same ∙ ap name_on e) r.sound known refl is
  where
    same : a.session ≡ session
    same = (its_session session st.actives a its).1
known_run None limit st session line call answer vs told may r known its free number allowed bare is =
    known_on (target_of st session call) limit st (begun st session) (auto_active st session) line call told answer vs None may
    (record {
      right = begun_is-right st session r its (has_number st.last_txn number);
      its = begun_found st.actives (auto_active st session) its;
      told = drawn_untold st.last_txn st.actives st.own st.places st.waiting st.locks (auto_active st session).txn r.sound (next_is st.last_txn (has_number st.last_txn number));
    })
    (known_with st (auto_active st session) told r.sound known its refl (has_number st.last_txn number))
    (λ g e. let k = target_facts st told session call g may known.ground e in record { here = k.0; its = k.1; is = k.2; allowed = allowed_at call (target_of st session call) g allowed e })
    (all_at (λ (x : Active). x.is_auto ≡ true → st.own x.txn.0 ≡ []) (begun st session).actives (auto_active st session) (begun_is-bare st session r bare (has_number st.last_txn number))
    (among_second st.actives (auto_active st session ∷ []) (auto_active st session) (inl refl)))
    (λ g e auto. absurd (both_ways true auto refl)) r.sound known (sym (auto_untold (auto_active st session) (begun st session) call answer refl)) is

-- ---- commits and ends

known_commit : (fate : Fate) (st : Standing) (a : Active) (told : List AnsweredCall) → AreSound st → IsAmong a st.actives → IsKnown st told → IsKnown (after_commit fate (changes_named st (st.own a.txn.0)) a st) told
known_commit Succeeds st a told sound there known =
    known_end st a (st.own a.txn.0) (ended a (committed_if_any (changes_named st (st.own a.txn.0)) st)) told sound there known.ground (inr refl) (end_is st a (st.own a.txn.0)) (λ b k apart. known.each b k)
known_commit IsRefused st a told sound there known = known
known_commit Faults st a told sound there known = faulted_known st told sound known

known_ending : (active : Option Active) (st : Standing) (session : ℕ) (answer : Answer) (told : List AnsweredCall) → AreSound st → IsKnown st told → active_of session st.actives ≡ active → IsKnown (after_ending active st answer) told
known_ending None st session answer told sound known its = known
known_ending (Some a) st session answer told sound known its = known_commit (fate_of answer) st a told sound (its_session session st.actives a its).0 known

known_abort : (active : Option Active) (st : Standing) (session : ℕ) (told : List AnsweredCall) → AreSound st → IsKnown st told → active_of session st.actives ≡ active → IsKnown (ended_if_any active st) told
known_abort None st session told sound known its = known
known_abort (Some a) st session told sound known its = known_ended st a told sound (its_session session st.actives a its).0 known

-- ---- the catalog

or_none : (a b : Option Answer) → or_refusal a b ≡ None → (a ≡ None) × (b ≡ None)
or_none None b h = (refl, h)
or_none (Some x) b h = absurd (cc (h))

is_there : {X : Type 0} (o : Option X) → access_refusal (is_some o) ≡ None → (x : X) × (o ≡ Some x)
is_there None h = absurd (cc (h))
is_there (Some x) h = (x, refl)

not_taken : {X : Type 0} (o : Option X) → taken_refusal (is_some o) ≡ None → o ≡ None
not_taken None h = refl
not_taken (Some x) h = absurd (cc (h))

not_created : {X : Type 0} (o : Option X) (count : ℕ) → creation_refusal (is_some o) count ≡ None → o ≡ None
not_created None count h = refl
not_created (Some x) count h = absurd (cc (h))

-- a change of the catalog
module _ (st new : Standing) (stays : Database → Type 0) (made : Option Index) (well : IsWell st) (well_new : IsWell new) (done : IsCatalogDone st.numbers st.last_db st.store new.numbers new.last_db new.store stays made)
    (stay : (d : Database) (t : TxnId) (n : ℕ) → IsUsedBy st t n → database_at n st ≡ Some d → stays d) (never : (t : TxnId) (q : ℕ) → IsUsedBy st t q → IsOfNew st.numbers made q → ⊥) where
  step_same : (t : TxnId) (n : ℕ) (b : Base) → IsUsedBy st t n → base_at n st ≡ Some b → (base_at n new ≡ Some b) × (pairs_at n new ≡ pairs_at n st)
  step_same t n b used e =
      let i = based st.numbers (database_at n st) b e in
      let k = done.there i.database (found_is (λ (x : Database). st.numbers x.name == n) st.store.databases i.database i.is).0 (stay i.database t n used i.is) in
      let f = found_there new.numbers new.last_db n new.store k.0 well_new.store well_new.numbers k.1 (k.2 ∙ number_of_found st.numbers n st.store i.database i.is) in
      (ap (base_of new.numbers) f ∙ (k.3 ∙ (ap (base_of st.numbers) (sym i.is) ∙ e)), ap pairs_of f ∙ (k.4 ∙ ap pairs_of (sym i.is)))

  step_fresh : (t : TxnId) (q n : ℕ) (b : Base) (e : Extract) → IsUsedBy st t q → base_at n new ≡ Some b → b.2 ≡ Some (q, e) → (c : Base) × (base_at n st ≡ Some c) × (c.2 ≡ Some (q, e))
  step_fresh t q n b e used h k =
      let i = based new.numbers (database_at n new) b h in
      by i.database (number_of_found new.numbers n new.store i.database i.is)
      (done.back i.database (q, e) (found_is (λ (x : Database). new.numbers x.name == n) new.store.databases i.database i.is).0 (i.over ∙ k))
    where
      by : (d : Database) → new.numbers d.name ≡ n → ((x : Database) × IsAmong x st.store.databases × (new.numbers d.name ≡ st.numbers x.name) × (over_by st.numbers x.index ≡ Some (q, e))) ⊎ IsOfNew st.numbers made q
          → (c : Base) × (base_at n st ≡ Some c) × (c.2 ≡ Some (q, e))
      by d is (inl x) = (
        (x.0.name, x.0.kind, over_by st.numbers x.0.index),
        ap (base_of st.numbers) (found_there st.numbers st.last_db n st.store x.0 well.store well.numbers x.1 (sym x.2 ∙ is)),
        x.3,
      )
      by d is (inr m) = absurd (never t q used m)

  -- a database was one before, or has the new number
  step_old : (m : ℕ) (b : Base) → base_at m new ≡ Some b
      → ((d : Database) × (database_at m st ≡ Some d) × (b.2 ≡ over_by st.numbers d.index) × (pairs_at m new ≡ d.pairs)) ⊎ ((m ≡ st.last_db + 1) × (b.2 ≡ over_by new.numbers made))
  step_old m b h =
      let i = based new.numbers (database_at m new) b h in
      by i.database i.is i.over (number_of_found new.numbers m new.store i.database i.is) (done.old i.database (found_is (λ (x : Database). new.numbers x.name == m) new.store.databases i.database i.is).0)
    where
      by : (d : Database) → database_at m new ≡ Some d → over_by new.numbers d.index ≡ b.2 → new.numbers d.name ≡ m
          → ((x : Database) × IsAmong x st.store.databases × (new.numbers d.name ≡ st.numbers x.name) × (over_by new.numbers d.index ≡ over_by st.numbers x.index) × (d.pairs ≡ x.pairs))
          ⊎ ((new.numbers d.name ≡ st.last_db + 1) × (over_by new.numbers d.index ≡ over_by new.numbers made))
          → ((x : Database) × (database_at m st ≡ Some x) × (b.2 ≡ over_by st.numbers x.index) × (pairs_at m new ≡ x.pairs)) ⊎ ((m ≡ st.last_db + 1) × (b.2 ≡ over_by new.numbers made))
      by d is over number (inl x) = inl (x.0, found_there st.numbers st.last_db m st.store x.0 well.store well.numbers x.1 (sym x.2 ∙ number), sym over ∙ x.3, ap pairs_of is ∙ x.4)
      by d is over number (inr k) = inr (sym number ∙ k.0, sym over ∙ k.1)

  step_pairs : (m : ℕ) (b : Base) → base_at m new ≡ Some b → m ≤ st.last_db → pairs_at m new ≡ pairs_at m st
  step_pairs m b h low = by (step_old m b h)
    where
      by : ((d : Database) × (database_at m st ≡ Some d) × (b.2 ≡ over_by st.numbers d.index) × (pairs_at m new ≡ d.pairs)) ⊎ ((m ≡ st.last_db + 1) × (b.2 ≡ over_by new.numbers made)) → pairs_at m new ≡ pairs_at m st
      by (inl d) = d.3 ∙ ap pairs_of (sym d.1)
      by (inr k) = let e = k.0 in absurd (omega (arith, e, low))

  step_indexes : (n q : ℕ) (e : Extract) (b : Base) → base_at n new ≡ Some b → b.2 ≡ Some (q, e) → ((c : Base) × (base_at n st ≡ Some c) × (c.2 ≡ Some (q, e))) ⊎ ((n ≡ st.last_db + 1) × (over_by new.numbers made ≡ Some (q, e)))
  step_indexes n q e b h is = by (step_old n b h)
    where
      by : ((d : Database) × (database_at n st ≡ Some d) × (b.2 ≡ over_by st.numbers d.index) × (pairs_at n new ≡ d.pairs)) ⊎ ((n ≡ st.last_db + 1) × (b.2 ≡ over_by new.numbers made))
          → ((c : Base) × (base_at n st ≡ Some c) × (c.2 ≡ Some (q, e))) ⊎ ((n ≡ st.last_db + 1) × (over_by new.numbers made ≡ Some (q, e)))
      by (inl d) = inl ((d.0.name, d.0.kind, over_by st.numbers d.0.index), ap (base_of st.numbers) d.1, sym d.2 ∙ is)
      by (inr k) = inr (k.0, sym k.1 ∙ is)

step_from : (o : Option Active) (st : Standing) (c : Change) (stays : Database → Type 0) (made : Option Index) → IsWell st → ((d : Database) (t : TxnId) (n : ℕ) → IsUsedBy st t n → database_at n st ≡ Some d → stays d)
    → ((t : TxnId) (q : ℕ) → IsUsedBy st t q → IsOfNew st.numbers made q → ⊥)
    → IsCatalogDone st.numbers st.last_db st.store (committed_if_any (c ∷ []) (drawn_by o st)).numbers (committed_if_any (c ∷ []) (drawn_by o st)).last_db (changed c st.store) stays made
    → IsCatalogStep st (committed_if_any (c ∷ []) (drawn_by o st)) made
step_from None st c stays made well stay never done = record {
  well = well_new;
  last_txn = more (nat_lt st.last_txn LAST_TXN);
  actives = refl;
  own = λ t. refl;
  places = λ session. refl;
  locks = λ r. refl;
  same = step_same st (committed_if_any (c ∷ []) (drawn_by None st)) stays made well well_new done stay never;
  fresh = step_fresh st (committed_if_any (c ∷ []) (drawn_by None st)) stays made well well_new done stay never;
  pairs = step_pairs st (committed_if_any (c ∷ []) (drawn_by None st)) stays made well well_new done stay never;
  indexes = step_indexes st (committed_if_any (c ∷ []) (drawn_by None st)) stays made well well_new done stay never;
}
  where
    well_new : IsWell (committed_if_any (c ∷ []) (drawn_by None st))
    well_new = record { store = changed_is_right c st.store well.store; numbers = done.numbered; over = done.over }

    more : (b : Bool) → st.last_txn ≤ cond b (st.last_txn + 1) st.last_txn
    more true = omega arith
    more false = omega arith
step_from (Some a) st c stays made well stay never done = record {
  well = well_new;
  last_txn = (omega arith);
  actives = refl;
  own = λ t. refl;
  places = λ session. refl;
  locks = λ r. refl;
  same = step_same st (committed_if_any (c ∷ []) st) stays made well well_new done stay never;
  fresh = step_fresh st (committed_if_any (c ∷ []) st) stays made well well_new done stay never;
  pairs = step_pairs st (committed_if_any (c ∷ []) st) stays made well well_new done stay never;
  indexes = step_indexes st (committed_if_any (c ∷ []) st) stays made well well_new done stay never;
}
  where
    well_new : IsWell (committed_if_any (c ∷ []) st)
    well_new = record { store = changed_is_right c st.store well.store; numbers = done.numbered; over = done.over }

-- the fate of a change of the catalog
known_fate : (fate : Fate) (changes : List Change) (o : Option Active) (st : Standing) (told : List AnsweredCall) → AreSound st → IsKnown st told → IsKnown (committed_if_any changes (drawn_by o st)) told → IsKnown (after_catalog fate changes o st) told
known_fate Succeeds changes o st told sound known done = done
known_fate IsRefused changes o st told sound known done = known_drawn o st told sound known
known_fate Faults changes o st told sound known done = faulted_known st told sound known

-- nobody uses a database of that name
unused_stays : (st : Standing) (db : List ℕ) → IsUnused st (st.numbers db) → (d : Database) (t : TxnId) (n : ℕ) → IsUsedBy st t n → database_at n st ≡ Some d → d.name ≡ db → ⊥
unused_stays st db unused d t n used e is = used_other st t n (st.numbers db) used unused (sym (number_of_found st.numbers n st.store d e) ∙ ap st.numbers is)

no_fit : (st : Standing) (db : List ℕ) (kind : Kind) (i : Index) → None ≡ Some i → (kind ≡ DupKind) × ((p : Database) × IsAmong p st.store.databases × (p.name ≡ i.primary) × (p.kind ≡ Plain) × (p.index ≡ None))
no_fit st db kind i e = absurd (cc (e))

no_index_made : (numbers : Numbers) (q : ℕ) → IsOfNew numbers None q → ⊥
no_index_made numbers q (i, e, k) = absurd (cc (e))

known_made : (o : Option Active) (st : Standing) (db : List ℕ) (kind : Kind) (told : List AnsweredCall) → AreSound st → IsKnown st told → database_of db st.store ≡ None → IsKnown (committed_if_any (Make db kind ∷ []) (drawn_by o st)) told
known_made None st db kind told sound known none =
    known_catalog st (committed_if_any (Make db kind ∷ []) (drawn_by None st)) None told sound
    (step_from None st (Make db kind) (λ d. Unit {0}) None known.ground.well (λ d t n used e. tt) (λ t q used m. no_index_made st.numbers q m)
    (made_done st.numbers st.last_db st.store db kind None known.ground.well.numbers known.ground.well.over none (changed_is_right (Make db kind) st.store known.ground.well.store) (no_fit st db kind)))
    (none_up st (committed_if_any (Make db kind ∷ []) (drawn_by None st))) known
known_made (Some a) st db kind told sound known none =
    known_catalog st (committed_if_any (Make db kind ∷ []) st) None told sound
    (step_from (Some a) st (Make db kind) (λ d. Unit {0}) None known.ground.well (λ d t n used e. tt) (λ t q used m. no_index_made st.numbers q m)
    (made_done st.numbers st.last_db st.store db kind None known.ground.well.numbers known.ground.well.over none (changed_is_right (Make db kind) st.store known.ground.well.store) (no_fit st db kind)))
    (none_up st (committed_if_any (Make db kind ∷ []) st)) known

known_removed : (o : Option Active) (st : Standing) (db : List ℕ) (told : List AnsweredCall) → AreSound st → IsKnown st told → list_any (is_index_of db) st.store.databases ≡ false → IsUnused st (st.numbers db) → IsKnown (committed_if_any (Removed db ∷ []) (drawn_by o st)) told
known_removed None st db told sound known alone unused =
    known_catalog st (committed_if_any (Removed db ∷ []) (drawn_by None st)) None told sound
    (step_from None st (Removed db) (λ d. d.name ≡ db → ⊥) None known.ground.well (unused_stays st db unused) (λ t q used m. no_index_made st.numbers q m)
    (removed_done st.numbers st.last_db st.store db known.ground.well.numbers known.ground.well.over alone (changed_is_right (Removed db) st.store known.ground.well.store)))
    (none_up st (committed_if_any (Removed db ∷ []) (drawn_by None st))) known
known_removed (Some a) st db told sound known alone unused =
    known_catalog st (committed_if_any (Removed db ∷ []) st) None told sound
    (step_from (Some a) st (Removed db) (λ d. d.name ≡ db → ⊥) None known.ground.well (unused_stays st db unused) (λ t q used m. no_index_made st.numbers q m)
    (removed_done st.numbers st.last_db st.store db known.ground.well.numbers known.ground.well.over alone (changed_is_right (Removed db) st.store known.ground.well.store)))
    (none_up st (committed_if_any (Removed db ∷ []) st)) known

same_index : (x y : Index) → Some x ≡ Some y → x ≡ y
same_index x y e = cc (e)

-- the store with a database under another name
rename_done : (st : Standing) (db to : List ℕ) (d : Database) → IsWell st → database_of db st.store ≡ Some d → database_of to st.store ≡ None
    → IsCatalogDone st.numbers st.last_db st.store (numbered (Renamed db to) st.last_db st.numbers) (st.last_db + 0) (changed (Renamed db to) st.store) (λ x. x.name ≡ db → ⊥) None
rename_done st db to d well found none =
    subst (λ (o : Option Database). IsCatalogDone st.numbers st.last_db st.store (numbered (Renamed db to) st.last_db st.numbers) (st.last_db + 0) (record { databases = databases_renamed o to st.store.databases }) (λ (x : Database). x.name ≡ db → ⊥) None) (sym found)
    (renamed_done st.numbers st.last_db st.store db to d well.numbers well.over well.store found none
    (subst (λ (o : Option Database). IsStore (record { databases = databases_renamed o to st.store.databases })) found (changed_is_right (Renamed db to) st.store well.store)))

known_renamed : (o : Option Active) (st : Standing) (db to : List ℕ) (d : Database) (told : List AnsweredCall) → AreSound st → IsKnown st told → database_of db st.store ≡ Some d → database_of to st.store ≡ None → IsUnused st (st.numbers db)
    → IsKnown (committed_if_any (Renamed db to ∷ []) (drawn_by o st)) told
known_renamed None st db to d told sound known found none unused =
    known_catalog st (committed_if_any (Renamed db to ∷ []) (drawn_by None st)) None told sound
    (step_from None st (Renamed db to) (λ x. x.name ≡ db → ⊥) None known.ground.well (unused_stays st db unused) (λ t q used m. no_index_made st.numbers q m) (rename_done st db to d known.ground.well found none))
    (none_up st (committed_if_any (Renamed db to ∷ []) (drawn_by None st))) known
known_renamed (Some a) st db to d told sound known found none unused =
    known_catalog st (committed_if_any (Renamed db to ∷ []) st) None told sound
    (step_from (Some a) st (Renamed db to) (λ x. x.name ≡ db → ⊥) None known.ground.well (unused_stays st db unused) (λ t q used m. no_index_made st.numbers q m) (rename_done st db to d known.ground.well found none))
    (none_up st (committed_if_any (Renamed db to ∷ []) st)) known

known_emptied : (o : Option Active) (st : Standing) (db : List ℕ) (d : Database) (told : List AnsweredCall) → AreSound st → IsKnown st told → database_of db st.store ≡ Some d → d.index ≡ None → list_any (is_index_of db) st.store.databases ≡ false
    → IsUnused st (st.numbers db) → IsKnown (committed_if_any (Empty db ∷ []) (drawn_by o st)) told
known_emptied None st db d told sound known found none alone unused =
    known_catalog st (committed_if_any (Empty db ∷ []) (drawn_by None st)) None told sound
    (step_from None st (Empty db) (λ x. x.name ≡ db → ⊥) None known.ground.well (unused_stays st db unused) (λ t q used m. no_index_made st.numbers q m)
    (emptied_done st.numbers st.last_db st.store db d known.ground.well.numbers known.ground.well.over known.ground.well.store found none alone (changed_is_right (Empty db) st.store known.ground.well.store)))
    (none_up st (committed_if_any (Empty db ∷ []) (drawn_by None st))) known
known_emptied (Some a) st db d told sound known found none alone unused =
    known_catalog st (committed_if_any (Empty db ∷ []) st) None told sound
    (step_from (Some a) st (Empty db) (λ x. x.name ≡ db → ⊥) None known.ground.well (unused_stays st db unused) (λ t q used m. no_index_made st.numbers q m)
    (emptied_done st.numbers st.last_db st.store db d known.ground.well.numbers known.ground.well.over known.ground.well.store found none alone (changed_is_right (Empty db) st.store known.ground.well.store)))
    (none_up st (committed_if_any (Empty db ∷ []) st)) known

-- an index is not emptied alone
known_truncated : (o : Option Index) (active : Option Active) (st : Standing) (db : List ℕ) (d : Database) (told : List AnsweredCall) → AreSound st → IsKnown st told → database_of db st.store ≡ Some d → d.index ≡ o → list_any (is_index_of db) st.store.databases ≡ false
    → IsUnused st (st.numbers db) → IsKnown (committed_if_any (emptying db o).changes (drawn_by active st)) told
known_truncated None active st db d told sound known there none alone unused = known_emptied active st db d told sound known there none alone unused
known_truncated (Some index) active st db d told sound known there is alone unused = known_drawn active st told sound known

-- an index is made
primary_is : (o : Option Database) → access_refusal (is_primary o) ≡ None → (p : Database) × (o ≡ Some p) × (p.kind ≡ Plain) × (p.index ≡ None)
primary_is None h = absurd (cc (h))
primary_is (Some p) h = (p, refl, plain p.kind refl p.index refl, none p.kind refl p.index refl)
  where
    test : access_refusal (is_plain p.kind && is_none p.index) ≡ None
    test = h

    plain : (k : Kind) → p.kind ≡ k → (o : Option Index) → p.index ≡ o → p.kind ≡ Plain
    plain Plain e o f = e
    plain DupKind e o f = let k = sym (ap (λ (x : Kind). access_refusal (is_plain x && is_none p.index)) e) ∙ test in absurd (cc (k))

    none : (k : Kind) → p.kind ≡ k → (o : Option Index) → p.index ≡ o → p.index ≡ None
    none k e None f = f
    none Plain e (Some i) f = let m = sym (ap (λ (x : Kind). access_refusal (is_plain x && is_none p.index)) e ∙ ap (λ (x : Option Index). access_refusal (true && is_none x)) f) ∙ test in absurd (cc (m))
    none DupKind e (Some i) f = let m = sym (ap (λ (x : Kind). access_refusal (is_plain x && is_none p.index)) e) ∙ test in absurd (cc (m))

index_done : (st : Standing) (db : List ℕ) (index : Index) (p : Database) → IsWell st → database_of db st.store ≡ None → database_of index.primary st.store ≡ Some p → p.kind ≡ Plain → p.index ≡ None
    → IsCatalogDone st.numbers st.last_db st.store (with_number db (st.last_db + 1) st.numbers) (st.last_db + 1) (changed (MadeIndex db index) st.store) (λ d. Unit {0}) (Some index)
index_done st db index p well none there plain alone =
    made_done st.numbers st.last_db st.store db DupKind (Some index) well.numbers well.over none (changed_is_right (MadeIndex db index) st.store well.store) (λ i e. (
      refl,
      (
        p,
        (found_is (λ (x : Database). is_same_bytes x.name index.primary) st.store.databases p there).0,
        bytes_exact p.name index.primary (found_is (λ (x : Database). is_same_bytes x.name index.primary) st.store.databases p there).1 ∙ ap (λ (x : Index). x.primary) (same_index index i e),
        plain,
        alone,
      ),
    ))

never_index : (st : Standing) (index : Index) → IsUnused st (st.numbers index.primary) → (t : TxnId) (q : ℕ) → IsUsedBy st t q → IsOfNew st.numbers (Some index) q → ⊥
never_index st index unused t q used (i, e, k) = used_other st t q (st.numbers index.primary) used unused (k ∙ ap (λ (x : Index). st.numbers x.primary) (sym (same_index index i e)))

-- the new index is there under its number, which no database had
new_there : (st : Standing) (db : List ℕ) (index : Index) → IsStore (changed (MadeIndex db index) st.store) → AreNumbered (with_number db (st.last_db + 1) st.numbers) (st.last_db + 1) (changed (MadeIndex db index) st.store).databases
    → numbered_in (with_number db (st.last_db + 1) st.numbers) (st.last_db + 1) (changed (MadeIndex db index) st.store) ≡ Some (new_database db DupKind (Some index))
new_there st db index right numbered =
    found_there (with_number db (st.last_db + 1) st.numbers) (st.last_db + 1) (st.last_db + 1) (changed (MadeIndex db index) st.store) (new_database db DupKind (Some index)) right numbered
    (with_it (new_database db DupKind (Some index)) st.store.databases) (cond-true (is_same_bytes db db) (st.last_db + 1) (st.numbers db) (same_bytes db))

no_number : (st : Standing) → IsWell st → (m : ℕ) (b : Base) → base_at m st ≡ Some b → m ≡ st.last_db + 1 → ⊥
no_number st well m b e is =
    let i = based st.numbers (database_at m st) b e in
    let low = well.numbers.allocated i.database (found_is (λ (x : Database). st.numbers x.name == m) st.store.databases i.database i.is).0 in
    let same = number_of_found st.numbers m st.store i.database i.is in
    omega (arith, low, same, is)

puts_of_records : (db : List ℕ) (ps : List Pair) → AllByRecursion IsOfRecords (puts_in db ps)
puts_of_records db [] = tt
puts_of_records db (r ∷ ps) = (tt, puts_of_records db ps)

known_indexed : (o : Option Active) (st : Standing) (db : List ℕ) (index : Index) (p : Database) (ps : List Pair) (told : List AnsweredCall) → AreSound st → IsKnown st told → database_of db st.store ≡ None → database_of index.primary st.store ≡ Some p
    → p.kind ≡ Plain → p.index ≡ None → IsUnused st (st.numbers index.primary) → ps ≡ index_pairs index.extract p.pairs → IsKnown (committed_if_any (MadeIndex db index ∷ puts_in db ps) (drawn_by o st)) told
known_indexed None st db index p ps told sound known none there plain alone unused same =
    known_catalog st new (Some index) told sound whole
    (index_made st new db index p ps told sound known.ground whole numbers none there unused same
    (λ q e own own_its. up_filled st mid new (st.last_db + 1) (new_database db DupKind (Some index)) ps (Some index) step refl here refl (no_number st known.ground.well) numbers last_db refl q index.extract refl e own own_its)) known
  where
    mid : Standing
    mid = committed_if_any (MadeIndex db index ∷ []) (drawn_by None st)

    new : Standing
    new = committed_if_any (MadeIndex db index ∷ puts_in db ps) (drawn_by None st)

    step : IsCatalogStep st (committed_if_any (MadeIndex db index ∷ []) (drawn_by None st)) (Some index)
    step = step_from None st (MadeIndex db index) (λ d. Unit {0}) (Some index) known.ground.well (λ d t n used e. tt) (never_index st index unused) (index_done st db index p known.ground.well none there plain alone)

    here : numbered_in (with_number db (st.last_db + 1) st.numbers) (st.last_db + 1) (changed (MadeIndex db index) st.store) ≡ Some (new_database db DupKind (Some index))
    here = new_there st db index step.well.store step.well.numbers

    numbers : new.numbers ≡ with_number db (st.last_db + 1) st.numbers
    numbers = same_numbers (puts_in db ps) (st.last_db + 1) (with_number db (st.last_db + 1) st.numbers) (puts_of_records db ps)

    more : (m : ℕ) → m ≡ 0 → st.last_db + (m + 1) ≡ st.last_db + 1
    more m e = omega (arith, e)

    last_db : new.last_db ≡ st.last_db + 1
    last_db = more (made_by (puts_in db ps)) (none_made (puts_in db ps) (puts_of_records db ps))

    whole : IsCatalogStep st new (Some index)
    whole = filled st mid new (st.last_db + 1) (new_database db DupKind (Some index)) ps (Some index) step refl here refl (no_number st known.ground.well) numbers last_db refl refl refl (λ t. refl) (λ n. refl) (λ r. refl)
known_indexed (Some a) st db index p ps told sound known none there plain alone unused same =
    known_catalog st new (Some index) told sound whole
    (index_made st new db index p ps told sound known.ground whole numbers none there unused same
    (λ q e own own_its. up_filled st mid new (st.last_db + 1) (new_database db DupKind (Some index)) ps (Some index) step refl here refl (no_number st known.ground.well) numbers last_db refl q index.extract refl e own own_its)) known
  where
    mid : Standing
    mid = committed_if_any (MadeIndex db index ∷ []) st

    new : Standing
    new = committed_if_any (MadeIndex db index ∷ puts_in db ps) st

    step : IsCatalogStep st (committed_if_any (MadeIndex db index ∷ []) st) (Some index)
    step = step_from (Some a) st (MadeIndex db index) (λ d. Unit {0}) (Some index) known.ground.well (λ d t n used e. tt) (never_index st index unused) (index_done st db index p known.ground.well none there plain alone)

    here : numbered_in (with_number db (st.last_db + 1) st.numbers) (st.last_db + 1) (changed (MadeIndex db index) st.store) ≡ Some (new_database db DupKind (Some index))
    here = new_there st db index step.well.store step.well.numbers

    numbers : new.numbers ≡ with_number db (st.last_db + 1) st.numbers
    numbers = same_numbers (puts_in db ps) (st.last_db + 1) (with_number db (st.last_db + 1) st.numbers) (puts_of_records db ps)

    more : (m : ℕ) → m ≡ 0 → st.last_db + (m + 1) ≡ st.last_db + 1
    more m e = omega (arith, e)

    last_db : new.last_db ≡ st.last_db + 1
    last_db = more (made_by (puts_in db ps)) (none_made (puts_in db ps) (puts_of_records db ps))

    whole : IsCatalogStep st new (Some index)
    whole = filled st mid new (st.last_db + 1) (new_database db DupKind (Some index)) ps (Some index) step refl here refl (no_number st known.ground.well) numbers last_db refl refl refl (λ t. refl) (λ n. refl) (λ r. refl)

not_indexed : (b : Bool) → indexed_refusal b ≡ None → b ≡ false
not_indexed true h = absurd (cc (h))
not_indexed false h = refl

-- one of a database that is there, unless somebody uses it
known_exclusive : (n : ℕ) (outcome : Outcome) (limit : Option Answer) (o : Option Active) (st : Standing) (answer : Answer) (told : List AnsweredCall) → AreSound st → IsKnown st told
    → (IsUnused st n → IsKnown (committed_if_any outcome.changes (drawn_by o st)) told) → IsExclusive n outcome limit st answer → IsKnown (after_catalog (fate_of answer) outcome.changes o st) told
known_exclusive n outcome limit o st answer told sound known f (inl p) = known_fate (fate_of answer) outcome.changes o st told sound known (f p.0)
known_exclusive n outcome limit o st answer told sound known f (inr (inl p)) =
    subst (λ (x : Fate). IsKnown (after_catalog x outcome.changes o st) told) (sym (ap fate_of p.2)) (known_drawn o st told sound known)
known_exclusive n outcome limit o st answer told sound known f (inr (inr p)) =
    subst (λ (x : Fate). IsKnown (after_catalog x outcome.changes o st) told) (sym (ap fate_of p.2)) (known_drawn o st told sound known)

-- the refusals behind the numbers
late_parts : (st : Standing) (session : ℕ) (call : Call) → late_refusal st session call ≡ None → (there_refusal st session call ≡ None) × (name_refusal st session call ≡ None) × (target_refusal call (target_of st session call) ≡ None)
late_parts st session call h =
    let a = or_none (number_refusal st.last_txn (active_of session st.actives)) (or_refusal (there_refusal st session call) (or_refusal (name_refusal st session call) (target_refusal call (target_of st session call)))) h in
    let b = or_none (there_refusal st session call) (or_refusal (name_refusal st session call) (target_refusal call (target_of st session call))) a.1 in
    let c = or_none (name_refusal st session call) (target_refusal call (target_of st session call)) b.1 in
    (b.0, c.0, c.1)

-- ---- a call

known_performed : (call : Call) (limit : Option Answer) (st : Standing) (session line : ℕ) (answer : Answer) (vs : List Victim) (told : List AnsweredCall) → AreBare st → AreRight st → IsKnown st told
    → waits_refusal st (active_of session st.actives) ≡ None → txn_refusal call (active_of session st.actives) ≡ None → late_refusal st session call ≡ None → IsPerformed call limit st session line answer vs
    → IsKnown (after_performed call st session line answer vs) (with_told (told_of (active_of session st.actives) st call answer) told)
known_performed (Begin level durability wait) limit st session line answer vs told bare r known free txn late is =
    let none = no_active (active_of session st.actives) (Begin level durability wait) (λ a h. absurd (cc (h))) txn in
    as_told st _ (told_of (active_of session st.actives) st (Begin level durability wait) answer) told (not_on_records (active_of session st.actives) st (Begin level durability wait) answer refl)
    (known_with st (record { txn = record { 0 = next_txn st.last_txn }; session = session; level = level; durability = durability; waits = wait; is_auto = false; deadlock = None }) told r.sound known none refl
    (has_number st.last_txn (subst (λ (o : Option Active). number_refusal st.last_txn o ≡ None) none (late_number st session (Begin level durability wait) late))))
known_performed Commit limit st session line answer vs told bare r known free txn late is =
    as_told st _ (told_of (active_of session st.actives) st Commit answer) told (not_on_records (active_of session st.actives) st Commit answer refl) (known_ending (active_of session st.actives) st session answer told r.sound known refl)
known_performed Abort limit st session line answer vs told bare r known free txn late is =
    as_told st _ (told_of (active_of session st.actives) st Abort answer) told (not_on_records (active_of session st.actives) st Abort answer refl) (known_abort (active_of session st.actives) st session told r.sound known refl)
known_performed Lists limit st session line answer vs told bare r known free txn late is =
    as_told st _ (told_of (active_of session st.actives) st Lists answer) told (not_on_records (active_of session st.actives) st Lists answer refl) (known_drawn (active_of session st.actives) st told r.sound known)
known_performed (Create db kind) limit st session line answer vs told bare r known free txn late is =
    as_told st _ (told_of (active_of session st.actives) st (Create db kind) answer) told (not_on_records (active_of session st.actives) st (Create db kind) answer refl)
    (known_fate (fate_of answer) (Make db kind ∷ []) (active_of session st.actives) st told r.sound known
    (known_made (active_of session st.actives) st db kind told r.sound known (not_created (database_of db st.store) _ (late_parts st session (Create db kind) late).1)))
known_performed (CreateIndex db index) limit st session line answer vs told bare r known free txn late is =
    let k = late_parts st session (CreateIndex db index) late in
    let p = primary_is (database_of index.primary st.store) k.0 in
    as_told st _ (told_of (active_of session st.actives) st (CreateIndex db index) answer) told (not_on_records (active_of session st.actives) st (CreateIndex db index) answer refl)
    (known_exclusive (st.numbers index.primary) (evaluation (CreateIndex db index) st.store) limit (active_of session st.actives) st answer told r.sound known
    (λ unused. subst (λ (x : Option Database). IsKnown (committed_if_any (indexing db index x).changes (drawn_by (active_of session st.actives) st)) told) (sym p.1)
    (known_indexed (active_of session st.actives) st db index p.0 (index_pairs index.extract p.0.pairs) told r.sound known (not_created (database_of db st.store) _ k.1) p.1 p.2 p.3 unused refl)) is.0)
known_performed (Remove db) limit st session line answer vs told bare r known free txn late is =
    let d = is_there (database_of db st.store) (late_parts st session (Remove db) late).0 in
    as_told st _ (told_of (active_of session st.actives) st (Remove db) answer) told (not_on_records (active_of session st.actives) st (Remove db) answer refl)
    (known_exclusive (st.numbers db) (evaluation (Remove db) st.store) limit (active_of session st.actives) st answer told r.sound known
    (λ unused. subst (λ (x : Option Database). IsKnown (committed_if_any (evaluation_in (Remove db) st.store x).changes (drawn_by (active_of session st.actives) st)) told) (sym d.1)
    (known_removed (active_of session st.actives) st db told r.sound known (not_indexed (list_any (is_index_of db) st.store.databases) (late_parts st session (Remove db) late).1) unused)) is.0)
known_performed (Rename db to) limit st session line answer vs told bare r known free txn late is =
    let k = late_parts st session (Rename db to) late in
    let d = is_there (database_of db st.store) k.0 in
    as_told st _ (told_of (active_of session st.actives) st (Rename db to) answer) told (not_on_records (active_of session st.actives) st (Rename db to) answer refl)
    (known_exclusive (st.numbers db) (evaluation (Rename db to) st.store) limit (active_of session st.actives) st answer told r.sound known
    (λ unused. subst (λ (x : Option Database). IsKnown (committed_if_any (evaluation_in (Rename db to) st.store x).changes (drawn_by (active_of session st.actives) st)) told) (sym d.1)
    (known_renamed (active_of session st.actives) st db to d.0 told r.sound known d.1 (not_taken (database_of to st.store) k.1) unused)) is.0)
known_performed (Truncate db) limit st session line answer vs told bare r known free txn late is =
    let d = is_there (database_of db st.store) (late_parts st session (Truncate db) late).0 in
    as_told st _ (told_of (active_of session st.actives) st (Truncate db) answer) told (not_on_records (active_of session st.actives) st (Truncate db) answer refl)
    (known_exclusive (st.numbers db) (evaluation (Truncate db) st.store) limit (active_of session st.actives) st answer told r.sound known
    (λ unused. subst (λ (x : Option Database). IsKnown (committed_if_any (evaluation_in (Truncate db) st.store x).changes (drawn_by (active_of session st.actives) st)) told) (sym d.1)
    (known_truncated d.0.index (active_of session st.actives) st db d.0 told r.sound known d.1 refl (not_indexed (list_any (is_index_of db) st.store.databases) (late_parts st session (Truncate db) late).1) unused)) is.0)
known_performed (Get db key rmw) limit st session line answer vs told bare r known free txn late is =
    known_run (active_of session st.actives) limit st session line (Get db key rmw) answer vs told tt r known refl free (late_number st session (Get db key rmw) late) (late_parts st session (Get db key rmw) late).2 bare is
known_performed (GetBoth db key value rmw) limit st session line answer vs told bare r known free txn late is =
    known_run (active_of session st.actives) limit st session line (GetBoth db key value rmw) answer vs told tt r known refl free (late_number st session (GetBoth db key value rmw) late) (late_parts st session (GetBoth db key value rmw) late).2 bare is
known_performed (Put db key value mode) limit st session line answer vs told bare r known free txn late is =
    known_run (active_of session st.actives) limit st session line (Put db key value mode) answer vs told tt r known refl free (late_number st session (Put db key value mode) late) (late_parts st session (Put db key value mode) late).2 bare is
known_performed (Delete db key) limit st session line answer vs told bare r known free txn late is =
    known_run (active_of session st.actives) limit st session line (Delete db key) answer vs told tt r known refl free (late_number st session (Delete db key) late) (late_parts st session (Delete db key) late).2 bare is
known_performed (Open cursor db) limit st session line answer vs told bare r known free txn late is =
    known_opened st session cursor db told answer is.0 r.sound known (not_taken (place_at cursor (st.places session)) (late_parts st session (Open cursor db) late).1)
known_performed (Close cursor) limit st session line answer vs told bare r known free txn late is = known_closed st session cursor told answer is.0 r.sound known
known_performed (Dup cursor to) limit st session line answer vs told bare r known free txn late is =
    let k = late_parts st session (Dup cursor to) late in
    known_copied st session cursor to told answer is.0 r.sound known k.0 (not_taken (place_at to (st.places session)) k.1)
known_performed (Count cursor) limit st session line answer vs told bare r known free txn late is =
    known_run (active_of session st.actives) limit st session line (Count cursor) answer vs told tt r known refl free (late_number st session (Count cursor) late) (late_parts st session (Count cursor) late).2 bare is
known_performed (Cur cursor motion rmw) limit st session line answer vs told bare r known free txn late is =
    known_run (active_of session st.actives) limit st session line (Cur cursor motion rmw) answer vs told tt r known refl free (late_number st session (Cur cursor motion rmw) late) (late_parts st session (Cur cursor motion rmw) late).2 bare is
known_performed (CPutCur cursor value) limit st session line answer vs told bare r known free txn late is =
    known_run (active_of session st.actives) limit st session line (CPutCur cursor value) answer vs told tt r known refl free (late_number st session (CPutCur cursor value) late) (late_parts st session (CPutCur cursor value) late).2 bare is
known_performed (CDel cursor) limit st session line answer vs told bare r known free txn late is =
    known_run (active_of session st.actives) limit st session line (CDel cursor) answer vs told tt r known refl free (late_number st session (CDel cursor) late) (late_parts st session (CDel cursor) late).2 bare is
known_performed (CPut cursor key value mode) limit st session line answer vs told bare r known free txn late is =
    known_run (active_of session st.actives) limit st session line (CPut cursor key value mode) answer vs told tt r known refl free (late_number st session (CPut cursor key value mode) late) (late_parts st session (CPut cursor key value mode) late).2 bare is

-- a refusal is not told
refused_untold : (st : Standing) (session : ℕ) (call : Call) (answer refusal : Answer) → answer ≡ refusal → late_refusal st session call ≡ Some refusal → told_of (active_of session st.actives) st call answer ≡ None
refused_untold st session call answer refusal is late = not_told (active_of session st.actives) st call answer (ap is_evaluated is ∙ (late_other st session call refusal late).evaluated)

known_evaluated : (o : Option Answer) (limit : Option Answer) (st : Standing) (session line : ℕ) (call : Call) (answer : Answer) (vs : List Victim) (told : List AnsweredCall) → AreBare st → AreRight st → IsKnown st told
    → early_refusal st session call ≡ None → late_refusal st session call ≡ o → IsEvaluated o limit st session line call answer vs
    → IsKnown (after_evaluated o st session line call answer vs) (with_told (told_of (active_of session st.actives) st call answer) told)
known_evaluated (Some refusal) limit st session line call answer vs told bare r known early late is =
    as_told st (drawn_by (active_of session st.actives) st) (told_of (active_of session st.actives) st call answer) told (refused_untold st session call answer refusal is.0 late)
    (known_drawn (active_of session st.actives) st told r.sound known)
known_evaluated None limit st session line call answer vs told bare r known early late is =
    let e = early_parts st session call early in known_performed call limit st session line answer vs told bare r known e.0 e.1 late is

pub known_call_answered : (o : Option Answer) (limit : Option Answer) (st : Standing) (session line : ℕ) (call : Call) (answer : Answer) (vs : List Victim) (told : List AnsweredCall) → AreBare st → AreRight st → IsKnown st told
    → early_refusal st session call ≡ o → IsCallAnswered o limit st session line call answer vs
    → IsKnown (after_call o st session line call answer vs) (with_told (told_of (active_of session st.actives) st call answer) told)
known_call_answered (Some refusal) limit st session line call answer vs told bare r known early is =
    as_told st st (told_of (active_of session st.actives) st call answer) told
    (not_told (active_of session st.actives) st call answer (ap is_evaluated is.0 ∙ (early_other st session call refusal early).evaluated)) known
known_call_answered None limit st session line call answer vs told bare r known early is =
    known_evaluated (late_refusal st session call) limit st session line call answer vs told bare r known early refl is

-- ---- the other events

at_place : (o : Option Place) (st : Standing) (w : Wait) → target_at (resumed st w) o ≡ target_at st o
at_place None st w = refl
at_place (Some p) st w = refl

-- a call that goes on is on the same database
target_going : (st : Standing) (w : Wait) (session : ℕ) (call : Call) → target_of (resumed st w) session call ≡ target_of st session call
target_going st w session (Get db key rmw) = refl
target_going st w session (GetBoth db key value rmw) = refl
target_going st w session (Put db key value mode) = refl
target_going st w session (Delete db key) = refl
target_going st w session (Count cursor) = at_place (place_at cursor (st.places session)) st w
target_going st w session (Cur cursor motion rmw) = at_place (place_at cursor (st.places session)) st w
target_going st w session (CPutCur cursor value) = at_place (place_at cursor (st.places session)) st w
target_going st w session (CDel cursor) = at_place (place_at cursor (st.places session)) st w
target_going st w session (CPut cursor key value mode) = at_place (place_at cursor (st.places session)) st w
target_going st w session call = refl

told_going : (o : Option Active) (st : Standing) (w : Wait) (call : Call) (answer : Answer) → told_of o (resumed st w) call answer ≡ told_of o st call answer
told_going None st w call answer = refl
told_going (Some a) st w call answer = within a.is_auto
  where
    if_it : (b : Bool) → told_if b a (resumed st w) call answer ≡ told_if b a st call answer
    if_it true = ap (λ (t : Option Target). Some (record { txn = a.txn; call = call; db = name_on t; answer = answer; own = changes_named st (st.own a.txn.0) })) (target_going st w a.session call)
    if_it false = refl

    within : (b : Bool) → told_within b a (resumed st w) call answer ≡ told_within b a st call answer
    within true = refl
    within false = if_it ((is_of_cursors call || is_on_records call) && is_evaluated answer)

known_resumed : (o : Option Wait) (limit : Option Answer) (st : Standing) (session line : ℕ) (answer : Answer) (vs : List Victim) (told : List AnsweredCall) → AreBare st → st.fault ≡ None → AreRight st → IsKnown st told → wait_of session st.waiting ≡ o
    → IsResumed o limit st session line answer vs → IsKnown (after_resumed o st session line answer vs) (with_told (told_resumed o st session answer) told)
known_resumed None limit st session line answer vs told bare fault r known its is = absurd is
known_resumed (Some w) limit st session line answer vs told bare fault r known its is =
    let f = found_is (λ (v : Wait). v.session == session) st.waiting w its in
    let same : w.session ≡ session = eqb-true w.session session f.1 in
    subst (λ (x : Option AnsweredCall). IsKnown (after_call (early_refusal (resumed st w) session w.call) (resumed st w) session line w.call answer vs) (with_told x told)) (told_going (active_of session st.actives) st w w.call answer)
    (known_call_answered (early_refusal (resumed st w) session w.call) limit (resumed st w) session line w.call answer vs told
    bare (resumed_is-right st w r (ap (λ (n : ℕ). wait_of n st.waiting) same ∙ its) (subst (λ (x : Option Fault). IsReady x st w.txn) fault is.1))
    (same_known st (resumed st w) told r.sound (record { store = refl; numbers = refl; last_db = refl; last_txn = (omega arith); own = λ t. refl }) (λ x. refl) (λ n. refl) refl known) refl is.2)

-- a session ends, and its waiting call with it
known_session : (o : Option Active) (st : Standing) (session : ℕ) (told : List AnsweredCall) → AreRight st → IsKnown st told → active_of session st.actives ≡ o → IsKnown (ended_if_any o (record st { waiting = without_wait session st.waiting })) told
known_session None st session told r known its =
    same_known st (record st { waiting = without_wait session st.waiting }) told r.sound (record { store = refl; numbers = refl; last_db = refl; last_txn = (omega arith); own = λ t. refl }) (λ x. refl) (λ n. refl) refl known
known_session (Some a) st session told r known its =
    known_end st a [] (ended a (record st { waiting = without_wait session st.waiting })) told r.sound (its_session session st.actives a its).0 known.ground (inl refl)
    (record { store = refl; numbers = refl; last_db = refl; last_txn = refl; actives = refl; own = λ t. refl; places = λ n. refl; locks = λ x. refl }) (λ b k apart. known.each b k)

-- marks of syncs, checkpoints and faults
known_mark : (st new : Standing) (told : List AnsweredCall) → AreSound st → IsKnown st told → new.store ≡ st.store → new.numbers ≡ st.numbers → new.last_db ≡ st.last_db → new.last_txn ≡ st.last_txn → ((t : ℕ) → new.own t ≡ st.own t)
    → ((x : RecordId) → new.locks.at x ≡ st.locks.at x) → ((session : ℕ) → new.places session ≡ st.places session) → new.actives ≡ st.actives → IsKnown new told
known_mark st new told sound known a b c d e f p g = same_known st new told sound (record { store = a; numbers = b; last_db = c; last_txn = omega (arith, d); own = e }) f p g known

known_faulted : (answer : Answer) (st : Standing) (told : List AnsweredCall) → AreSound st → IsKnown st told → IsKnown (faulted_if answer st) told
known_faulted DiskFault st told sound known = faulted_known st told sound known
known_faulted answer st told sound known = known

known_sync : (answer : Answer) (st : Standing) (told : List AnsweredCall) → AreSound st → IsKnown st told → IsKnown (after_begin st answer) told
known_sync Done st told sound known = known_mark st (record st { begun = Some st.commits }) told sound known refl refl refl refl (λ t. refl) (λ x. refl) (λ n. refl) refl
known_sync DiskFault st told sound known = faulted_known st told sound known
known_sync answer st told sound known = known

known_synced : (answer : Answer) (st : Standing) (told : List AnsweredCall) → AreSound st → IsKnown st told → IsKnown (after_end st answer) told
known_synced answer st told sound known = known_faulted answer (record st { begun = None }) told sound (known_mark st (record st { begun = None }) told sound known refl refl refl refl (λ t. refl) (λ x. refl) (λ n. refl) refl)

known_turn : (step : Step) (answer : Answer) (st : Standing) (told : List AnsweredCall) → AreSound st → IsKnown st told → IsKnown (after_turn step st answer) told
known_turn BeginStep Done st told sound known = known_mark st (record st { in_checkpoint = true }) told sound known refl refl refl refl (λ t. refl) (λ x. refl) (λ n. refl) refl
known_turn Finish Done st told sound known = known_mark st (record st { in_checkpoint = false }) told sound known refl refl refl refl (λ t. refl) (λ x. refl) (λ n. refl) refl
known_turn BeginStep answer st told sound known = known_faulted answer st told sound known
known_turn Finish answer st told sound known = known_faulted answer st told sound known
known_turn Flush answer st told sound known = known_faulted answer st told sound known
known_turn SyncStep answer st told sound known = known_faulted answer st told sound known

pub event_known : (limit : Option Answer) (st : Standing) (event : Event) (told : List AnsweredCall) → AreBare st → st.fault ≡ None → AreRight st → IsKnown st told → IsAnswered limit st event
    → IsKnown (after_event st event) (with_told (told_by st event) told)
event_known limit st (Called session line call answer victims) told bare fault r known is = known_call_answered (early_refusal st session call) limit st session line call answer victims told bare r known refl is
event_known limit st (Resume session line answer victims) told bare fault r known is = known_resumed (wait_of session st.waiting) limit st session line answer victims told bare fault r known refl is
event_known limit st (End session) told bare fault r known is = known_session (active_of session st.actives) st session told r known refl
event_known limit st (WriteOut answer) told bare fault r known is = known_faulted answer st told r.sound known
event_known limit st (SyncBegin answer) told bare fault r known is = known_sync answer st told r.sound known
event_known limit st (SyncEnd answer) told bare fault r known is = known_synced answer st told r.sound known
event_known limit st (Turn line step answer) told bare fault r known is = known_turn step answer st told r.sound known

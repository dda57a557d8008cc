-- Each event keeps what holds: by cases of the event, cut as after_event is.
use Rattle.std.proofs.Common.{◌≡◌, ℕ, ◌<◌, ◌≤◌, ◌+◌, ◌==◌, nat_lt, Bool, true, false, cond, not, List, [], ◌∷◌, ◌++◌, Some, None, Option, refl, ap, sym, ◌∙◌, subst, ⊎_elim, arith}
use Rattle.std.specs.List.{filter, AllByRecursion}
use Rattle.std.specs.Option.{is_some}
use Rattle.std.proofs.lemmas.Bool.{cases_Bool, cond-true, cond-false, both_ways, eqb-true, and_parts}
use Rattle.std.proofs.lemmas.Bool.Decides.{nat_tests}
use Rattle.je_order.specs.declared.txn_id.TxnId.{TxnId}
use Rattle.je_order.specs.declared.name.Name.{Name}
use Rattle.je_order.specs.declared.bound.Bound.TheVariants.{At as On}
use Rattle.je_order.specs.Transactions.{is_same_txn}
use Rattle.je_order.proofs.TxnIds.{same_is, same_itself}
use Rattle.je_order.proofs.Lists.{all_weaker}
use Rattle.lock_table.specs.declared.record_id.RecordId.{RecordId}
use Rattle.store_model.specs.declared.store.TheConstants.{LAST_TXN}
use Rattle.store_model.specs.declared.isolation.Isolation.{Isolation}
use Rattle.store_model.specs.declared.isolation.Isolation.TheVariants.{ReadUncommitted, ReadCommitted, RepeatableRead, Serializable}
use Rattle.store_model.specs.declared.durability.Durability.{Durability}
use Rattle.store_model.specs.declared.call.Call.{Call}
use Rattle.store_model.specs.declared.call.Call.TheVariants.{Begin, Commit, Abort, List as Lists, Create, CreateIndex, Remove, Rename, Truncate, Get, GetBoth, Put, Delete, Open, Close, Dup, Count, Cur, CPutCur, CDel, CPut}
use Rattle.store_model.specs.declared.change.Change.{Change}
use Rattle.store_model.specs.declared.record_change.RecordChange.{RecordChange}
use Rattle.store_model.specs.declared.place.Place.{Place}
use Rattle.store_model.specs.declared.need.Need.{Need}
use Rattle.store_model.specs.declared.victim.Victim.{Victim}
use Rattle.store_model.specs.declared.step.Step.{Step}
use Rattle.store_model.specs.declared.step.Step.TheVariants.{Begin as BeginStep, Flush, Finish, Sync as SyncStep}
use Rattle.store_model.specs.declared.answer.Answer.{Answer}
use Rattle.store_model.specs.declared.answer.Answer.TheVariants.{Done, DiskFault, SessionWaits, IdsEnded}
use Rattle.store_model.specs.declared.answer.Fault.{Fault}
use Rattle.store_model.specs.declared.event.Event.TheVariants.{Call as Called, Resume, End, WriteOut, SyncBegin, SyncEnd, Turn}
use Rattle.store_model.specs.Indexes.{Numbered}
use Rattle.store_model.specs.Records.{Evaluated}
use Rattle.store_model.specs.Needs.{need, write_type, changed_name}
use Rattle.store_model.specs.Refusals.{or_refusal, next_txn}
use Rattle.je_answers.specs.declared.active.Active.{Active}
use Rattle.je_answers.specs.declared.wait.Wait.{Wait}
use Rattle.je_answers.specs.Standing.{Standing, active_of, wait_of, without_wait, place_at, with_at}
use Rattle.je_answers.specs.Views.{Target, target_of, changes_with, with_numbers, with_names, changes_named, outcome_of, needs_in}
use Rattle.je_answers.specs.Refusals.{fault_refusal, waits_refusal, abort_refusal, txn_refusal, early_refusal, late_refusal, number_refusal}
use Rattle.je_answers.specs.Locking.{Queues, record_of, all_got, granted_part, first_blocked, given_back, released, forgotten, with_wait}
use Rattle.je_answers.specs.Events.{auto_active, begun, asking, locks_before, resumed, IsReady, IsResumed}
use Rattle.je_answers.specs.After.{Fate, fate_of, drawn_by, ended, ended_if_any, committed_if_any, moved, with_locks, answered, with_outcome, opened, opened_at, closed_cursor, closed, after_fate, after_changes, marked, is_victim, txns_of, autos_in, without_waits_of, with_victims, with_waiting, after_stop, after_taking, after_on, after_run, begun_by, after_commit, after_ending, after_catalog, after_performed, after_evaluated, after_call, after_resumed, faulted_if, after_begin, after_turn}
use Rattle.je_answers.specs.After.Fate.{Succeeds, IsRefused, Faults}
use Rattle.je_answers.proofs.SameViews.{answered_changes}
use Rattle.standing_laws.specs.Right.{HasWrite, HoldsWrite, IsWaitIn, MayWait, is_active, AreRight, IsSoundAt, IsRightAt}
use Rattle.standing_laws.specs.Laws.{StandingsStayRight, BegunIsRight, ResumedIsRight, UntoldHasNoWait}
use Rattle.standing_laws.proofs.Among.{IsAmong, any_from, all_at, all_of, filter_among, among_filter, found_is, its_session}
use Rattle.standing_laws.proofs.Owners.{read_keeps}
use Rattle.standing_laws.proofs.Waiters.{wait_of_told}
use Rattle.standing_laws.proofs.Writers.{of_changes, write_is}
use Rattle.standing_laws.proofs.Steps.{state, sound_all_got, granted_free, stopped_behind, IsWritten, all_written, sound_back}
use Rattle.standing_laws.proofs.Moves.{numbered_more, own_filter, all_filter, waits_filter, some_active, AreLeft, sound_left, sound_begun, begun_found, drawn_untold, sound_own, sound_resumed}
use Rattle.standing_laws.proofs.Marks.{is_auto_victim, marked_own, ends_marked}
use Rattle.standing_laws.proofs.Stays.{same_active, right_ended, right_all_ended, right_all_back, kept_by, IsAsking, right_stays}

same_number : (m : ℕ) → (m == m) ≡ true
same_number m = grind (arith, nat_tests)

-- ---- what has no call that waits

is_none : (o : Option RecordId) → is_some o ≡ true → o ≡ None → ⊥
is_none None h e = both_ways false refl h
is_none (Some r) h e = absurd (cc (e))

pub untold_has-no_wait : UntoldHasNoWait
untold_has-no_wait st a r its none = all_of (λ w. (w.session == a.session) ≡ false) st.waiting (λ w k. ⊎_elim
    (λ e. absurd (let i = all_at (IsWaitIn st.actives) st.waiting w r.sound.waits.each k in
    let same : i.active ≡ a = some_active i.active a (sym i.its ∙ (ap (λ (n : ℕ). active_of n st.actives) (eqb-true w.session a.session e) ∙ its)) in
    is_none (st.locks.pending w.txn) (all_at (λ (v : Wait). is_some (st.locks.pending v.txn) ≡ true) st.waiting w r.waiting k) (ap st.locks.pending (sym i.same ∙ ap (λ (x : Active). x.txn) same) ∙ none)))
    (λ e. e)
    (cases_Bool (w.session == a.session)))

-- ---- numbers are drawn

next_more : (last : ℕ) → last ≤ next_txn last
next_more last = by (nat_lt last LAST_TXN)
  where
    by : (b : Bool) → last ≤ cond b (last + 1) last
    by true = omega arith
    by false = omega arith

pub next_is : (last : ℕ) → nat_lt last LAST_TXN ≡ true → last < next_txn last
next_is last h = let k : next_txn last ≡ last + 1 = cond-true (nat_lt last LAST_TXN) (last + 1) last h in omega (arith, k)

right_more : (st : Standing) (more : ℕ) → st.last_txn ≤ more → AreRight st → AreRight (record st { last_txn = more })
right_more st more w r = record {
  sound = record { numbers = numbered_more st.last_txn more st.actives w r.sound.numbers; waits = r.sound.waits; tables = r.sound.tables; owners = r.sound.owners; own_active = r.sound.own_active; own_locked = r.sound.own_locked; places = r.sound.places };
  waiting = r.waiting;
  calls = r.calls;
}

right_drawn : (o : Option Active) (st : Standing) → AreRight st → AreRight (drawn_by o st)
right_drawn None st r = right_more st (next_txn st.last_txn) (next_more st.last_txn) r
right_drawn (Some a) st r = r

right_with : (st : Standing) (a : Active) → AreRight st → a.txn.0 ≡ next_txn st.last_txn → active_of a.session st.actives ≡ None → nat_lt st.last_txn LAST_TXN ≡ true → AreRight (record st { actives = st.actives ++ a ∷ []; last_txn = next_txn st.last_txn })
right_with st a r is none more = subst (λ (n : ℕ). IsRightAt n (st.actives ++ a ∷ []) st.own st.places st.waiting st.locks) is (record {
  sound = sound_begun st.last_txn st.actives st.own st.places st.waiting st.locks a r.sound (subst (λ (n : ℕ). st.last_txn < n) (sym is) (next_is st.last_txn more)) none;
  waiting = r.waiting;
  calls = r.calls;
})

pub begun_is-right : BegunIsRight
begun_is-right st session r none more = right_with st (auto_active st session) r refl none more

-- ---- a call that waited goes on

pub resumed_is-right : ResumedIsRight
resumed_is-right st w r found granted = record {
  sound = sound_resumed st.last_txn st.actives st.own st.places st.waiting st.locks w r.sound found granted;
  waiting = all_of (λ v. is_some ((forgotten w.txn st.locks).pending v.txn) ≡ true) (without_wait w.session st.waiting) (λ v k. let f = filter_among (λ (x : Wait). not (x.session == w.session)) st.waiting v k in
      ap is_some (cond-false (is_same_txn w.txn v.txn) None (st.locks.pending v.txn) (other v f.0 (not_true (v.session == w.session) f.1)))
      ∙ all_at (λ (x : Wait). is_some (st.locks.pending x.txn) ≡ true) st.waiting v r.waiting f.0);
  calls = all_filter (λ v. MayWait v.call) (λ (x : Wait). not (x.session == w.session)) st.waiting r.calls;
}
  where
    not_true : (b : Bool) → not b ≡ true → b ≡ false
    not_true true h = absurd (cc (h))
    not_true false h = refl

    mine : IsWaitIn st.actives w
    mine = all_at (IsWaitIn st.actives) st.waiting w r.sound.waits.each (found_is (λ (v : Wait). v.session == w.session) st.waiting w found).0

    other : (v : Wait) → IsAmong v st.waiting → (v.session == w.session) ≡ false → is_same_txn w.txn v.txn ≡ false
    other v there n = ⊎_elim
        (λ e. absurd (let i = all_at (IsWaitIn st.actives) st.waiting v r.sound.waits.each there in
        let x = its_session v.session st.actives i.active i.its in
        let y = its_session w.session st.actives mine.active mine.its in
        let same : i.active ≡ mine.active = same_active st.last_txn st.actives i.active mine.active r.sound.numbers x.0 y.0 (i.same ∙ (sym (same_is w.txn v.txn e) ∙ sym mine.same)) in
        let session : v.session ≡ w.session = sym x.1 ∙ (ap (λ (q : Active). q.session) same ∙ y.1) in
        both_ways (v.session == w.session) n (ap (λ (m : ℕ). m == w.session) session ∙ same_number w.session)))
        (λ e. e)
        (cases_Bool (is_same_txn w.txn v.txn))

-- ---- a call on records

-- a transaction that may run a call: it is its session's, and was told nothing
pub record MayRun (st : Standing) (a : Active) : Type 0 where
  pub right : AreRight st
  pub its : active_of a.session st.actives ≡ Some a
  pub told : st.locks.pending a.txn ≡ None

pub there_is : (st : Standing) (a : Active) → MayRun st a → IsAmong a st.actives
there_is st a m = (its_session a.session st.actives a m.its).0

active_is : (st : Standing) (a : Active) → MayRun st a → is_active a.txn st.actives ≡ true
active_is st a m = any_from (λ (b : Active). is_same_txn a.txn b.txn) st.actives a (there_is st a m) (same_itself a.txn)

-- its needs are got, and given back as its level says
right_locked : (st : Standing) (a : Active) (ns : List Need) → MayRun st a → first_blocked a.txn ns st.locks.at ≡ None → AreRight (with_locks a (all_got a.txn ns st.locks.at) st)
right_locked st a ns m free = record {
  sound = sound_back st.last_txn st.actives st.own st.places st.waiting (state (all_got a.txn ns st.locks.at) st.locks.pending) a.level a.txn
      (sound_all_got st.last_txn st.actives st.own st.places st.waiting st.locks a.txn ns m.right.sound (active_is st a m) m.told free);
  waiting = m.right.waiting;
  calls = m.right.calls;
}

back_keeps : (level : Isolation) (t u : TxnId) (at : Queues) (r : RecordId) → HasWrite u (at r).0 → HasWrite u (given_back level t at r).0
back_keeps ReadUncommitted t u at r h = h
back_keeps ReadCommitted t u at r h = read_keeps t u (at r) h
back_keeps RepeatableRead t u at r h = h
back_keeps Serializable t u at r h = h

-- what it changes it then holds for writing
changes_held : (st : Standing) (a : Active) (call : Call) (g : Target) → first_blocked a.txn (needs_in st a call g) st.locks.at ≡ None
    → AllByRecursion (HoldsWrite (given_back a.level a.txn (all_got a.txn (needs_in st a call g) st.locks.at)) a.txn) (with_numbers (changes_with st a g (outcome_of st a call g).changes))
changes_held st a call g free =
    let got : Queues = all_got a.txn (needs_in st a call g) st.locks.at in
    all_weaker (λ (c : ℕ × RecordChange). IsWritten got a.txn (need c.0 (On (changed_name c.1)) (write_type a.level))) (HoldsWrite (given_back a.level a.txn got) a.txn)
    (λ c written. back_keeps a.level a.txn a.txn got (record_of (need c.0 (On (changed_name c.1)) (write_type a.level))) (written (write_is a.level)))
    (with_numbers (changes_with st a g (outcome_of st a call g).changes))
    (of_changes (IsWritten got a.txn) st a call g (all_written a.txn (needs_in st a call g) st.locks.at free))

-- ---- cursors

-- the cursors of a session that has a transaction are others
right_at : (st : Standing) (session : ℕ) (others : List Place) → AreRight st → (active_of session st.actives ≡ None → others ≡ []) → AreRight (record st { places = with_at session others st.places })
right_at st session others r none = record {
  sound = record {
    numbers = r.sound.numbers;
    waits = r.sound.waits;
    tables = r.sound.tables;
    owners = r.sound.owners;
    own_active = r.sound.own_active;
    own_locked = r.sound.own_locked;
    places = λ s h. ⊎_elim
        (λ e. cond-true (s == session) others (st.places s) e ∙ none (ap (λ (n : ℕ). active_of n st.actives) (sym (eqb-true s session e)) ∙ h))
        (λ e. cond-false (s == session) others (st.places s) e ∙ r.sound.places s h)
        (cases_Bool (s == session));
  };
  waiting = r.waiting;
  calls = r.calls;
}

not_both : (o : Option Active) (a : Active) (others : List Place) → o ≡ Some a → o ≡ None → others ≡ []
not_both o a others its none = let k : Some a ≡ None = sym its ∙ none in absurd (cc (k))

right_opened : (o : Option Active) (st : Standing) (session cursor db : ℕ) (at : Option Name) → AreRight st → active_of session st.actives ≡ o → is_some o ≡ true → AreRight (opened cursor db at session st)
right_opened None st session cursor db at r its has = absurd (cc (has))
right_opened (Some a) st session cursor db at r its has =
    right_at st session (st.places session ++ record { cursor = cursor; db = db; at = at } ∷ []) r (not_both (active_of session st.actives) a (st.places session ++ record { cursor = cursor; db = db; at = at } ∷ []) its)

right_closed_cursor : (st : Standing) (session cursor : ℕ) → AreRight st → AreRight (closed_cursor cursor session st)
right_closed_cursor st session cursor r =
    right_at st session (filter (λ p. not (p.cursor == cursor)) (st.places session)) r (λ none. ap (filter (λ (p : Place). not (p.cursor == cursor))) (r.sound.places session none))

-- who has a cursor has a transaction
has_active : (st : Standing) (session cursor : ℕ) (p : Place) → AreRight st → place_at cursor (st.places session) ≡ Some p → is_some (active_of session st.actives) ≡ true
has_active st session cursor p r found = by (active_of session st.actives) refl
  where
    by : (o : Option Active) → active_of session st.actives ≡ o → is_some o ≡ true
    by (Some a) e = refl
    by None e = let k : None ≡ Some p = sym (ap (place_at cursor) (r.sound.places session e)) ∙ found in absurd (cc (k))

right_opened_at : (o : Option Place) (st : Standing) (session cursor to : ℕ) → AreRight st → place_at cursor (st.places session) ≡ o → AreRight (opened_at o to session st)
right_opened_at None st session cursor to r found = r
right_opened_at (Some p) st session cursor to r found = right_opened (active_of session st.actives) st session to p.db p.at r refl (has_active st session cursor p r found)

-- only a transaction opens cursors
opens_in : (o : Option Active) (cursor : ℕ) (db : List ℕ) → txn_refusal (Open cursor db) o ≡ None → is_some o ≡ true
opens_in None cursor db h = absurd (cc (h))
opens_in (Some a) cursor db h = refl

-- ---- what a call comes to

right_outcome : (st : Standing) (a : Active) (call : Call) (g : Target) (evaluated : Evaluated) → AreRight st → active_of a.session st.actives ≡ Some a → is_active a.txn st.actives ≡ true
    → AllByRecursion (HoldsWrite st.locks.at a.txn) (with_numbers (changes_with st a g evaluated.changes)) → AreRight (with_outcome a call g evaluated st)
right_outcome st a call g evaluated r its active held =
    let s = sound_own st.last_txn st.actives st.own st.places st.waiting st.locks a.txn (with_numbers (changes_with st a g evaluated.changes)) r.sound active held in
    record {
      sound = record {
        numbers = s.numbers;
        waits = s.waits;
        tables = s.tables;
        owners = s.owners;
        own_active = s.own_active;
        own_locked = s.own_locked;
        places = (right_at st a.session (moved call evaluated.place (st.places a.session)) r (not_both (active_of a.session st.actives) a (moved call evaluated.place (st.places a.session)) its)).sound.places;
      };
      waiting = r.waiting;
      calls = r.calls;
    }

right_committed : (changes : List Change) (st : Standing) → AreRight st → AreRight (committed_if_any changes st)
right_committed [] st r = r
right_committed (c ∷ changes) st r = r

same_parts : (changes : List Change) (st : Standing) → ((committed_if_any changes st).actives ≡ st.actives) × ((committed_if_any changes st).waiting ≡ st.waiting)
same_parts [] st = (refl, refl)
same_parts (c ∷ changes) st = (refl, refl)

right_end : (changes : List Change) (st : Standing) (a : Active) → AreRight st → IsAmong a st.actives → AllByRecursion (λ w. (w.session == a.session) ≡ false) st.waiting → AreRight (ended a (committed_if_any changes st))
right_end changes st a r there others =
    let s = same_parts changes st in
    right_ended (committed_if_any changes st) a (right_committed changes st r) (subst (IsAmong a) (sym s.0) there) (subst (AllByRecursion (λ (w : Wait). (w.session == a.session) ≡ false)) (sym s.1) others)

right_closed : (b : Bool) (st : Standing) (a : Active) (changes : List Change) → AreRight st → IsAmong a st.actives → AllByRecursion (λ w. (w.session == a.session) ≡ false) st.waiting → AreRight (closed b a changes st)
right_closed true st a changes r there others = right_end changes st a r there others
right_closed false st a changes r there others = r

right_fate : (fate : Fate) (old st : Standing) (a : Active) (call : Call) (g : Target) → MayWait call → AreRight old → MayRun st a → first_blocked a.txn (needs_in st a call g) st.locks.at ≡ None
    → AreRight (after_fate fate old st a call g (outcome_of st a call g))
right_fate Succeeds old st a call g may before m free =
    right_closed a.is_auto (with_outcome a call g (outcome_of st a call g) (answered a call g st)) a (with_names (changes_with st a g (outcome_of st a call g).changes))
    (right_outcome (answered a call g st) a call g (outcome_of st a call g) (right_locked st a (needs_in st a call g) m free) m.its (active_is st a m) (subst (λ (cs : List (Numbered × RecordChange)). AllByRecursion (HoldsWrite (answered a call g st).locks.at a.txn) (with_numbers cs)) (sym (answered_changes st a call g (outcome_of st a call g).changes)) (changes_held st a call g free)))
    (there_is st a m) (untold_has-no_wait st a m.right m.its m.told)
right_fate IsRefused old st a call g may before m free = right_closed a.is_auto (answered a call g st) a [] (right_locked st a (needs_in st a call g) m free) (there_is st a m) (untold_has-no_wait st a m.right m.its m.told)
right_fate Faults old st a call g may before m free = before

right_changes : (changes : List RecordChange) (old st : Standing) (a : Active) (call : Call) (g : Target) (answer : Answer) → MayWait call → AreRight old → MayRun st a → first_blocked a.txn (needs_in st a call g) st.locks.at ≡ None
    → AreRight (after_changes changes old st a call g (outcome_of st a call g) answer)
right_changes [] old st a call g answer may before m free = right_fate Succeeds old st a call g may before m free
right_changes (c ∷ changes) old st a call g answer may before m free = right_fate (fate_of answer) old st a call g may before m free

-- a call that is stopped
not_true : (b : Bool) → not b ≡ true → b ≡ false
not_true true h = absurd (cc (h))
not_true false h = refl

apart_victims : (vs : List Victim) (w : Wait) (a : Active) → is_victim a.session vs ≡ true → is_victim w.session vs ≡ false → (w.session == a.session) ≡ false
apart_victims vs w a h k = ⊎_elim
    (λ e. absurd (both_ways (is_victim w.session vs) k (ap (λ (n : ℕ). is_victim n vs) (eqb-true w.session a.session e) ∙ h)))
    (λ e. e)
    (cases_Bool (w.session == a.session))

right_victims : (st : Standing) (a : Active) (line : ℕ) (call : Call) (g : Target) (n : Need) (vs : List Victim) → MayWait call → MayRun st a → first_blocked a.txn (needs_in st a call g) st.locks.at ≡ Some n
    → AreRight (with_victims vs (with_waiting st a line call g n vs))
right_victims st a line call g n vs may m stopped =
    subst AreRight (ends_marked vs vs st.actives after)
    (right_all_ended (autos_in vs (marked vs st.actives)) after
    (own_filter (is_auto_victim vs) (marked vs st.actives) (marked_own vs st.actives m.right.sound.waits.sessions))
    (all_of (λ b. IsAmong b after.actives) (autos_in vs (marked vs st.actives)) (λ b k. (filter_among (is_auto_victim vs) (marked vs st.actives) b k).0))
    (all_of (λ b. AllByRecursion (λ w. (w.session == b.session) ≡ false) after.waiting) (autos_in vs (marked vs st.actives)) (λ b k. all_of (λ w. (w.session == b.session) ≡ false) after.waiting (λ w h.
    apart_victims vs w b (and_parts b.is_auto (is_victim b.session vs) (filter_among (is_auto_victim vs) (marked vs st.actives) b k).1).1 (not_true (is_victim w.session vs) (filter_among (kept_by vs) (st.waiting ++ asking a line call ∷ []) w h).1))))
    right)
  where
    after : Standing
    after = without_waits_of vs (with_waiting st a line call g n vs)

    before : IsSoundAt st.last_txn st.actives st.own st.places st.waiting (locks_before st a call g)
    before = sound_all_got st.last_txn st.actives st.own st.places st.waiting st.locks a.txn (granted_part a.txn (needs_in st a call g) st.locks.at) m.right.sound (active_is st a m) m.told (granted_free a.txn (needs_in st a call g) st.locks.at)

    asks : IsAsking st.last_txn st.actives st.own st.places st.waiting (locks_before st a call g) a (asking a line call) n vs
    asks = record { sound = before; its = m.its; session = refl; txn = refl; told = m.told; others = untold_has-no_wait st a m.right m.its m.told; stopped = stopped_behind a.txn (needs_in st a call g) st.locks.at n stopped }

    right : AreRight after
    right = right_all_back (filter (λ b. is_victim b.session vs) st.actives) st.last_txn after.actives st.own st.places after.waiting (with_wait a.txn n (txns_of vs st.actives) (locks_before st a call g))
        (right_stays st.last_txn st.actives st.own st.places st.waiting (locks_before st a call g) a (asking a line call) n vs asks m.right.waiting m.right.calls may)

right_stop : (b : Bool) (st : Standing) (a : Active) (line : ℕ) (call : Call) (g : Target) (n : Need) (vs : List Victim) → MayWait call → MayRun st a → first_blocked a.txn (needs_in st a call g) st.locks.at ≡ Some n
    → AreRight (after_stop b st a line call g n vs)
right_stop false st a line call g n vs may m stopped = right_locked st a (granted_part a.txn (needs_in st a call g) st.locks.at) m (granted_free a.txn (needs_in st a call g) st.locks.at)
right_stop true st a line call g n vs may m stopped = right_victims st a line call g n vs may m stopped

right_taking : (o : Option Need) (old st : Standing) (a : Active) (line : ℕ) (call : Call) (g : Target) (answer : Answer) (vs : List Victim) → MayWait call → AreRight old → MayRun st a → first_blocked a.txn (needs_in st a call g) st.locks.at ≡ o
    → AreRight (after_taking o old st a line call g answer vs)
right_taking None old st a line call g answer vs may before m is = right_changes (outcome_of st a call g).changes old st a call g answer may before m is
right_taking (Some n) old st a line call g answer vs may before m is = right_stop a.waits st a line call g n vs may m is

right_on : (o : Option Target) (old st : Standing) (a : Active) (line : ℕ) (call : Call) (answer : Answer) (vs : List Victim) → MayWait call → AreRight old → MayRun st a → AreRight (after_on o old st a line call answer vs)
right_on None old st a line call answer vs may before m = before
right_on (Some g) old st a line call answer vs may before m = right_taking (first_blocked a.txn (needs_in st a call g) st.locks.at) old st a line call g answer vs may before m refl

-- ---- the refusals that a call passed

or_none : (a b : Option Answer) → or_refusal a b ≡ None → (a ≡ None) × (b ≡ None)
or_none None b h = (refl, h)
or_none (Some x) b h = absurd (cc (h))

pub early_parts : (st : Standing) (session : ℕ) (call : Call) → early_refusal st session call ≡ None → (waits_refusal st (active_of session st.actives) ≡ None) × (txn_refusal call (active_of session st.actives) ≡ None)
early_parts st session call h =
    let active = active_of session st.actives in
    let a = or_none (fault_refusal st.fault) (or_refusal (waits_refusal st active) (or_refusal (abort_refusal call active) (txn_refusal call active))) h in
    let b = or_none (waits_refusal st active) (or_refusal (abort_refusal call active) (txn_refusal call active)) a.1 in
    (b.0, (or_none (abort_refusal call active) (txn_refusal call active) b.1).1)

untold : (st : Standing) (a : Active) → waits_refusal st (Some a) ≡ None → st.locks.pending a.txn ≡ None
untold st a h = by (st.locks.pending a.txn) h
  where
    by : (o : Option RecordId) → cond (is_some o) (Some SessionWaits) None ≡ None → o ≡ None
    by None k = refl
    by (Some r) k = absurd (cc (k))

pub has_number : (last : ℕ) → number_refusal last None ≡ None → nat_lt last LAST_TXN ≡ true
has_number last h = ⊎_elim
    (λ e. e)
    (λ e. let k : Some IdsEnded ≡ None = sym (cond-false (nat_lt last LAST_TXN) None (Some IdsEnded) e) ∙ h in absurd (cc (k)))
    (cases_Bool (nat_lt last LAST_TXN))

pub late_number : (st : Standing) (session : ℕ) (call : Call) → late_refusal st session call ≡ None → number_refusal st.last_txn (active_of session st.actives) ≡ None
late_number st session call h = (or_none (number_refusal st.last_txn (active_of session st.actives)) _ h).0

pub may_run : (st : Standing) (session : ℕ) (a : Active) → AreRight st → active_of session st.actives ≡ Some a → waits_refusal st (Some a) ≡ None → MayRun st a
may_run st session a r its free = record { right = r; its = ap (λ (n : ℕ). active_of n st.actives) (its_session session st.actives a its).1 ∙ its; told = untold st a free }

right_run : (o : Option Active) (st : Standing) (session line : ℕ) (call : Call) (answer : Answer) (vs : List Victim) → MayWait call → AreRight st → active_of session st.actives ≡ o → waits_refusal st o ≡ None → number_refusal st.last_txn o ≡ None
    → AreRight (after_run o st session line call answer vs)
right_run (Some a) st session line call answer vs may r its free number = right_on (target_of st session call) st st a line call answer vs may r (may_run st session a r its free)
right_run None st session line call answer vs may r its free number =
    right_on (target_of st session call) st (begun st session) (auto_active st session) line call answer vs may r (record {
      right = begun_is-right st session r its (has_number st.last_txn number);
      its = begun_found st.actives (auto_active st session) its;
      told = drawn_untold st.last_txn st.actives st.own st.places st.waiting st.locks (auto_active st session).txn r.sound (next_is st.last_txn (has_number st.last_txn number));
    })

-- ---- the other calls

right_commit : (fate : Fate) (changes : List Change) (st : Standing) (a : Active) → AreRight st → IsAmong a st.actives → AllByRecursion (λ w. (w.session == a.session) ≡ false) st.waiting → AreRight (after_commit fate changes a st)
right_commit Succeeds changes st a r there others = right_end changes st a r there others
right_commit IsRefused changes st a r there others = r
right_commit Faults changes st a r there others = r

right_ending : (o : Option Active) (st : Standing) (session : ℕ) (answer : Answer) → AreRight st → active_of session st.actives ≡ o → waits_refusal st o ≡ None → AreRight (after_ending o st answer)
right_ending None st session answer r its free = r
right_ending (Some a) st session answer r its free =
    let m = may_run st session a r its free in right_commit (fate_of answer) (changes_named st (st.own a.txn.0)) st a r (there_is st a m) (untold_has-no_wait st a r m.its m.told)

right_abort : (o : Option Active) (st : Standing) (session : ℕ) → AreRight st → active_of session st.actives ≡ o → waits_refusal st o ≡ None → AreRight (ended_if_any o st)
right_abort None st session r its free = r
right_abort (Some a) st session r its free = let m = may_run st session a r its free in right_ended st a r (there_is st a m) (untold_has-no_wait st a r m.its m.told)

right_catalog : (fate : Fate) (changes : List Change) (o : Option Active) (st : Standing) → AreRight st → AreRight (after_catalog fate changes o st)
right_catalog Succeeds changes o st r = right_committed changes (drawn_by o st) (right_drawn o st r)
right_catalog IsRefused changes o st r = right_drawn o st r
right_catalog Faults changes o st r = r

pub no_active : (o : Option Active) (call : Call) → ((a : Active) → txn_refusal call (Some a) ≡ None → ⊥) → txn_refusal call o ≡ None → o ≡ None
no_active None call f h = refl
no_active (Some a) call f h = absurd (f a h)

right_begin : (st : Standing) (session : ℕ) (level : Isolation) (durability : Durability) (wait : Bool) → AreRight st → active_of session st.actives ≡ None → nat_lt st.last_txn LAST_TXN ≡ true → AreRight (begun_by level durability wait st session)
right_begin st session level durability wait r none more =
    right_with st (record { txn = record { 0 = next_txn st.last_txn }; session = session; level = level; durability = durability; waits = wait; is_auto = false; deadlock = None }) r refl none more

right_performed : (call : Call) (st : Standing) (session line : ℕ) (answer : Answer) (vs : List Victim) → AreRight st → waits_refusal st (active_of session st.actives) ≡ None → txn_refusal call (active_of session st.actives) ≡ None
    → number_refusal st.last_txn (active_of session st.actives) ≡ None → AreRight (after_performed call st session line answer vs)
right_performed (Begin level durability wait) st session line answer vs r free txn number =
    let none = no_active (active_of session st.actives) (Begin level durability wait) (λ a h. absurd (cc (h))) txn in
    right_begin st session level durability wait r none (has_number st.last_txn (subst (λ (o : Option Active). number_refusal st.last_txn o ≡ None) none number))
right_performed Commit st session line answer vs r free txn number = right_ending (active_of session st.actives) st session answer r refl free
right_performed Abort st session line answer vs r free txn number = right_abort (active_of session st.actives) st session r refl free
right_performed Lists st session line answer vs r free txn number = right_drawn (active_of session st.actives) st r
right_performed (Create db kind) st session line answer vs r free txn number = right_catalog (fate_of answer) _ (active_of session st.actives) st r
right_performed (CreateIndex db index) st session line answer vs r free txn number = right_catalog (fate_of answer) _ (active_of session st.actives) st r
right_performed (Remove db) st session line answer vs r free txn number = right_catalog (fate_of answer) _ (active_of session st.actives) st r
right_performed (Rename db to) st session line answer vs r free txn number = right_catalog (fate_of answer) _ (active_of session st.actives) st r
right_performed (Truncate db) st session line answer vs r free txn number = right_catalog (fate_of answer) _ (active_of session st.actives) st r
right_performed (Get db key rmw) st session line answer vs r free txn number = right_run (active_of session st.actives) st session line (Get db key rmw) answer vs tt r refl free number
right_performed (GetBoth db key value rmw) st session line answer vs r free txn number = right_run (active_of session st.actives) st session line (GetBoth db key value rmw) answer vs tt r refl free number
right_performed (Put db key value mode) st session line answer vs r free txn number = right_run (active_of session st.actives) st session line (Put db key value mode) answer vs tt r refl free number
right_performed (Delete db key) st session line answer vs r free txn number = right_run (active_of session st.actives) st session line (Delete db key) answer vs tt r refl free number
right_performed (Open cursor db) st session line answer vs r free txn number =
    right_opened (active_of session st.actives) st session cursor (st.numbers db) None r refl (opens_in (active_of session st.actives) cursor db txn)
right_performed (Close cursor) st session line answer vs r free txn number = right_closed_cursor st session cursor r
right_performed (Dup cursor to) st session line answer vs r free txn number = right_opened_at (place_at cursor (st.places session)) st session cursor to r refl
right_performed (Count cursor) st session line answer vs r free txn number = right_run (active_of session st.actives) st session line (Count cursor) answer vs tt r refl free number
right_performed (Cur cursor motion rmw) st session line answer vs r free txn number = right_run (active_of session st.actives) st session line (Cur cursor motion rmw) answer vs tt r refl free number
right_performed (CPutCur cursor value) st session line answer vs r free txn number = right_run (active_of session st.actives) st session line (CPutCur cursor value) answer vs tt r refl free number
right_performed (CDel cursor) st session line answer vs r free txn number = right_run (active_of session st.actives) st session line (CDel cursor) answer vs tt r refl free number
right_performed (CPut cursor key value mode) st session line answer vs r free txn number = right_run (active_of session st.actives) st session line (CPut cursor key value mode) answer vs tt r refl free number

right_evaluated : (o : Option Answer) (st : Standing) (session line : ℕ) (call : Call) (answer : Answer) (vs : List Victim) → AreRight st → early_refusal st session call ≡ None → late_refusal st session call ≡ o
    → AreRight (after_evaluated o st session line call answer vs)
right_evaluated (Some refusal) st session line call answer vs r early late = right_drawn (active_of session st.actives) st r
right_evaluated None st session line call answer vs r early late = let e = early_parts st session call early in right_performed call st session line answer vs r e.0 e.1 (late_number st session call late)

pub right_call : (o : Option Answer) (st : Standing) (session line : ℕ) (call : Call) (answer : Answer) (vs : List Victim) → AreRight st → early_refusal st session call ≡ o → AreRight (after_call o st session line call answer vs)
right_call (Some refusal) st session line call answer vs r early = r
right_call None st session line call answer vs r early = right_evaluated (late_refusal st session call) st session line call answer vs r early refl

-- ---- the other events

right_resumed : (o : Option Wait) (limit : Option Answer) (st : Standing) (session line : ℕ) (answer : Answer) (vs : List Victim) → st.fault ≡ None → AreRight st → wait_of session st.waiting ≡ o → IsResumed o limit st session line answer vs
    → AreRight (after_resumed o st session line answer vs)
right_resumed None limit st session line answer vs fault r its is = r
right_resumed (Some w) limit st session line answer vs fault r its is =
    let f = found_is (λ (v : Wait). v.session == session) st.waiting w its in
    let same : w.session ≡ session = eqb-true w.session session f.1 in
    right_call (early_refusal (resumed st w) session w.call) (resumed st w) session line w.call answer vs
    (resumed_is-right st w r (ap (λ (n : ℕ). wait_of n st.waiting) same ∙ its) (subst (λ (x : Option Fault). IsReady x st w.txn) fault is.1)) refl

-- a session ends with its waiting call
none_waits : (as_ : List Active) (ws : List Wait) (session : ℕ) → AllByRecursion (IsWaitIn as_) ws → active_of session as_ ≡ None → AllByRecursion (λ w. (w.session == session) ≡ false) ws
none_waits as_ ws session each none = all_of (λ w. (w.session == session) ≡ false) ws (λ w k. ⊎_elim
    (λ e. absurd (let i = all_at (IsWaitIn as_) ws w each k in let n : Some i.active ≡ None = sym i.its ∙ (ap (λ (m : ℕ). active_of m as_) (eqb-true w.session session e) ∙ none) in cc (n)))
    (λ e. e)
    (cases_Bool (w.session == session)))

keeps_waits : (session : ℕ) (ws : List Wait) → AllByRecursion (λ w. (w.session == session) ≡ false) ws → without_wait session ws ≡ ws
keeps_waits session [] h = refl
keeps_waits session (w ∷ ws) h = cond-true (not (w.session == session)) (w ∷ without_wait session ws) (without_wait session ws) (ap not h.0) ∙ ap (λ l. w ∷ l) (keeps_waits session ws h.1)

right_session : (o : Option Active) (st : Standing) (session : ℕ) → AreRight st → active_of session st.actives ≡ o → AreRight (ended_if_any o (record st { waiting = without_wait session st.waiting }))
right_session None st session r its = subst (λ (l : List Wait). IsRightAt st.last_txn st.actives st.own st.places l st.locks) (sym (keeps_waits session st.waiting (none_waits st.actives st.waiting session r.sound.waits.each its))) r
right_session (Some a) st session r its = record {
  sound = sound_left st.last_txn st.actives st.own st.places st.waiting (without_wait session st.waiting) st.locks a r.sound mine.0 left;
  waiting = all_of (λ w. is_some ((released a.txn st.locks).pending w.txn) ≡ true) (without_wait session st.waiting) (λ w k. let f = filter_among (λ (v : Wait). not (v.session == session)) st.waiting w k in
      ap is_some (cond-false (is_same_txn a.txn w.txn) None (st.locks.pending w.txn) (apart w f.0 (not_true (w.session == session) f.1)))
      ∙ all_at (λ (v : Wait). is_some (st.locks.pending v.txn) ≡ true) st.waiting w r.waiting f.0);
  calls = all_filter (λ v. MayWait v.call) (λ (v : Wait). not (v.session == session)) st.waiting r.calls;
}
  where
    mine : IsAmong a st.actives × (a.session ≡ session)
    mine = its_session session st.actives a its

    apart : (w : Wait) → IsAmong w st.waiting → (w.session == session) ≡ false → is_same_txn a.txn w.txn ≡ false
    apart w there n = ⊎_elim
        (λ e. absurd (let i = all_at (IsWaitIn st.actives) st.waiting w r.sound.waits.each there in
        let x = its_session w.session st.actives i.active i.its in
        let same : a ≡ i.active = same_active st.last_txn st.actives a i.active r.sound.numbers mine.0 x.0 (same_is a.txn w.txn e ∙ sym i.same) in
        let s : w.session ≡ session = sym x.1 ∙ (ap (λ (q : Active). q.session) (sym same) ∙ mine.1) in
        both_ways (w.session == session) n (ap (λ (m : ℕ). m == session) s ∙ same_number session)))
        (λ e. e)
        (cases_Bool (is_same_txn a.txn w.txn))

    left : AreLeft st.actives (without_wait session st.waiting) st.locks.pending a
    left = record {
      others = all_of (λ w. (w.session == a.session) ≡ false) (without_wait session st.waiting) (λ w k. ap (λ (m : ℕ). w.session == m) mine.1 ∙ not_true (w.session == session) (filter_among (λ (v : Wait). not (v.session == session)) st.waiting w k).1);
      each = all_filter (IsWaitIn st.actives) (λ (v : Wait). not (v.session == session)) st.waiting r.sound.waits.each;
      apart = waits_filter (λ (v : Wait). not (v.session == session)) st.waiting r.sound.waits.apart;
      told = λ u q n h. let v = wait_of_told u st.actives st.waiting st.locks.pending r.sound.waits q h in
          any_from (λ (x : Wait). is_same_txn u x.txn) (without_wait session st.waiting) v.wait
          (among_filter (λ (x : Wait). not (x.session == session)) st.waiting v.wait v.there (ap not (⊎_elim
          (λ e. absurd (let same : v.in_.active ≡ a = some_active v.in_.active a (sym v.in_.its ∙ (ap (λ (m : ℕ). active_of m st.actives) (eqb-true v.wait.session session e) ∙ its)) in
          both_ways (is_same_txn a.txn u) n (subst (λ (x : TxnId). is_same_txn a.txn x ≡ true) (ap (λ (x : Active). x.txn) (sym same) ∙ (v.in_.same ∙ v.its)) (same_itself a.txn))))
          (λ e. e)
          (cases_Bool (v.wait.session == session)))))
          (subst (λ (x : TxnId). is_same_txn u x ≡ true) (sym v.its) (same_itself u));
    }

right_faulted : (answer : Answer) (st : Standing) → AreRight st → AreRight (faulted_if answer st)
right_faulted DiskFault st r = r
right_faulted answer st r = r

right_begin_sync : (answer : Answer) (st : Standing) → AreRight st → AreRight (after_begin st answer)
right_begin_sync Done st r = r
right_begin_sync DiskFault st r = r
right_begin_sync answer st r = r

right_turn : (step : Step) (answer : Answer) (st : Standing) → AreRight st → AreRight (after_turn step st answer)
right_turn BeginStep Done st r = r
right_turn Finish Done st r = r
right_turn BeginStep answer st r = right_faulted answer st r
right_turn Finish answer st r = right_faulted answer st r
right_turn Flush answer st r = right_faulted answer st r
right_turn SyncStep answer st r = right_faulted answer st r

pub standings_stay-right : StandingsStayRight
standings_stay-right limit st (Called session line call answer victims) fault r is = right_call (early_refusal st session call) st session line call answer victims r refl
standings_stay-right limit st (Resume session line answer victims) fault r is = right_resumed (wait_of session st.waiting) limit st session line answer victims fault r refl is
standings_stay-right limit st (End session) fault r is = right_session (active_of session st.actives) st session r refl
standings_stay-right limit st (WriteOut answer) fault r is = right_faulted answer st r
standings_stay-right limit st (SyncBegin answer) fault r is = right_begin_sync answer st r
standings_stay-right limit st (SyncEnd answer) fault r is = right_faulted answer (record st { begun = None }) r
standings_stay-right limit st (Turn line step answer) fault r is = right_turn step answer st r

-- Transactions of one call go on having changed nothing: by cases of the event, cut as after_event is.
use Rattle.std.proofs.Common.{◌≡◌, ℕ, ◌<◌, ◌≤◌, ◌==◌, Bool, true, false, not, inl, inr, List, [], ◌∷◌, ◌++◌, Some, None, Option, refl, ap, sym, ◌∙◌, subst, ⊎_elim, arith}
use Rattle.std.specs.List.{find, AllByRecursion}
use Rattle.std.proofs.lemmas.Bool.{cases_Bool, cond-true, cond-false, both_ways, eqb-true}
use Rattle.std.proofs.lemmas.Bool.Decides.{nat_tests}
use Rattle.je_order.specs.declared.txn_id.TxnId.{TxnId}
use Rattle.je_order.specs.Transactions.{is_same_txn}
use Rattle.je_order.proofs.TxnIds.{same_is}
use Rattle.store_model.specs.declared.call.Call.{Call}
use Rattle.store_model.specs.declared.call.Call.TheVariants.{Begin, Commit, Abort, List as Lists, Create, CreateIndex, Remove, Rename, Truncate, Get, GetBoth, Put, Delete, Open, Close, Dup, Count, Cur, CPutCur, CDel, CPut}
use Rattle.store_model.specs.declared.change.Change.{Change}
use Rattle.store_model.specs.declared.record_change.RecordChange.{RecordChange}
use Rattle.store_model.specs.declared.place.Place.{Place}
use Rattle.store_model.specs.declared.need.Need.{Need}
use Rattle.store_model.specs.declared.victim.Victim.{Victim}
use Rattle.store_model.specs.declared.step.Step.{Step}
use Rattle.store_model.specs.declared.step.Step.TheVariants.{Begin as BeginStep, Flush, Finish, Sync as SyncStep}
use Rattle.store_model.specs.declared.answer.Answer.{Answer}
use Rattle.store_model.specs.declared.answer.Answer.TheVariants.{Done, DiskFault}
use Rattle.store_model.specs.declared.answer.Fault.{Fault}
use Rattle.store_model.specs.declared.event.Event.TheVariants.{Call as Called, Resume, End, WriteOut, SyncBegin, SyncEnd, Turn}
use Rattle.store_model.specs.Records.{Evaluated}
use Rattle.store_model.specs.Refusals.{next_txn}
use Rattle.je_answers.specs.declared.active.Active.{Active}
use Rattle.je_answers.specs.declared.wait.Wait.{Wait}
use Rattle.je_answers.specs.Standing.{Standing, active_of, wait_of, without_wait, place_at, with_at}
use Rattle.je_answers.specs.Views.{Target, target_of, changes_with, with_numbers, with_names, changes_named, outcome_of, needs_in}
use Rattle.je_answers.specs.Refusals.{waits_refusal, early_refusal, late_refusal, number_refusal}
use Rattle.je_answers.specs.Locking.{first_blocked}
use Rattle.je_answers.specs.Events.{auto_active, begun, resumed, IsReady, IsResumed}
use Rattle.je_answers.specs.After.{marked_by, Fate, fate_of, drawn_by, without_session, ended, ended_if_any, committed_if_any, answered, with_outcome, opened_at, closed, after_fate, after_changes, marked, all_ended, autos_in, without_waits_of, with_waiting, after_stop, after_taking, after_on, after_run, after_commit, after_ending, after_catalog, after_performed, after_evaluated, after_call, after_resumed, faulted_if, after_begin, after_turn}
use Rattle.je_answers.specs.After.Fate.{Succeeds, IsRefused, Faults}
use Rattle.standing_laws.specs.Right.{AreNumbered, is_active, AreRight}
use Rattle.standing_laws.specs.Laws.{AreBare, StandingsStayBare, BegunIsBare}
use Rattle.standing_laws.proofs.Among.{IsAmong, any_some, all_at, all_of, found_is}
use Rattle.standing_laws.proofs.Steps.{Changes}
use Rattle.standing_laws.proofs.Moves.{all_filter, begun_found, drawn_untold}
use Rattle.standing_laws.proofs.Stays.{same_active}
use Rattle.standing_laws.proofs.StandingsStay.{resumed_is-right, begun_is-right, MayRun, there_is, early_parts, has_number, late_number, may_run, next_is}

same_number : (m : ℕ) → (m == m) ≡ true
same_number m = grind (arith, nat_tests)

abbrev IsBareOf : Changes → Active → Type 0
IsBareOf own a = a.is_auto ≡ true → own a.txn.0 ≡ []

abbrev HaveBare : List Active → Changes → Type 0
HaveBare as_ own = AllByRecursion (IsBareOf own) as_

-- ---- begins and ends

bare_and : (own : Changes) (as_ : List Active) (a : Active) → HaveBare as_ own → IsBareOf own a → HaveBare (as_ ++ a ∷ []) own
bare_and own [] a h k = (k, tt)
bare_and own (b ∷ bs) a h k = (h.0, bare_and own bs a h.1 k)

numbered_le : (last : ℕ) (as_ : List Active) (a : Active) → AreNumbered last as_ → IsAmong a as_ → a.txn.0 ≤ last
numbered_le last [] a h k = absurd k
numbered_le last (b ∷ bs) a h (inl e) = subst (λ (x : Active). x.txn.0 ≤ last) e h.0
numbered_le last (b ∷ bs) a h (inr k) = numbered_le last bs a h.2 k

not_active : (last n : ℕ) (as_ : List Active) → last < n → AreNumbered last as_ → is_active (record { 0 = n }) as_ ≡ false
not_active last n as_ more h = ⊎_elim
    (λ e. absurd (let b = any_some (λ (x : Active). is_same_txn (record { 0 = n }) x.txn) as_ e in let k = numbered_le last as_ b.0 h b.1 in let m = ap (λ (t : TxnId). t.0) (same_is (record { 0 = n }) b.0.txn b.2) in omega (arith, more, k, m)))
    (λ e. e)
    (cases_Bool (is_active (record { 0 = n }) as_))

pub begun_is-bare : BegunIsBare
begun_is-bare st session r bare more = bare_and st.own st.actives (auto_active st session) bare (λ auto. r.sound.own_active (next_txn st.last_txn) (not_active st.last_txn (next_txn st.last_txn) st.actives (next_is st.last_txn more) r.sound.numbers))

bare_at : (as_ : List Active) (own : Changes) (t : ℕ) → HaveBare as_ own → HaveBare as_ (with_at t [] own)
bare_at as_ own t h = all_of (IsBareOf (with_at t [] own)) as_ (λ b k auto. ⊎_elim
    (λ e. cond-true (b.txn.0 == t) [] (own b.txn.0) e)
    (λ e. cond-false (b.txn.0 == t) [] (own b.txn.0) e ∙ all_at (IsBareOf own) as_ b h k auto)
    (cases_Bool (b.txn.0 == t)))

bare_ended : (st : Standing) (a : Active) → AreBare st → AreBare (ended a st)
bare_ended st a h = bare_at (without_session a.session st.actives) st.own a.txn.0 (all_filter (IsBareOf st.own) (λ (b : Active). not (b.session == a.session)) st.actives h)

bare_all_ended : (l : List Active) (st : Standing) → AreBare st → AreBare (all_ended l st)
bare_all_ended [] st h = h
bare_all_ended (a ∷ as_) st h = bare_all_ended as_ (ended a st) (bare_ended st a h)

bare_committed : (changes : List Change) (st : Standing) → AreBare st → AreBare (committed_if_any changes st)
bare_committed [] st h = h
bare_committed (c ∷ changes) st h = h

bare_drawn : (o : Option Active) (st : Standing) → AreBare st → AreBare (drawn_by o st)
bare_drawn None st h = h
bare_drawn (Some a) st h = h

bare_any_ended : (o : Option Active) (st : Standing) → AreBare st → AreBare (ended_if_any o st)
bare_any_ended None st h = h
bare_any_ended (Some a) st h = bare_ended st a h

-- ---- own changes

-- those of another transaction change nothing of one of one call
bare_other : (last : ℕ) (as_ : List Active) (own : Changes) (a : Active) (more : List (ℕ × RecordChange)) → AreNumbered last as_ → IsAmong a as_ → a.is_auto ≡ false → HaveBare as_ own → HaveBare as_ (with_at a.txn.0 more own)
bare_other last as_ own a more numbers there other h = all_of (IsBareOf (with_at a.txn.0 more own)) as_ (λ b k auto. ⊎_elim
    (λ e. absurd (let same : b ≡ a = same_active last as_ b a numbers k there (ap (λ (n : ℕ). record { 0 = n }) (eqb-true b.txn.0 a.txn.0 e)) in both_ways a.is_auto other (sym (ap (λ (x : Active). x.is_auto) same) ∙ auto)))
    (λ e. cond-false (b.txn.0 == a.txn.0) more (own b.txn.0) e ∙ all_at (IsBareOf own) as_ b h k auto)
    (cases_Bool (b.txn.0 == a.txn.0)))

-- and its own go with it
bare_gone : (as_ : List Active) (own : Changes) (t : ℕ) (more : List (ℕ × RecordChange)) → HaveBare as_ own → HaveBare as_ (with_at t [] (with_at t more own))
bare_gone as_ own t more h = all_of (IsBareOf (with_at t [] (with_at t more own))) as_ (λ b k auto. ⊎_elim
    (λ e. cond-true (b.txn.0 == t) [] (with_at t more own b.txn.0) e)
    (λ e. cond-false (b.txn.0 == t) [] (with_at t more own b.txn.0) e ∙ (cond-false (b.txn.0 == t) more (own b.txn.0) e ∙ all_at (IsBareOf own) as_ b h k auto))
    (cases_Bool (b.txn.0 == t)))

bare_closing : (b : Bool) (st mid : Standing) (a : Active) (changes : List Change) (more : List (ℕ × RecordChange)) → a.is_auto ≡ b → AreNumbered st.last_txn st.actives → IsAmong a st.actives → AreBare st
    → mid.actives ≡ st.actives → mid.own ≡ with_at a.txn.0 more st.own → AreBare (closed b a changes mid)
bare_closing true st mid a changes more auto numbers there h as_is own_is = by changes
  where
    gone : HaveBare (without_session a.session mid.actives) (with_at a.txn.0 [] mid.own)
    gone = subst (λ (l : List Active). HaveBare (without_session a.session l) (with_at a.txn.0 [] mid.own)) (sym as_is)
        (subst (λ (f : Changes). HaveBare (without_session a.session st.actives) (with_at a.txn.0 [] f)) (sym own_is)
        (bare_gone (without_session a.session st.actives) st.own a.txn.0 more (all_filter (IsBareOf st.own) (λ (b : Active). not (b.session == a.session)) st.actives h)))

    by : (cs : List Change) → AreBare (ended a (committed_if_any cs mid))
    by [] = gone
    by (c ∷ cs) = gone
bare_closing false st mid a changes more auto numbers there h as_is own_is =
    subst (λ (l : List Active). HaveBare l mid.own) (sym as_is) (subst (HaveBare st.actives) (sym own_is) (bare_other st.last_txn st.actives st.own a more numbers there auto h))

bare_same : (b : Bool) (st mid : Standing) (a : Active) (changes : List Change) → AreBare st → mid.actives ≡ st.actives → mid.own ≡ st.own → AreBare (closed b a changes mid)
bare_same b st mid a changes h as_is own_is = by b changes
  where
    now : AreBare mid
    now = subst (λ (l : List Active). HaveBare l mid.own) (sym as_is) (subst (HaveBare st.actives) (sym own_is) h)

    by : (x : Bool) (cs : List Change) → AreBare (closed x a cs mid)
    by true cs = bare_ended (committed_if_any cs mid) a (bare_committed cs mid now)
    by false cs = now

-- ---- a call on records

bare_fate : (fate : Fate) (old st : Standing) (a : Active) (call : Call) (g : Target) (evaluated : Evaluated) → AreBare old → AreBare st → MayRun st a → AreBare (after_fate fate old st a call g evaluated)
bare_fate Succeeds old st a call g evaluated before h m =
    bare_closing a.is_auto st (with_outcome a call g evaluated (answered a call g st)) a (with_names (changes_with st a g evaluated.changes)) (st.own a.txn.0 ++ with_numbers (changes_with (answered a call g st) a g evaluated.changes)) refl m.right.sound.numbers (there_is st a m) h refl refl
bare_fate IsRefused old st a call g evaluated before h m = bare_same a.is_auto st (answered a call g st) a [] h refl refl
bare_fate Faults old st a call g evaluated before h m = before

bare_changes : (changes : List RecordChange) (old st : Standing) (a : Active) (call : Call) (g : Target) (evaluated : Evaluated) (answer : Answer) → AreBare old → AreBare st → MayRun st a → AreBare (after_changes changes old st a call g evaluated answer)
bare_changes [] old st a call g evaluated answer before h m = bare_fate Succeeds old st a call g evaluated before h m
bare_changes (c ∷ changes) old st a call g evaluated answer before h m = bare_fate (fate_of answer) old st a call g evaluated before h m

bare_mark : (own : Changes) (o : Option Victim) (a : Active) → IsBareOf own a → IsBareOf own (marked_by o a)
bare_mark own None a h = h
bare_mark own (Some v) a h = h

bare_marked : (own : Changes) (vs : List Victim) (as_ : List Active) → HaveBare as_ own → HaveBare (marked vs as_) own
bare_marked own vs [] h = tt
bare_marked own vs (a ∷ as_) h = (bare_mark own (find (λ (v : Victim). v.session == a.session) vs) a h.0, bare_marked own vs as_ h.1)

bare_stop : (b : Bool) (st : Standing) (a : Active) (line : ℕ) (call : Call) (g : Target) (n : Need) (vs : List Victim) → AreBare st → AreBare (after_stop b st a line call g n vs)
bare_stop false st a line call g n vs h = h
bare_stop true st a line call g n vs h = bare_all_ended (autos_in vs st.actives) (without_waits_of vs (with_waiting st a line call g n vs)) (bare_marked st.own vs st.actives h)

bare_taking : (o : Option Need) (old st : Standing) (a : Active) (line : ℕ) (call : Call) (g : Target) (answer : Answer) (vs : List Victim) → AreBare old → AreBare st → MayRun st a → AreBare (after_taking o old st a line call g answer vs)
bare_taking None old st a line call g answer vs before h m = bare_changes (outcome_of st a call g).changes old st a call g (outcome_of st a call g) answer before h m
bare_taking (Some n) old st a line call g answer vs before h m = bare_stop a.waits st a line call g n vs h

bare_on : (o : Option Target) (old st : Standing) (a : Active) (line : ℕ) (call : Call) (answer : Answer) (vs : List Victim) → AreBare old → AreBare st → MayRun st a → AreBare (after_on o old st a line call answer vs)
bare_on None old st a line call answer vs before h m = before
bare_on (Some g) old st a line call answer vs before h m = bare_taking (first_blocked a.txn (needs_in st a call g) st.locks.at) old st a line call g answer vs before h m

bare_run : (o : Option Active) (st : Standing) (session line : ℕ) (call : Call) (answer : Answer) (vs : List Victim) → AreRight st → AreBare st → active_of session st.actives ≡ o → waits_refusal st o ≡ None → number_refusal st.last_txn o ≡ None
    → AreBare (after_run o st session line call answer vs)
bare_run (Some a) st session line call answer vs r h its free number = bare_on (target_of st session call) st st a line call answer vs h h (may_run st session a r its free)
bare_run None st session line call answer vs r h its free number =
    bare_on (target_of st session call) st (begun st session) (auto_active st session) line call answer vs h (begun_is-bare st session r h (has_number st.last_txn number)) (record {
      right = begun_is-right st session r its (has_number st.last_txn number);
      its = begun_found st.actives (auto_active st session) its;
      told = drawn_untold st.last_txn st.actives st.own st.places st.waiting st.locks (auto_active st session).txn r.sound (next_is st.last_txn (has_number st.last_txn number));
    })

-- ---- the other calls

bare_commit : (fate : Fate) (changes : List Change) (st : Standing) (a : Active) → AreBare st → AreBare (after_commit fate changes a st)
bare_commit Succeeds changes st a h = bare_ended (committed_if_any changes st) a (bare_committed changes st h)
bare_commit IsRefused changes st a h = h
bare_commit Faults changes st a h = h

bare_ending : (o : Option Active) (st : Standing) (answer : Answer) → AreBare st → AreBare (after_ending o st answer)
bare_ending None st answer h = h
bare_ending (Some a) st answer h = bare_commit (fate_of answer) (changes_named st (st.own a.txn.0)) st a h

bare_catalog : (fate : Fate) (changes : List Change) (o : Option Active) (st : Standing) → AreBare st → AreBare (after_catalog fate changes o st)
bare_catalog Succeeds changes o st h = bare_committed changes (drawn_by o st) (bare_drawn o st h)
bare_catalog IsRefused changes o st h = bare_drawn o st h
bare_catalog Faults changes o st h = h

bare_opened_at : (o : Option Place) (to session : ℕ) (st : Standing) → AreBare st → AreBare (opened_at o to session st)
bare_opened_at None to session st h = h
bare_opened_at (Some p) to session st h = h

bare_performed : (call : Call) (st : Standing) (session line : ℕ) (answer : Answer) (vs : List Victim) → AreRight st → AreBare st → waits_refusal st (active_of session st.actives) ≡ None
    → number_refusal st.last_txn (active_of session st.actives) ≡ None → AreBare (after_performed call st session line answer vs)
bare_performed (Begin level durability wait) st session line answer vs r h free number =
    bare_and st.own st.actives (record { txn = record { 0 = next_txn st.last_txn }; session = session; level = level; durability = durability; waits = wait; is_auto = false; deadlock = None }) h (λ auto. absurd (both_ways false refl auto))
bare_performed Commit st session line answer vs r h free number = bare_ending (active_of session st.actives) st answer h
bare_performed Abort st session line answer vs r h free number = bare_any_ended (active_of session st.actives) st h
bare_performed Lists st session line answer vs r h free number = bare_drawn (active_of session st.actives) st h
bare_performed (Create db kind) st session line answer vs r h free number = bare_catalog (fate_of answer) _ (active_of session st.actives) st h
bare_performed (CreateIndex db index) st session line answer vs r h free number = bare_catalog (fate_of answer) _ (active_of session st.actives) st h
bare_performed (Remove db) st session line answer vs r h free number = bare_catalog (fate_of answer) _ (active_of session st.actives) st h
bare_performed (Rename db to) st session line answer vs r h free number = bare_catalog (fate_of answer) _ (active_of session st.actives) st h
bare_performed (Truncate db) st session line answer vs r h free number = bare_catalog (fate_of answer) _ (active_of session st.actives) st h
bare_performed (Get db key rmw) st session line answer vs r h free number = bare_run (active_of session st.actives) st session line (Get db key rmw) answer vs r h refl free number
bare_performed (GetBoth db key value rmw) st session line answer vs r h free number = bare_run (active_of session st.actives) st session line (GetBoth db key value rmw) answer vs r h refl free number
bare_performed (Put db key value mode) st session line answer vs r h free number = bare_run (active_of session st.actives) st session line (Put db key value mode) answer vs r h refl free number
bare_performed (Delete db key) st session line answer vs r h free number = bare_run (active_of session st.actives) st session line (Delete db key) answer vs r h refl free number
bare_performed (Open cursor db) st session line answer vs r h free number = h
bare_performed (Close cursor) st session line answer vs r h free number = h
bare_performed (Dup cursor to) st session line answer vs r h free number = bare_opened_at (place_at cursor (st.places session)) to session st h
bare_performed (Count cursor) st session line answer vs r h free number = bare_run (active_of session st.actives) st session line (Count cursor) answer vs r h refl free number
bare_performed (Cur cursor motion rmw) st session line answer vs r h free number = bare_run (active_of session st.actives) st session line (Cur cursor motion rmw) answer vs r h refl free number
bare_performed (CPutCur cursor value) st session line answer vs r h free number = bare_run (active_of session st.actives) st session line (CPutCur cursor value) answer vs r h refl free number
bare_performed (CDel cursor) st session line answer vs r h free number = bare_run (active_of session st.actives) st session line (CDel cursor) answer vs r h refl free number
bare_performed (CPut cursor key value mode) st session line answer vs r h free number = bare_run (active_of session st.actives) st session line (CPut cursor key value mode) answer vs r h refl free number

bare_evaluated : (o : Option Answer) (st : Standing) (session line : ℕ) (call : Call) (answer : Answer) (vs : List Victim) → AreRight st → AreBare st → early_refusal st session call ≡ None → late_refusal st session call ≡ o
    → AreBare (after_evaluated o st session line call answer vs)
bare_evaluated (Some refusal) st session line call answer vs r h early late = bare_drawn (active_of session st.actives) st h
bare_evaluated None st session line call answer vs r h early late = bare_performed call st session line answer vs r h (early_parts st session call early).0 (late_number st session call late)

bare_call : (o : Option Answer) (st : Standing) (session line : ℕ) (call : Call) (answer : Answer) (vs : List Victim) → AreRight st → AreBare st → early_refusal st session call ≡ o → AreBare (after_call o st session line call answer vs)
bare_call (Some refusal) st session line call answer vs r h early = h
bare_call None st session line call answer vs r h early = bare_evaluated (late_refusal st session call) st session line call answer vs r h early refl

-- ---- the other events

bare_resumed : (o : Option Wait) (limit : Option Answer) (st : Standing) (session line : ℕ) (answer : Answer) (vs : List Victim) → st.fault ≡ None → AreRight st → AreBare st → wait_of session st.waiting ≡ o → IsResumed o limit st session line answer vs
    → AreBare (after_resumed o st session line answer vs)
bare_resumed None limit st session line answer vs fault r h its is = h
bare_resumed (Some w) limit st session line answer vs fault r h its is =
    let f = found_is (λ (v : Wait). v.session == session) st.waiting w its in
    let same : w.session ≡ session = eqb-true w.session session f.1 in
    bare_call (early_refusal (resumed st w) session w.call) (resumed st w) session line w.call answer vs
    (resumed_is-right st w r (ap (λ (n : ℕ). wait_of n st.waiting) same ∙ its) (subst (λ (x : Option Fault). IsReady x st w.txn) fault is.1)) h refl

bare_faulted : (answer : Answer) (st : Standing) → AreBare st → AreBare (faulted_if answer st)
bare_faulted DiskFault st h = h
bare_faulted answer st h = h

bare_begin_sync : (answer : Answer) (st : Standing) → AreBare st → AreBare (after_begin st answer)
bare_begin_sync Done st h = h
bare_begin_sync DiskFault st h = h
bare_begin_sync answer st h = h

bare_turn : (step : Step) (answer : Answer) (st : Standing) → AreBare st → AreBare (after_turn step st answer)
bare_turn BeginStep Done st h = h
bare_turn Finish Done st h = h
bare_turn BeginStep answer st h = bare_faulted answer st h
bare_turn Finish answer st h = bare_faulted answer st h
bare_turn Flush answer st h = bare_faulted answer st h
bare_turn SyncStep answer st h = bare_faulted answer st h

pub standings_stay-bare : StandingsStayBare
standings_stay-bare limit st (Called session line call answer victims) fault r h is = bare_call (early_refusal st session call) st session line call answer victims r h refl
standings_stay-bare limit st (Resume session line answer victims) fault r h is = bare_resumed (wait_of session st.waiting) limit st session line answer victims fault r h refl is
standings_stay-bare limit st (End session) fault r h is = bare_any_ended (active_of session st.actives) (record st { waiting = without_wait session st.waiting }) h
standings_stay-bare limit st (WriteOut answer) fault r h is = bare_faulted answer st h
standings_stay-bare limit st (SyncBegin answer) fault r h is = bare_begin_sync answer st h
standings_stay-bare limit st (SyncEnd answer) fault r h is = bare_faulted answer (record st { begun = None }) h
standings_stay-bare limit st (Turn line step answer) fault r h is = bare_turn step answer st h

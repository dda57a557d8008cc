-- No cycle stands after an event: by cases of the event, cut as after_event is.
use Rattle.std.proofs.Common.{◌≡◌, ◌⊎◌, inl, inr, ℕ, ◌==◌, Bool, true, false, List, [], ◌∷◌, ◌++◌, map, Option, None, Some, refl, ap, sym, ◌∙◌, subst}
use Rattle.std.specs.List.{filter, AllByRecursion}
use Rattle.std.proofs.lemmas.Bool.{eqb-true}
use Rattle.je_order.specs.declared.txn_id.TxnId.{TxnId}
use Rattle.je_order.specs.Transactions.{is_same_txn}
use Rattle.je_order.proofs.TxnIds.{same_itself}
use Rattle.je_order.proofs.Lists.{all_append}
use Rattle.waits_for.specs.Cycles.{is_in}
use Rattle.lock_table.specs.Locks.{lock_of}
use Rattle.lock_mgr.specs.Deadlock.{HasNoCycle, AreVictims}
use Rattle.store_model.specs.declared.call.Call.{Call}
use Rattle.store_model.specs.declared.call.Call.TheVariants.{Begin, Commit, Abort, List as Lists, Create, CreateIndex, Remove, Rename, Truncate, Get, GetBoth, Put, Delete, Open, Close, Dup, Count, Cur, CPutCur, CDel, CPut}
use Rattle.store_model.specs.declared.change.Change.{Change}
use Rattle.store_model.specs.declared.record_change.RecordChange.{RecordChange}
use Rattle.store_model.specs.declared.need.Need.{Need}
use Rattle.store_model.specs.declared.victim.Victim.{Victim}
use Rattle.store_model.specs.declared.step.Step.{Step}
use Rattle.store_model.specs.declared.step.Step.TheVariants.{Begin as BeginStep, Flush, Finish, Sync as SyncStep}
use Rattle.store_model.specs.declared.answer.Fault.{Fault}
use Rattle.store_model.specs.declared.answer.Answer.{Answer}
use Rattle.store_model.specs.declared.answer.Answer.TheVariants.{Done, DiskFault}
use Rattle.store_model.specs.declared.event.Event.{Event}
use Rattle.store_model.specs.declared.event.Event.TheVariants.{Call as Called, Resume, End, WriteOut, SyncBegin, SyncEnd, Turn}
use Rattle.store_model.specs.Evaluation.{evaluation}
use Rattle.je_answers.specs.declared.active.Active.{Active}
use Rattle.je_answers.specs.declared.wait.Wait.{Wait}
use Rattle.store_model.specs.declared.place.Place.{Place}
use Rattle.je_answers.specs.Standing.{LockState, Standing, place_at, active_of, wait_of, without_wait}
use Rattle.je_answers.specs.Views.{Target, target_of, changes_with, with_names, changes_named, needs_in, outcome_of}
use Rattle.je_answers.specs.Refusals.{waits_refusal, early_refusal, late_refusal, number_refusal}
use Rattle.je_answers.specs.Locking.{record_of, all_got, granted_part, first_blocked, owner_before, released, with_wait, waits_in}
use Rattle.je_answers.specs.Events.{auto_active, begun, asking, told_in, queues_before, locks_before, resumed, IsWaiting, IsStopped, IsTaken, IsOn, IsRun, IsPerformed, IsEvaluated, IsCallAnswered, IsReady, IsResumed, IsAnswered}
use Rattle.je_answers.specs.After.{Fate, fate_of, drawn_by, committed_if_any, ended, ended_if_any, closed, with_outcome, answered, with_locks, after_fate, after_changes, is_victim, txns_of, after_stop, after_taking, after_on, after_run, opened_at, after_commit, after_ending, after_catalog, after_performed, after_evaluated, after_call, after_resumed, faulted_if, after_begin, after_turn, after_event, AnswersAsModel}
use Rattle.je_answers.specs.After.Fate.{Succeeds, IsRefused, Faults}
use Rattle.je_answers.specs.Alone.{alone}
use Rattle.standing_laws.specs.Right.{AreRight, IsSoundAt, IsWaitIn, MayWait, is_active}
use Rattle.standing_laws.proofs.Among.{any_from, found_is}
use Rattle.standing_laws.proofs.Steps.{state, sound_all_got, granted_free, stopped_behind, sound_back, waits_nowhere}
use Rattle.standing_laws.proofs.Moves.{begun_found, drawn_untold}
use Rattle.standing_laws.proofs.Victims.{txns, victims_in, all_wait}
use Rattle.standing_laws.proofs.Gone.{same_gone}
use Rattle.standing_laws.proofs.StandingsStay.{MayRun, there_is, may_run, early_parts, has_number, late_number, next_is, begun_is-right, resumed_is-right, standings_stay-right}
use Rattle.standing_laws.proofs.AloneRight.{alone-is_right}
use Rattle.serial_replay.specs.Cycles.{waits_at, NeverWaitInCycle}
use Rattle.serial_replay.specs.Laws.{CyclesNeverStand}
use Rattle.serial_replay.proofs.WaitCycles.{waits_of, AreQueues, queues_of, released_free, released_queues, forgotten_free, forgotten_queues, all_got_free, back_free, all_back_free, wait_free}
use Rattle.serial_replay.proofs.Victims.{waiting_now, sound_before, right_asked, victims_keep}
use Rattle.serial_replay.proofs.Replaying.{AnyStore, HasFault, faulted_refusal, fault_stays}

-- a fault has come, whatever the store holds
abbrev HasAnyFault : Standing → Type 0
HasAnyFault st = HasFault AnyStore st

abbrev IsFree : Standing → Type 0
IsFree st = HasNoCycle (waits_of st.locks)

-- ---- steps that leave the locks

same_free : (st new : Standing) → new.locks ≡ st.locks → IsFree st → IsFree new
same_free st new e free = subst (λ (l : LockState). HasNoCycle (waits_of l)) (sym e) free

drawn_locks : (o : Option Active) (st : Standing) → (drawn_by o st).locks ≡ st.locks
drawn_locks None st = refl
drawn_locks (Some a) st = refl

committed_locks : (changes : List Change) (st : Standing) → (committed_if_any changes st).locks ≡ st.locks
committed_locks [] st = refl
committed_locks (c ∷ changes) st = refl

-- ---- ends

ended_free : (st : Standing) (a : Active) → AreQueues st.locks → IsFree st → IsFree (ended a st)
ended_free st a q free = released_free a.txn st.locks q free

closed_free : (b : Bool) (a : Active) (changes : List Change) (st : Standing) → AreQueues st.locks → IsFree st → IsFree (closed b a changes st)
closed_free true a changes st q free = subst (λ (l : LockState). HasNoCycle (waits_of (released a.txn l))) (sym (committed_locks changes st)) (ended_free st a q free)
closed_free false a changes st q free = free

-- ---- a call on records

module _ (st : Standing) (a : Active) (line : ℕ) (call : Call) (g : Target) (answer : Answer) (vs : List Victim) (may : MayWait call) (m : MayRun st a) (free : IsFree st) where
  active : is_active a.txn st.actives ≡ true
  active = any_from (λ (b : Active). is_same_txn a.txn b.txn) st.actives a (there_is st a m) (same_itself a.txn)

  -- needs that were got, and given back as the level says
  got_sound : (ns : List Need) → first_blocked a.txn ns st.locks.at ≡ None → IsSoundAt st.last_txn st.actives st.own st.places st.waiting (state (all_got a.txn ns st.locks.at) st.locks.pending)
  got_sound ns got = sound_all_got st.last_txn st.actives st.own st.places st.waiting st.locks a.txn ns m.right.sound active m.told got

  locks_free : (ns : List Need) → first_blocked a.txn ns st.locks.at ≡ None → IsFree (with_locks a (all_got a.txn ns st.locks.at) st)
  locks_free ns got = back_free a.level a.txn (state (all_got a.txn ns st.locks.at) st.locks.pending) (queues_of (state (all_got a.txn ns st.locks.at) st.locks.pending) (got_sound ns got).tables)
      (all_got_free st.last_txn st.actives st.own st.places st.waiting st.locks a.txn ns m.right.sound active m.told got free)

  locks_queues : (ns : List Need) → first_blocked a.txn ns st.locks.at ≡ None → AreQueues (with_locks a (all_got a.txn ns st.locks.at) st).locks
  locks_queues ns got = queues_of (with_locks a (all_got a.txn ns st.locks.at) st).locks
      (sound_back st.last_txn st.actives st.own st.places st.waiting (state (all_got a.txn ns st.locks.at) st.locks.pending) a.level a.txn (got_sound ns got)).tables

  fate_free : (fate : Fate) (old : Standing) → IsFree old → first_blocked a.txn (needs_in st a call g) st.locks.at ≡ None → IsFree (after_fate fate old st a call g (outcome_of st a call g))
  fate_free Succeeds old before got = closed_free a.is_auto a (with_names (changes_with st a g (outcome_of st a call g).changes)) (with_outcome a call g (outcome_of st a call g) (answered a call g st)) (locks_queues (needs_in st a call g) got) (locks_free (needs_in st a call g) got)
  fate_free IsRefused old before got = closed_free a.is_auto a [] (answered a call g st) (locks_queues (needs_in st a call g) got) (locks_free (needs_in st a call g) got)
  fate_free Faults old before got = before

  changes_free : (cs : List RecordChange) (old : Standing) → IsFree old → first_blocked a.txn (needs_in st a call g) st.locks.at ≡ None → IsFree (after_changes cs old st a call g (outcome_of st a call g) answer)
  changes_free [] old before got = fate_free Succeeds old before got
  changes_free (c ∷ cs) old before got = fate_free (fate_of answer) old before got

  -- ---- it waits

  module _ (n : Need) (stopped : first_blocked a.txn (needs_in st a call g) st.locks.at ≡ Some n) where
    before_free : HasNoCycle (waits_of (locks_before st a call g))
    before_free = all_got_free st.last_txn st.actives st.own st.places st.waiting st.locks a.txn (granted_part a.txn (needs_in st a call g) st.locks.at) m.right.sound active m.told (granted_free a.txn (needs_in st a call g) st.locks.at) free

    each_wait : AllByRecursion (IsWaitIn st.actives) (st.waiting ++ asking a line call ∷ [])
    each_wait = all_append (IsWaitIn st.actives) st.waiting (asking a line call ∷ []) m.right.sound.waits.each (record { active = a; its = m.its; same = refl }, tt)

    waiting_free : (found : List (TxnId × List TxnId)) → AreVictims a.txn (waits_in (lock_of a.txn n.asked) (record_of n) (locks_before st a call g)) found → vs ≡ map (told_in (st.waiting ++ asking a line call ∷ [])) found
        → IsFree (waiting_now st a line call g n vs may m stopped)
    waiting_free found victims told =
        let now : Standing = waiting_now st a line call g n vs may m stopped in
        all_back_free (filter (λ b. is_victim b.session vs) st.actives) st.last_txn now.actives st.own st.places now.waiting (with_wait a.txn n (txns_of vs st.actives) (locks_before st a call g)) (right_asked st a line call g n vs may m stopped).sound
        (wait_free a.txn n (txns_of vs st.actives) (locks_before st a call g) (stopped_behind a.txn (needs_in st a call g) st.locks.at n stopped)
        (λ r. waits_nowhere (locks_before st a call g) a.txn (sound_before st a line call g n vs may m stopped).tables m.told r)
        found same victims)
      where
        same : (u : TxnId) → is_in u (map (λ v. v.0) found) ≡ is_in u (txns_of vs st.actives)
        same u =
            same_gone found st.actives (st.waiting ++ asking a line call ∷ []) m.right.sound.waits.sessions each_wait
            (victims_in a.txn (waits_in (lock_of a.txn n.asked) (record_of n) (locks_before st a call g)) (txns (st.waiting ++ asking a line call ∷ [])) found
            (all_wait (lock_of a.txn n.asked) (record_of n) (locks_before st a call g) st.waiting (asking a line call) refl m.right.sound.waits.told) victims) u
            ∙ ap (λ (l : List Victim). is_in u (txns_of l st.actives)) (sym told)

    stop_free : (b : Bool) (owner : TxnId) → IsWaiting b st a line call g n owner answer vs → IsFree (after_stop b st a line call g n vs)
    stop_free false owner is = locks_free (granted_part a.txn (needs_in st a call g) st.locks.at) (granted_free a.txn (needs_in st a call g) st.locks.at)
    stop_free true owner is = victims_keep st a line call g n vs may m stopped IsFree (λ x b r k h. ended_free x b (queues_of x.locks r.sound.tables) h) (waiting_free is.0 is.1 is.2)

    stopped_free : (o : Option TxnId) → IsStopped o st a line call g n answer vs → IsFree (after_stop a.waits st a line call g n vs)
    stopped_free None is = absurd is
    stopped_free (Some owner) is = stop_free a.waits owner is

  taking_free : (o : Option Need) (limit : Option Answer) (old : Standing) → IsFree old → first_blocked a.txn (needs_in st a call g) st.locks.at ≡ o → IsTaken o limit st a line call g answer vs → IsFree (after_taking o old st a line call g answer vs)
  taking_free None limit old before got is = changes_free (outcome_of st a call g).changes old before got
  taking_free (Some n) limit old before got is = stopped_free n got (owner_before a.txn n (queues_before st a call g)) is

on_free : (o : Option Target) (limit : Option Answer) (old st : Standing) (a : Active) (line : ℕ) (call : Call) (answer : Answer) (vs : List Victim) → MayWait call → MayRun st a → IsFree st → IsFree old → IsOn o limit st a line call answer vs → IsFree (after_on o old st a line call answer vs)
on_free None limit old st a line call answer vs may m free before is = before
on_free (Some g) limit old st a line call answer vs may m free before is = taking_free st a line call g answer vs may m free (first_blocked a.txn (needs_in st a call g) st.locks.at) limit old before refl is

run_free : (o : Option Active) (limit : Option Answer) (st : Standing) (session line : ℕ) (call : Call) (answer : Answer) (vs : List Victim) → MayWait call → AreRight st → IsFree st → active_of session st.actives ≡ o → waits_refusal st o ≡ None
    → number_refusal st.last_txn o ≡ None → IsRun o limit st session line call answer vs → IsFree (after_run o st session line call answer vs)
run_free (Some a) limit st session line call answer vs may r free its untold number is = on_free (target_of st session call) limit st st a line call answer vs may (may_run st session a r its untold) free free is
run_free None limit st session line call answer vs may r free its untold number is =
    on_free (target_of st session call) limit st (begun st session) (auto_active st session) line call answer vs may (record {
      right = begun_is-right st session r its (has_number st.last_txn number);
      its = begun_found st.actives (auto_active st session) its;
      told = drawn_untold st.last_txn st.actives st.own st.places st.waiting st.locks (auto_active st session).txn r.sound (next_is st.last_txn (has_number st.last_txn number));
    }) free free is

-- ---- the other calls

commit_free : (fate : Fate) (changes : List Change) (a : Active) (st : Standing) → AreQueues st.locks → IsFree st → IsFree (after_commit fate changes a st)
commit_free Succeeds changes a st q free = closed_free true a changes st q free
commit_free IsRefused changes a st q free = free
commit_free Faults changes a st q free = free

ending_free : (o : Option Active) (st : Standing) (answer : Answer) → AreQueues st.locks → IsFree st → IsFree (after_ending o st answer)
ending_free None st answer q free = free
ending_free (Some a) st answer q free = commit_free (fate_of answer) (changes_named st (st.own a.txn.0)) a st q free

if_any_free : (o : Option Active) (st : Standing) → AreQueues st.locks → IsFree st → IsFree (ended_if_any o st)
if_any_free None st q free = free
if_any_free (Some a) st q free = ended_free st a q free

catalog_free : (fate : Fate) (changes : List Change) (o : Option Active) (st : Standing) → IsFree st → IsFree (after_catalog fate changes o st)
catalog_free Succeeds changes o st free = same_free st (committed_if_any changes (drawn_by o st)) (committed_locks changes (drawn_by o st) ∙ drawn_locks o st) free
catalog_free IsRefused changes o st free = same_free st (drawn_by o st) (drawn_locks o st) free
catalog_free Faults changes o st free = free

opened_free : (o : Option Place) (to session : ℕ) (st : Standing) → IsFree st → IsFree (opened_at o to session st)
opened_free None to session st free = free
opened_free (Some p) to session st free = free

performed_free : (call : Call) (limit : Option Answer) (st : Standing) (session line : ℕ) (answer : Answer) (vs : List Victim) → AreRight st → IsFree st → waits_refusal st (active_of session st.actives) ≡ None
    → number_refusal st.last_txn (active_of session st.actives) ≡ None → IsPerformed call limit st session line answer vs → IsFree (after_performed call st session line answer vs)
performed_free (Begin level durability wait) limit st session line answer vs r free untold number is = free
performed_free Commit limit st session line answer vs r free untold number is = ending_free (active_of session st.actives) st answer (queues_of st.locks r.sound.tables) free
performed_free Abort limit st session line answer vs r free untold number is = if_any_free (active_of session st.actives) st (queues_of st.locks r.sound.tables) free
performed_free Lists limit st session line answer vs r free untold number is = same_free st (drawn_by (active_of session st.actives) st) (drawn_locks (active_of session st.actives) st) free
performed_free (Create db kind) limit st session line answer vs r free untold number is = catalog_free (fate_of answer) (evaluation (Create db kind) st.store).changes (active_of session st.actives) st free
performed_free (CreateIndex db index) limit st session line answer vs r free untold number is = catalog_free (fate_of answer) (evaluation (CreateIndex db index) st.store).changes (active_of session st.actives) st free
performed_free (Remove db) limit st session line answer vs r free untold number is = catalog_free (fate_of answer) (evaluation (Remove db) st.store).changes (active_of session st.actives) st free
performed_free (Rename db to) limit st session line answer vs r free untold number is = catalog_free (fate_of answer) (evaluation (Rename db to) st.store).changes (active_of session st.actives) st free
performed_free (Truncate db) limit st session line answer vs r free untold number is = catalog_free (fate_of answer) (evaluation (Truncate db) st.store).changes (active_of session st.actives) st free
performed_free (Get db key rmw) limit st session line answer vs r free untold number is = run_free (active_of session st.actives) limit st session line (Get db key rmw) answer vs tt r free refl untold number is
performed_free (GetBoth db key value rmw) limit st session line answer vs r free untold number is = run_free (active_of session st.actives) limit st session line (GetBoth db key value rmw) answer vs tt r free refl untold number is
performed_free (Put db key value mode) limit st session line answer vs r free untold number is = run_free (active_of session st.actives) limit st session line (Put db key value mode) answer vs tt r free refl untold number is
performed_free (Delete db key) limit st session line answer vs r free untold number is = run_free (active_of session st.actives) limit st session line (Delete db key) answer vs tt r free refl untold number is
performed_free (Open cursor db) limit st session line answer vs r free untold number is = free
performed_free (Close cursor) limit st session line answer vs r free untold number is = free
performed_free (Dup cursor to) limit st session line answer vs r free untold number is = opened_free (place_at cursor (st.places session)) to session st free
performed_free (Count cursor) limit st session line answer vs r free untold number is = run_free (active_of session st.actives) limit st session line (Count cursor) answer vs tt r free refl untold number is
performed_free (Cur cursor motion rmw) limit st session line answer vs r free untold number is = run_free (active_of session st.actives) limit st session line (Cur cursor motion rmw) answer vs tt r free refl untold number is
performed_free (CPutCur cursor value) limit st session line answer vs r free untold number is = run_free (active_of session st.actives) limit st session line (CPutCur cursor value) answer vs tt r free refl untold number is
performed_free (CDel cursor) limit st session line answer vs r free untold number is = run_free (active_of session st.actives) limit st session line (CDel cursor) answer vs tt r free refl untold number is
performed_free (CPut cursor key value mode) limit st session line answer vs r free untold number is = run_free (active_of session st.actives) limit st session line (CPut cursor key value mode) answer vs tt r free refl untold number is

evaluated_free : (o : Option Answer) (limit : Option Answer) (st : Standing) (session line : ℕ) (call : Call) (answer : Answer) (vs : List Victim) → AreRight st → IsFree st → early_refusal st session call ≡ None
    → late_refusal st session call ≡ o → IsEvaluated o limit st session line call answer vs → IsFree (after_evaluated o st session line call answer vs)
evaluated_free (Some refusal) limit st session line call answer vs r free early late is = same_free st (drawn_by (active_of session st.actives) st) (drawn_locks (active_of session st.actives) st) free
evaluated_free None limit st session line call answer vs r free early late is = let e = early_parts st session call early in performed_free call limit st session line answer vs r free e.0 (late_number st session call late) is

call_free : (o : Option Answer) (limit : Option Answer) (st : Standing) (session line : ℕ) (call : Call) (answer : Answer) (vs : List Victim) → AreRight st → IsFree st → early_refusal st session call ≡ o
    → IsCallAnswered o limit st session line call answer vs → IsFree (after_call o st session line call answer vs)
call_free (Some refusal) limit st session line call answer vs r free early is = free
call_free None limit st session line call answer vs r free early is = evaluated_free (late_refusal st session call) limit st session line call answer vs r free early refl is

-- ---- the other events

resumed_free : (o : Option Wait) (limit : Option Answer) (st : Standing) (session line : ℕ) (answer : Answer) (vs : List Victim) → st.fault ≡ None → AreRight st → IsFree st → wait_of session st.waiting ≡ o → IsResumed o limit st session line answer vs
    → IsFree (after_resumed o st session line answer vs)
resumed_free None limit st session line answer vs fault r free its is = free
resumed_free (Some w) limit st session line answer vs fault r free its is =
    let f = found_is (λ (v : Wait). v.session == session) st.waiting w its in
    let same : w.session ≡ session = eqb-true w.session session f.1 in
    call_free (early_refusal (resumed st w) session w.call) limit (resumed st w) session line w.call answer vs
    (resumed_is-right st w r (ap (λ (n : ℕ). wait_of n st.waiting) same ∙ its) (subst (λ (x : Option Fault). IsReady x st w.txn) fault is.1))
    (forgotten_free w.txn st.locks free) refl is.2

if_free : (answer : Answer) (st : Standing) → IsFree st → IsFree (faulted_if answer st)
if_free DiskFault st free = free
if_free answer st free = free

sync_free : (answer : Answer) (st : Standing) → IsFree st → IsFree (after_begin st answer)
sync_free Done st free = free
sync_free DiskFault st free = free
sync_free answer st free = free

turn_free : (step : Step) (answer : Answer) (st : Standing) → IsFree st → IsFree (after_turn step st answer)
turn_free BeginStep Done st free = free
turn_free Finish Done st free = free
turn_free BeginStep answer st free = if_free answer st free
turn_free Finish answer st free = if_free answer st free
turn_free Flush answer st free = if_free answer st free
turn_free SyncStep answer st free = if_free answer st free

event_free : (limit : Option Answer) (st : Standing) (event : Event) → st.fault ≡ None → AreRight st → IsFree st → IsAnswered limit st event → IsFree (after_event st event)
event_free limit st (Called session line call answer victims) fault r free is = call_free (early_refusal st session call) limit st session line call answer victims r free refl is
event_free limit st (Resume session line answer victims) fault r free is = resumed_free (wait_of session st.waiting) limit st session line answer victims fault r free refl is
event_free limit st (End session) fault r free is = if_any_free (active_of session st.actives) (record st { waiting = without_wait session st.waiting }) (queues_of st.locks r.sound.tables) free
event_free limit st (WriteOut answer) fault r free is = if_free answer st free
event_free limit st (SyncBegin answer) fault r free is = sync_free answer st free
event_free limit st (SyncEnd answer) fault r free is = if_free answer (record st { begun = None }) free
event_free limit st (Turn line step answer) fault r free is = turn_free step answer st free

-- ---- after a fault calls are refused, and only sessions end

abbrev AreResting : Standing → Type 0
AreResting st = AreQueues st.locks × IsFree st

rest_called : (st : Standing) (session line : ℕ) (call : Call) (answer : Answer) (vs : List Victim) → HasAnyFault st → AreResting st → AreResting (after_call (early_refusal st session call) st session line call answer vs)
rest_called st session line call answer vs f q = subst (λ (o : Option Answer). AreResting (after_call o st session line call answer vs)) (sym (faulted_refusal st session call f.0 f.1)) q

rest_resumed : (o : Option Wait) (st : Standing) (session line : ℕ) (answer : Answer) (vs : List Victim) → HasAnyFault st → AreResting st → AreResting (after_resumed o st session line answer vs)
rest_resumed None st session line answer vs f q = q
rest_resumed (Some w) st session line answer vs f q = rest_called (resumed st w) session line w.call answer vs f (forgotten_queues w.txn st.locks q.0, forgotten_free w.txn st.locks q.1)

rest_ended : (o : Option Active) (st : Standing) → AreResting st → AreResting (ended_if_any o st)
rest_ended None st q = q
rest_ended (Some a) st q = (released_queues a.txn st.locks q.0, released_free a.txn st.locks q.0 q.1)

rest_if : (answer : Answer) (st : Standing) → AreResting st → AreResting (faulted_if answer st)
rest_if DiskFault st q = q
rest_if answer st q = q

rest_sync : (answer : Answer) (st : Standing) → AreResting st → AreResting (after_begin st answer)
rest_sync Done st q = q
rest_sync DiskFault st q = q
rest_sync answer st q = q

rest_turn : (step : Step) (answer : Answer) (st : Standing) → AreResting st → AreResting (after_turn step st answer)
rest_turn BeginStep Done st q = q
rest_turn Finish Done st q = q
rest_turn BeginStep answer st q = rest_if answer st q
rest_turn Finish answer st q = rest_if answer st q
rest_turn Flush answer st q = rest_if answer st q
rest_turn SyncStep answer st q = rest_if answer st q

rest_event : (st : Standing) (event : Event) → HasAnyFault st → AreResting st → AreResting (after_event st event)
rest_event st (Called session line call answer victims) f q = rest_called st session line call answer victims f q
rest_event st (Resume session line answer victims) f q = rest_resumed (wait_of session st.waiting) st session line answer victims f q
rest_event st (End session) f q = rest_ended (active_of session st.actives) (record st { waiting = without_wait session st.waiting }) q
rest_event st (WriteOut answer) f q = rest_if answer st q
rest_event st (SyncBegin answer) f q = rest_sync answer st q
rest_event st (SyncEnd answer) f q = rest_if answer (record st { begun = None }) q
rest_event st (Turn line step answer) f q = rest_turn step answer st q

-- ---- journals

abbrev Carries : Standing → Type 0
Carries st = ((st.fault ≡ None) × AreRight st × IsFree st) ⊎ (HasAnyFault st × AreResting st)

free_now : (st : Standing) → Carries st → HasNoCycle (waits_at st)
free_now st (inl c) = c.2
free_now st (inr c) = c.1.1

carried : (limit : Option Answer) (st : Standing) (event : Event) → Carries st → IsAnswered limit st event → Carries (after_event st event)
carried limit st event (inl c) is = by (after_event st event).fault refl
  where
    right : AreRight (after_event st event)
    right = standings_stay-right limit st event c.0 c.1 is

    by : (o : Option Fault) → (after_event st event).fault ≡ o → Carries (after_event st event)
    by None e = inl (e, right, event_free limit st event c.0 c.1 c.2 is)
    by (Some first) e = inr ((first, e, tt), (queues_of (after_event st event).locks right.sound.tables, event_free limit st event c.0 c.1 c.2 is))
carried limit st event (inr c) is = inr (fault_stays AnyStore st event c.0, rest_event st event c.0 c.1)

never : (limits : List (Option Answer)) (journal : List Event) (st : Standing) → Carries st → AnswersAsModel st limits journal → NeverWaitInCycle st journal
never limits [] st c is = free_now st c
never [] (event ∷ journal) st c is = absurd is
never (limit ∷ limits) (event ∷ journal) st c is = (free_now st c, never limits journal (after_event st event) (carried limit st event c is.0) is.1)

-- nobody waits at the beginning
nothing : HasNoCycle (λ (x y : TxnId). false)
nothing [] = refl
nothing (x ∷ []) = refl
nothing (x ∷ (y ∷ ys)) = refl

pub cycles_never-stand : CyclesNeverStand
cycles_never-stand p limits journal is = never limits journal (alone p) (first p.fault refl) is
  where
    first : (o : Option Fault) → p.fault ≡ o → Carries (alone p)
    first None e = inl (e, alone-is_right p, nothing)
    first (Some f) e = inr ((f, e, tt), (queues_of (alone p).locks (alone-is_right p).sound.tables, nothing))

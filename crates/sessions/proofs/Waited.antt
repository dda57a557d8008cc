-- A call that was made to wait has stopped as the model says.
use Rattle.std.proofs.Common.{◌≡◌, ℕ, ◌≤◌, ◌+◌, Bool, true, List, [], ◌∷◌, ◌++◌, length, map, Some, None, Option, refl, ap, ap₂, sym, ◌∙◌, subst, arith}
use Rattle.std.specs.List.{AllByRecursion, slice_get}
use Rattle.je_order.specs.declared.txn_id.TxnId.{TxnId}
use Rattle.waits_for.specs.Cycles.{is_in}
use Rattle.lock_table.specs.declared.record_id.RecordId.{RecordId}
use Rattle.lock_table.specs.Locks.{lock_of}
use Rattle.lock_mgr.specs.Deadlock.{AreVictims}
use Rattle.store_model.specs.declared.call.Call.{Call}
use Rattle.store_model.specs.declared.kind.Kind.{Kind}
use Rattle.store_model.specs.declared.need.Need.{Need}
use Rattle.store_model.specs.declared.victim.Victim.{Victim}
use Rattle.store_model.specs.declared.lock_target.LockTarget.{LockTarget}
use Rattle.store_model.specs.declared.answer.Answer.{Answer}
use Rattle.store_model.specs.declared.answer.Fault.{Fault}
use Rattle.je_answers.specs.declared.active.Active.{Active}
use Rattle.je_answers.specs.declared.wait.Wait.{Wait}
use Rattle.je_answers.specs.Standing.{LockState, Standing, active_of}
use Rattle.je_answers.specs.Views.{Target, needs_in}
use Rattle.je_answers.specs.Locking.{record_of, first_blocked, owner_before, with_wait, waits_in}
use Rattle.je_answers.specs.Events.{told_in, cycle_of, waiting_answer, lock_target, asking, queues_before, locks_before, IsWaiting, IsStopped}
use Rattle.je_answers.specs.After.{txns_of, with_victims, after_stop}
use Rattle.txn_locks.specs.Taking.{state_of, with_granted, IsMadeToWait}
use Rattle.standing_laws.specs.Right.{HaveWaits, IsWaitIn, has_wait}
use Rattle.standing_laws.proofs.Among.{its_session}
use Rattle.sessions.specs.declared.all_sessions.Sessions.{Sessions}
use Rattle.sessions.specs.declared.taken.Taken.{Taken}
use Rattle.sessions.specs.declared.taken.Taken.TheVariants.{Ready, Stopped}
use Rattle.sessions.specs.declared.asker.Asker.{Asker}
use Rattle.sessions.specs.declared.blocked.Blocked.{Blocked}
use Rattle.sessions.specs.declared.stop_room.StopRoom.{StopRoom}
use Rattle.active_txns.specs.declared.active_txns.ActiveTxns.{ActiveTxns}
use Rattle.active_txns.specs.Own.{AreCounted}
use Rattle.open_cursors.specs.declared.open_cursors.OpenCursors.{OpenCursors}
use Rattle.lock_table.specs.Table.{Locks}
use Rattle.sessions.specs.AtStanding.{AreCursorsOn, AreSessionsAt, AreLocksAt}
use Rattle.sessions.specs.Taking.{HasStopped}
use Rattle.sessions.specs.declared.named_db.NamedDb.{NamedDb}
use Rattle.sessions.specs.Names.{target_by}
use Rattle.sessions.proofs.Naming.{target_is}
use Rattle.sessions.specs.Spares.{IsShort}
use Rattle.sessions.specs.Waiting.{HasTold, HasWaited}
use Rattle.standing_laws.proofs.Victims.{txns, few_victims, victims_in, all_wait}
use Rattle.sessions.proofs.Bounds.{short_cycles}
use Rattle.standing_laws.proofs.Gone.{wait_alike, same_gone}

-- ---- who waits

one_more : (ws : List Wait) (w : Wait) → length (txns (ws ++ w ∷ [])) ≡ length ws + 1
one_more [] w = refl
one_more (v ∷ vs) w = let k = one_more vs w in omega (arith, k)

pub few_told : (t : TxnId) (needs : List Need) (b : Blocked) (old new : LockState) (ws now : List Wait) (w : Wait) → IsMadeToWait t needs b.at b.owner b.victims.items old new → now ≡ ws
    → w.txn ≡ t → ((u : TxnId) (at : RecordId) → old.pending u ≡ Some at → has_wait u ws ≡ true) → length b.victims.items ≤ length now + 1
few_told t needs b old new ws now w made same its told =
    let k = few_victims t _ (txns (ws ++ w ∷ [])) b.victims.items (all_wait (lock_of t made.need.asked) (record_of made.need) (with_granted t needs old) ws w its told) made.each in
    let m = one_more ws w in let n = ap (λ (l : List Wait). length l) same in omega (arith, k, m, n)

pub short_told : (t : TxnId) (needs : List Need) (b : Blocked) (old new : LockState) (ws now : List Wait) (w : Wait) → IsMadeToWait t needs b.at b.owner b.victims.items old new → now ≡ ws
    → w.txn ≡ t → ((u : TxnId) (at : RecordId) → old.pending u ≡ Some at → has_wait u ws ≡ true) → AllByRecursion (IsShort (length now + 1)) b.victims.items
short_told t needs b old new ws now w made same its told =
    subst (λ (n : ℕ). AllByRecursion (IsShort n) b.victims.items) (one_more ws w ∙ ap (λ (l : List Wait). length l + 1) (sym same))
    (short_cycles t _ (txns (ws ++ w ∷ [])) b.victims.items (all_wait (lock_of t made.need.asked) (record_of made.need) (with_granted t needs old) ws w its told) made.each)

-- ---- the stop

each_with : (actives : List Active) (ws : List Wait) (w : Wait) → AllByRecursion (IsWaitIn actives) ws → IsWaitIn actives w → AllByRecursion (IsWaitIn actives) (ws ++ w ∷ [])
each_with actives [] w h k = (k, tt)
each_with actives (v ∷ vs) w h k = (h.0, each_with actives vs w h.1 k)

by_waits : (b : Bool) (st : Standing) (a : Active) (line : ℕ) (call : Call) (g : Target) (n : Need) (owner : TxnId) (o : Option TxnId) (answer : Answer) (victims : List Victim) (found : List (TxnId × List TxnId))
    → a.waits ≡ true → o ≡ Some owner → AreVictims a.txn (waits_in (lock_of a.txn n.asked) (record_of n) (locks_before st a call g)) found → victims ≡ map (told_in (st.waiting ++ asking a line call ∷ [])) found
    → answer ≡ waiting_answer (cycle_of a.txn found) (lock_target g n) owner → IsStopped o st a line call g n answer victims
by_waits b st a line call g n owner o answer victims found waits is each tells answers =
    subst (λ (x : Option TxnId). IsStopped x st a line call g n answer victims) (sym is)
    (subst (λ (w : Bool). IsWaiting w st a line call g n owner answer victims) (sym waits) (found, each, tells, answers))

pub stopped_so : (st : Standing) (a : Active) (line : ℕ) (call : Call) (g : Target) (need : Need) (owner : TxnId) (found : List (TxnId × List TxnId)) (answer : Answer) (victims : List Victim) (new : Sessions)
    → HaveWaits st.actives st.waiting st.locks.pending → active_of a.session st.actives ≡ Some a → a.waits ≡ true
    → first_blocked a.txn (needs_in st a call g) st.locks.at ≡ Some need → owner_before a.txn need (queues_before st a call g) ≡ Some owner
    → AreVictims a.txn (waits_in (lock_of a.txn need.asked) (record_of need) (locks_before st a call g)) found
    → victims ≡ map (told_in (st.waiting ++ asking a line call ∷ [])) found → answer ≡ waiting_answer (cycle_of a.txn found) (lock_target g need) owner
    → AreSessionsAt new (with_victims victims (record st { waiting = st.waiting ++ asking a line call ∷ []; locks = with_wait a.txn need (map (λ v. v.0) found) (locks_before st a call g) }))
    → HasStopped new st a line call g answer victims
stopped_so st a line call g need owner found answer victims new have its waits first least each tells answers stands = record {
  need = need;
  first = first;
  answers = by_waits true st a line call g need owner (owner_before a.txn need (queues_before st a call g)) answer victims found waits least each tells answers;
  stands = subst (λ (b : Bool). AreSessionsAt new (after_stop b st a line call g need victims)) (sym waits)
      (subst (λ (l : LockState). AreSessionsAt new (with_victims victims (record st { waiting = st.waiting ++ asking a line call ∷ []; locks = l }))) same stands);
}
  where
    ws : List Wait
    ws = st.waiting ++ asking a line call ∷ []

    wait_its : IsWaitIn st.actives (asking a line call)
    wait_its = record { active = a; its = its; same = refl }

    there : AllByRecursion (λ v. is_in v.0 (map (λ w. w.txn) ws) ≡ true) found
    there = victims_in a.txn _ (txns ws) found (all_wait (lock_of a.txn need.asked) (record_of need) (locks_before st a call g) st.waiting (asking a line call) refl have.told) each

    gone : (u : TxnId) → is_in u (map (λ v. v.0) found) ≡ is_in u (txns_of victims st.actives)
    gone u = same_gone found st.actives ws have.sessions (each_with st.actives st.waiting (asking a line call) have.each wait_its) there u ∙ ap (λ (l : List Victim). is_in u (txns_of l st.actives)) (sym tells)

    same : with_wait a.txn need (map (λ v. v.0) found) (locks_before st a call g) ≡ with_wait a.txn need (txns_of victims st.actives) (locks_before st a call g)
    same = wait_alike a.txn need (map (λ v. v.0) found) (txns_of victims st.actives) (locks_before st a call g) gone

pub at_none : (f : Option Fault) (v : Locks) (state : LockState) → f ≡ None → AreLocksAt f v state → state_of v ≡ state
at_none f v state is h = subst (λ (x : Option Fault). AreLocksAt x v state) is h

its_own : (f : Option Fault) (v : Locks) → AreLocksAt f v (state_of v)
its_own None v = refl
its_own (Some first) v = tt

abbrev wait_with : ℕ → ℕ → Call → TxnId → Wait
wait_with session line call t = record { session = session; line = line; call = call; txn = t }

pub waited : (taken : Taken) (k : Asker) (session line : ℕ) (call : Call) (db : List ℕ) (kind : Kind) (others : List NamedDb) (needs ns : List Need) (room : StopRoom) (b : Blocked) (old mid new : Sessions)
    → HasTold taken room kind needs b mid new → ns ≡ needs
    → IsMadeToWait k.txn ns b.at b.owner b.victims.items (state_of old.locks.locks) (state_of mid.locks.locks)
    → room.wait ≡ record { session = session; line = line; call = call; txn = k.txn } → room.db ≡ db → room.others ≡ others
    → mid.txns ≡ old.txns → mid.waiting.items ≡ old.waiting.items → mid.cursors ≡ old.cursors
    → HaveWaits old.txns.actives.items old.waiting.items (state_of old.locks.locks).pending
    → HasWaited taken k session line call db kind others needs old new
waited Ready k session line call db kind others needs ns room b old mid new h same made wait_is db_is others_is txns_is ws_is cursors_is have = h
waited (Stopped answer victims) k session line call db kind others needs ns room b old mid new h same made wait_is db_is others_is txns_is ws_is cursors_is have = λ st a g fault asker waits are at.
    let state : state_of old.locks.locks ≡ st.locks = at_none st.fault old.locks.locks st.locks fault at.locks in
    let mine = its_session session st.actives a are.its in
    let w : room.wait ≡ asking a line call = wait_is ∙ ap₂ (λ (n : ℕ) (t : TxnId). wait_with n line call t) (sym mine.1) asker.its in
    let m1 = subst (λ (l : List Need). IsMadeToWait k.txn l b.at b.owner b.victims.items (state_of old.locks.locks) (state_of mid.locks.locks)) (same ∙ are.each) made in
    let m2 = subst (λ (t : TxnId). IsMadeToWait t (needs_in st a call g) b.at b.owner b.victims.items (state_of old.locks.locks) (state_of mid.locks.locks)) asker.its m1 in
    let m : IsMadeToWait a.txn (needs_in st a call g) b.at b.owner b.victims.items st.locks (state_of mid.locks.locks) = subst (λ (l : LockState). IsMadeToWait a.txn (needs_in st a call g) b.at b.owner b.victims.items l (state_of mid.locks.locks)) state m2 in
    let h1 = subst (λ (l : LockState). HaveWaits old.txns.actives.items old.waiting.items l.pending) state have in
    let h2 = subst (λ (l : List Wait). HaveWaits old.txns.actives.items l st.locks.pending) at.waiting h1 in
    let waits_have : HaveWaits st.actives st.waiting st.locks.pending = subst (λ (l : List Active). HaveWaits l st.waiting st.locks.pending) at.actives h2 in
    let list : mid.waiting.items ≡ st.waiting = ws_is ∙ at.waiting in
    let its : active_of a.session st.actives ≡ Some a = ap (λ n. active_of n st.actives) mine.1 ∙ are.its in
    let tells : victims ≡ map (told_in (st.waiting ++ asking a line call ∷ [])) b.victims.items = h.tells ∙ ap₂ (λ (l : List Wait) (x : Wait). map (told_in (l ++ x ∷ [])) b.victims.items) list w in
    let there : slice_get needs b.at ≡ Some m.need = ap (λ (l : List Need). slice_get l b.at) are.each ∙ m.there in
    let answers : answer ≡ waiting_answer (cycle_of a.txn b.victims.items) (lock_target g m.need) b.owner = h.answers m.need there
    ∙ (ap (λ (x : Wait). waiting_answer (cycle_of x.txn b.victims.items) (target_by room.others (room.db, kind) m.need) b.owner) w
    ∙ ap (λ (x : LockTarget). waiting_answer (cycle_of a.txn b.victims.items) x b.owner)
    (ap₂ (λ (o : List NamedDb) (d : List ℕ). target_by o (d, kind) m.need) others_is (db_is ∙ sym are.name)
    ∙ ap (λ (q : Kind). target_by others (g.database.name, q) m.need) (sym are.its_kind) ∙ target_is others g m.need are.beside)) in
    let there_at : AreSessionsAt mid (record st { locks = state_of mid.locks.locks }) = record {
      actives = ap (λ (t : ActiveTxns). t.actives.items) txns_is ∙ at.actives;
      own = subst (λ (t : ActiveTxns). AreCounted t.own.entries st.own) (sym txns_is) at.own;
      places = subst (λ (o : OpenCursors). AreCursorsOn o st.store st.numbers st.places) (sym cursors_is) at.places;
      waiting = list;
      locks = its_own st.fault mid.locks.locks;
    } in
    let stands = h.stands (record st { locks = state_of mid.locks.locks }) waits_have.sessions there_at in
    stopped_so st a line call g m.need b.owner b.victims.items answer victims new waits_have its waits m.stopped.first m.stopped.least m.each tells answers
    (subst (λ (x : Wait). AreSessionsAt new (with_victims victims (record st { waiting = st.waiting ++ x ∷ []; locks = with_wait a.txn m.need (map (λ v. v.0) b.victims.items) (locks_before st a call g) }))) w
    (subst (λ (l : LockState). AreSessionsAt new (with_victims victims (record st { waiting = st.waiting ++ room.wait ∷ []; locks = l }))) m.locks stands))

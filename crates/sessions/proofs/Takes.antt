-- A call that takes its needs: what is asked without waiting, and what follows.
use Rattle.std.proofs.Common.{◌≡◌, ℕ, Bool, true, false, List, [], ◌∷◌, reverse, Some, None, Option, ap, ap₂, sym, ◌∙◌, subst}
use Rattle.je_order.specs.declared.txn_id.TxnId.{TxnId}
use Rattle.lock_table.specs.declared.record_id.RecordId.{RecordId}
use Rattle.lock_table.specs.Table.{pending_at}
use Rattle.store_model.specs.declared.isolation.Isolation.{Isolation}
use Rattle.store_model.specs.declared.isolation.Isolation.TheVariants.{ReadCommitted}
use Rattle.store_model.specs.declared.need.Need.{Need}
use Rattle.store_model.specs.declared.answer.Fault.{Fault}
use Rattle.je_answers.specs.declared.active.Active.{Active}
use Rattle.je_answers.specs.declared.wait.Wait.{Wait}
use Rattle.je_answers.specs.Standing.{LockState, Standing, active_of}
use Rattle.je_answers.specs.Locking.{first_blocked}
use Rattle.txn_locks.specs.declared.got.Got.{Got}
use Rattle.txn_locks.specs.declared.call_locks.CallLocks.{CallLocks}
use Rattle.txn_locks.specs.Taking.{state_of, with_all, when_answered}
use Rattle.txn_locks.specs.Undoing.{AreGot, HasNoRead, AreReadsAmong}
use Rattle.standing_laws.specs.Right.{HaveWaits, AreSound}
use Rattle.sessions.specs.declared.all_sessions.Sessions.{Sessions}
use Rattle.sessions.specs.declared.asker.Asker.{Asker}
use Rattle.sessions.specs.AtStanding.{AreSessionsAt, AreLocksAt}
use Rattle.sessions.specs.Taking.{MayAsk, HasTaken}
use Rattle.sessions.specs.Waiting.{IsAsker, HasAsked}
use Rattle.sessions.proofs.Waited.{at_none}

-- ---- what was got

pub got_pending : (t : TxnId) (gs : List Got) (old new : LockState) → AreGot t gs old new → new.pending ≡ old.pending
got_pending t [] old new h = ap (λ (s : LockState). s.pending) h
got_pending t (g ∷ gs) old new h = h.2.pending ∙ got_pending t gs old h.0 h.1

pub asked_told : (k : Asker) (needs : List Need) (owner : Option TxnId) (old new : CallLocks) (t : TxnId) → HasAsked k needs owner old new → pending_at t old.locks ≡ None → pending_at t new.locks ≡ None
asked_told k needs owner old new t h none = ap (λ (p : TxnId → Option RecordId). p t) (got_pending k.txn (reverse new.got.items) (state_of old.locks) (state_of new.locks) h.got) ∙ none

-- ---- who asks

abbrev asker_for : Active → Asker
asker_for a = record { txn = a.txn; level = a.level; waits = a.waits }

abbrev asker : TxnId → Isolation → Bool → Asker
asker t l w = record { txn = t; level = l; waits = w }

asker_is : (k : Asker) (a : Active) → IsAsker k a → k ≡ asker_for a
asker_is k a i = ap₂ (λ (t : TxnId) (l : Isolation). asker t l k.waits) i.its i.at ∙ ap (asker a.txn a.level) i.may

some_active : (x y : Active) → Some x ≡ Some y → x ≡ y
some_active x y e = cc

-- each transaction that is the session's is the one that asks
abbrev pub Asks : Sessions → ℕ → Asker → Type 0
Asks s session k = (a : Active) → active_of session s.txns.actives.items ≡ Some a → IsAsker k a

its_active : (s : Sessions) (session : ℕ) (st : Standing) (a : Active) → AreSessionsAt s st → active_of session st.actives ≡ Some a → active_of session s.txns.actives.items ≡ Some a
its_active s session st a at its = ap (active_of session) at.actives ∙ its

pub told_by : (s : Sessions) (session : ℕ) (resumed : Bool) (k : Asker) → Asks s session k → MayAsk s session resumed → pending_at k.txn s.locks.locks ≡ None
told_by s session resumed k asks may = ap (λ (t : TxnId). pending_at t s.locks.locks) (asks may.active may.its).its ∙ may.told

pub reads_by : (s : Sessions) (session : ℕ) (resumed : Bool) (k : Asker) (needs : List Need) (owner : Option TxnId) (new : CallLocks) → Asks s session k → MayAsk s session resumed → HasAsked k needs owner s.locks new
    → k.level ≡ ReadCommitted → resumed ≡ false → AreReadsAmong k.txn new.got.items (state_of new.locks).at
reads_by s session resumed k needs owner new asks may asked at new_ =
    let i = asks may.active may.its in
    asked.reads (subst (λ (t : TxnId). HasNoRead t (state_of s.locks.locks).at) (sym i.its) (may.reads (sym i.at ∙ at) new_))

-- ---- all was got

pub ready_taken : (s : Sessions) (new : CallLocks) (session : ℕ) (resumed : Bool) (k : Asker) (needs ns : List Need) (owner : Option TxnId) → Asks s session k → MayAsk s session resumed → ns ≡ needs → owner ≡ None → HasAsked k ns owner s.locks new
    → (st : Standing) (a : Active) → st.fault ≡ None → active_of session st.actives ≡ Some a → AreSessionsAt s st → HasTaken (record { txns = s.txns; locks = new; cursors = s.cursors; waiting = s.waiting }) resumed a needs st
ready_taken s new session resumed k needs ns owner asks may same none asked st a fault its at = record {
  actives = at.actives;
  own = at.own;
  places = at.places;
  waiting = at.waiting;
  free = ap (λ (l : LockState). first_blocked a.txn needs l.at) (sym state) ∙ asked_so.locked.0;
  locks = asked_so.locked.1 ∙ ap (λ (l : LockState). when_answered a.level a.txn (with_all a.txn needs l)) state;
  told = asked_told k ns owner s.locks new a.txn asked (subst (λ (t : TxnId). pending_at t s.locks.locks ≡ None) (asks a mine).its (told_by s session resumed k asks may));
  got = subst (λ (l : LockState). AreGot a.txn (reverse new.got.items) l (state_of new.locks)) state asked_so.got;
  reads = λ level new_. subst (λ (t : TxnId). AreReadsAmong t new.got.items (state_of new.locks).at) (asks a mine).its (reads_by s session resumed k ns owner new asks may asked ((asks a mine).at ∙ level) new_);
}
  where
    mine : active_of session s.txns.actives.items ≡ Some a
    mine = its_active s session st a at its

    state : state_of s.locks.locks ≡ st.locks
    state = at_none st.fault s.locks.locks st.locks fault at.locks

    asked_so : HasAsked (asker_for a) needs None s.locks new
    asked_so = subst (λ (x : Asker). HasAsked x needs None s.locks new) (asker_is k a (asks a mine)) (subst (λ (l : List Need). HasAsked k l None s.locks new) same (subst (λ (o : Option TxnId). HasAsked k ns o s.locks new) none asked))

-- ---- the call waits

-- given up, the locks are as before
pub given_up : (k : Asker) (needs : List Need) (o : Option TxnId) (old mid new : CallLocks) → HasAsked k needs o old mid
    → ((before : LockState) → AreGot k.txn (reverse mid.got.items) before (state_of mid.locks) → state_of new.locks ≡ before) → state_of new.locks ≡ state_of old.locks
given_up k needs o old mid new asked back = back (state_of old.locks) asked.got

pub still_at : (s : Sessions) (new : CallLocks) → state_of new.locks ≡ state_of s.locks.locks → (st : Standing) → AreSessionsAt s st → AreSessionsAt (record { txns = s.txns; locks = new; cursors = s.cursors; waiting = s.waiting }) st
still_at s new back st at = record {
  actives = at.actives;
  own = at.own;
  places = at.places;
  waiting = at.waiting;
  locks = by_fault st.fault at.locks;
}
  where
    by_fault : (f : Option Fault) → AreLocksAt f s.locks.locks st.locks → AreLocksAt f new.locks st.locks
    by_fault None h = back ∙ h
    by_fault (Some first) h = tt

-- ---- who may ask

-- a session's transaction that was told nothing may ask, where what holds of the standing holds; the locks of its READs are looked at one by one (`resumed`)
pub may_ask : (s : Sessions) (st : Standing) (session : ℕ) (a : Active) → AreSessionsAt s st → st.fault ≡ None → AreSound st → active_of session st.actives ≡ Some a → st.locks.pending a.txn ≡ None → MayAsk s session true
may_ask s st session a at fault sound its told =
    let state = at_none st.fault s.locks.locks st.locks fault at.locks in
    record {
      active = a;
      its = its_active s session st a at its;
      told = ap (λ (l : LockState). l.pending a.txn) state ∙ told;
      waits = subst (λ (l : LockState). HaveWaits s.txns.actives.items s.waiting.items l.pending) (sym state)
          (subst (λ (l : List Active). HaveWaits l s.waiting.items st.locks.pending) (sym at.actives) (subst (λ (l : List Wait). HaveWaits st.actives l st.locks.pending) (sym at.waiting) sound.waits));
      reads = λ level no_. absurd (cc (no_));
    }

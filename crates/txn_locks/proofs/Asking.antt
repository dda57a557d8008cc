-- What a request comes to.
use Rattle.std.proofs.Common.{◌≡◌, ℕ, Bool, true, false, cond, ◌&&◌, List, [], ◌∷◌, ◌++◌, map, Some, None, Option, refl, ap, sym, ◌∙◌, subst, ⊎_elim, inl}
use mathlib.Core.Path.{fun_ext}
use Rattle.std.specs.Option.{is_some, option_map_or, IfSome, IfNone}
use Rattle.std.proofs.lemmas.Bool.{cases_Bool, cond-true, cond-false, or_from, or_left}
use Rattle.je_order.specs.declared.txn_id.TxnId.{TxnId}
use Rattle.je_order.specs.Transactions.{is_same_txn}
use Rattle.je_order.proofs.TxnIds.{same_is, same_either}
use Rattle.lock_mode.specs.declared.lock_type.LockType.{LockType}
use Rattle.waits_for.specs.Cycles.{is_in}
use Rattle.lock_table.specs.declared.lock.Lock.{Lock}
use Rattle.lock_table.specs.declared.record_id.RecordId.{RecordId}
use Rattle.lock_table.specs.Locks.{lock_of, held_by, is_blocked, blocker, after_ask, after_cancel}
use Rattle.lock_table.specs.Records.{is_record}
use Rattle.lock_table.specs.Table.{Locks, locks_at, pending_at}
use Rattle.lock_table.proofs.QueueMaps.{record_is}
use Rattle.lock_table.proofs.RecordCalls.{cancel_nothing}
use Rattle.lock_table.proofs.WholeTable.{cancel_asked}
use Rattle.lock_table.proofs.CallSteps.{record_same, blocked_some}
use Rattle.lock_mgr.specs.declared.requested.Requested.{Requested}
use Rattle.lock_mgr.specs.declared.requested.Requested.TheVariants.{Granted, Waiting, NotAvailable, Victims}
use Rattle.lock_mgr.specs.Deadlock.{waits_with, NoDeadlock, AreVictims, owner_of, SaysWas, victims_of, taken_back, without_waits, HasSomeVictims}
use Rattle.store_model.specs.declared.need.Need.{Need}
use Rattle.je_answers.specs.Locking.{record_of}
use Rattle.txn_locks.specs.declared.got.Got.{Got}
use Rattle.txn_locks.specs.declared.locked.Locked.{Locked}
use Rattle.txn_locks.specs.Taking.{state_of, with_got, was_in, stop_of, IsTurn}
use Rattle.txn_locks.specs.Undoing.{IsBack, IsOneGot, NotesGot}
use Rattle.txn_locks.proofs.States.{same_state, told_nothing, waits_nowhere}
use Rattle.txn_locks.proofs.Backs.{back_at}

-- what a manager's request says, in one record
pub record IsRequested (t : TxnId) (at : RecordId) (m : LockType) (wait : Bool) (v w : Locks) (q : Requested) : Type 0 where
  pub owner : owner_of q ≡ blocker (lock_of t m) (locks_at at v).0
  pub waits : is_some (victims_of q) ≡ (is_some (owner_of q) && wait)
  pub victims : IfSome (victims_of q) (AreVictims t (waits_with (lock_of t m) at v))
  pub locks : (r : RecordId) → locks_at r w ≡ without_waits (taken_back t q) (cond (is_record at r) (after_ask (lock_of t m) (locks_at r v)) (locks_at r v))
  pub pending : (u : TxnId) → is_in u (taken_back t q) ≡ false → pending_at u w ≡ cond (is_same_txn t u) (option_map_or (λ _. Some at) (owner_of q) None) (pending_at u v)
  pub gone : (u : TxnId) → is_in u (taken_back t q) ≡ true → pending_at u w ≡ None
  pub told : HasSomeVictims q

-- a request that is not to wait leaves no trace
refused_at : (t : TxnId) (at : RecordId) (m : LockType) (owner : TxnId) (v : Locks) → NoDeadlock v → pending_at t v ≡ None → Some owner ≡ blocker (lock_of t m) (locks_at at v).0
    → (r : RecordId) → after_cancel t (cond (is_record at r) (after_ask (lock_of t m) (locks_at r v)) (locks_at r v)) ≡ locks_at r v
refused_at t at m owner v s none is r = ⊎_elim
    (λ e. ap (after_cancel t) (cond-true (is_record at r) (after_ask (lock_of t m) (locks_at r v)) (locks_at r v) e)
    ∙ cancel_asked (lock_of t m) (locks_at r v) (waits_nowhere t v s none r) (subst (λ (x : RecordId). is_blocked (locks_at x v).0 (lock_of t m) ≡ true) (record_is at r e) (blocked_some (lock_of t m) (locks_at at v).0 ∙ sym (ap is_some is))))
    (λ e. ap (after_cancel t) (cond-false (is_record at r) (after_ask (lock_of t m) (locks_at r v)) (locks_at r v) e) ∙ cancel_nothing t (locks_at r v) (waits_nowhere t v s none r))
    (cases_Bool (is_record at r))

alone_in : (t u : TxnId) → is_same_txn t u ≡ true → is_in u (t ∷ []) ≡ true
alone_in t u e = or_left (is_same_txn u t) false (same_either u t ∙ e)

not_alone : (t u : TxnId) → is_same_txn t u ≡ false → is_in u (t ∷ []) ≡ false
not_alone t u e = or_from (is_same_txn u t) false (same_either u t ∙ e) refl

refused_pending : (t : TxnId) (at : RecordId) (m : LockType) (wait : Bool) (owner : TxnId) (v w : Locks) → pending_at t v ≡ None → IsRequested t at m wait v w (NotAvailable owner) → (u : TxnId) → pending_at u w ≡ pending_at u v
refused_pending t at m wait owner v w none q u = ⊎_elim
    (λ e. q.gone u (alone_in t u e) ∙ sym (subst (λ (x : TxnId). pending_at x v ≡ None) (same_is t u e) none))
    (λ e. q.pending u (not_alone t u e) ∙ cond-false (is_same_txn t u) (Some at) (pending_at u v) e)
    (cases_Bool (is_same_txn t u))

victims_pending : (t : TxnId) (at : RecordId) (m : LockType) (wait : Bool) (owner : TxnId) (vs : List (TxnId × List TxnId)) (v w : Locks) → IsRequested t at m wait v w (Victims owner vs)
    → (u : TxnId) → pending_at u w ≡ cond (is_in u (map (λ x. x.0) vs)) None (cond (is_same_txn t u) (Some at) (pending_at u v))
victims_pending t at m wait owner vs v w q u = ⊎_elim
    (λ e. q.gone u e ∙ sym (cond-true (is_in u (map (λ x. x.0) vs)) None (cond (is_same_txn t u) (Some at) (pending_at u v)) e))
    (λ e. q.pending u e ∙ sym (cond-false (is_in u (map (λ x. x.0) vs)) None (cond (is_same_txn t u) (Some at) (pending_at u v)) e))
    (cases_Bool (is_in u (map (λ x. x.0) vs)))

pub turn_is : (t : TxnId) (n : Need) (wait : Bool) (place : ℕ) (v w : Locks) (q : Requested) → NoDeadlock v → pending_at t v ≡ None → IsRequested t (record_of n) n.asked wait v w q → IsTurn (stop_of place q) t n place wait (state_of v) (state_of w)
turn_is t n wait place v w (Granted was) s none q = (sym q.owner, same_state (state_of w) (with_got t n (state_of v)) q.locks (λ u. q.pending u refl ∙ told_nothing t u v none))
turn_is t n wait place v w (NotAvailable owner) s none q =
    (sym q.waits, sym q.owner, same_state (state_of w) (state_of v) (λ r. q.locks r ∙ refused_at t (record_of n) n.asked owner v s none q.owner r) (refused_pending t (record_of n) n.asked wait owner v w none q))
turn_is t n wait place v w (Waiting owner) s none q =
    (sym q.waits, refl, sym q.owner, q.victims, same_state (state_of w) _ q.locks (λ u. q.pending u refl))
turn_is t n wait place v w (Victims owner vs) s none q =
    (sym q.waits, refl, q.told, sym q.owner, q.victims, same_state (state_of w) _ q.locks (victims_pending t (record_of n) n.asked wait owner vs v w q))

-- where it was granted, the lock can be given back
free_from : (w : Lock) (os : List Lock) → None ≡ blocker w os → is_blocked os w ≡ false
free_from w os is = blocked_some w os ∙ sym (ap is_some is)

pub one_got : (t : TxnId) (at : RecordId) (m : LockType) (wait : Bool) (v w : Locks) (was : Option LockType) → NoDeadlock v → pending_at t v ≡ None → IsRequested t at m wait v w (Granted was) → IsOneGot t (record { at = at; was = held_by t (locks_at at v).0 }) (state_of v) (state_of w)
one_got t at m wait v w was s none q = record {
  here = subst (IsBack t (held_by t (locks_at at v).0) (locks_at at v)) (sym (q.locks at ∙ cond-true (is_record at at) (after_ask (lock_of t m) (locks_at at v)) (locks_at at v) (record_same at)))
      (back_at t m (locks_at at v) (s.sound.settled at) (free_from (lock_of t m) (locks_at at v).0 q.owner));
  there = λ r e. q.locks r ∙ cond-false (is_record at r) (after_ask (lock_of t m) (locks_at r v)) (locks_at r v) e;
  pending = fun_ext (λ u. q.pending u refl ∙ told_nothing t u v none);
}

pub got_if_granted : (t : TxnId) (n : Need) (wait : Bool) (place : ℕ) (v w : Locks) (q : Requested) (was : Option LockType) (old new : List Got) → NoDeadlock v → pending_at t v ≡ None → IsRequested t (record_of n) n.asked wait v w q
    → was ≡ was_in q → SaysWas q (held_by t (locks_at (record_of n) v).0) → IfNone (stop_of place q) (new ≡ old ++ record { at = record_of n; was = was } ∷ [])
    → IfNone (stop_of place q) (NotesGot t n old new (state_of v) (state_of w))
got_if_granted t n wait place v w (Granted held) was old new s none q is says put =
    inl (record { at = record_of n; was = was }, refl, put, subst (λ (x : Option LockType). IsOneGot t (record { at = record_of n; was = x }) (state_of v) (state_of w)) (sym (is ∙ says)) (one_got t (record_of n) n.asked wait v w held s none q))
got_if_granted t n wait place v w (NotAvailable owner) was old new s none q is says put = tt
got_if_granted t n wait place v w (Waiting owner) was old new s none q is says put = tt
got_if_granted t n wait place v w (Victims owner vs) was old new s none q is says put = tt

-- the same by the names that the code has
pub got_noted : (t : TxnId) (n : Need) (wait : Bool) (place : ℕ) (v w : Locks) (q : Requested) (stop : Option Locked) (was : Option LockType) (at : RecordId) (old mid new : List Got) → stop ≡ stop_of place q → NoDeadlock v → pending_at t v ≡ None
    → at ≡ record_of n → IsRequested t at n.asked wait v w q → was ≡ was_in q → SaysWas q (held_by t (locks_at at v).0) → mid ≡ old → IfNone stop (new ≡ mid ++ record { at = at; was = was } ∷ [])
    → IfNone stop (NotesGot t n old new (state_of v) (state_of w))
got_noted t n wait place v w q stop was at old mid new is s none e asked held says kept = subst (λ (st : Option Locked). IfNone st (new ≡ mid ++ record { at = at; was = was } ∷ []) → IfNone st (NotesGot t n old new (state_of v) (state_of w))) (sym is) inner
  where
    inner : IfNone (stop_of place q) (new ≡ mid ++ record { at = at; was = was } ∷ []) → IfNone (stop_of place q) (NotesGot t n old new (state_of v) (state_of w))
    inner put = got_if_granted t n wait place v w q was old new s none (subst (λ (x : RecordId). IsRequested t x n.asked wait v w q) e asked) held (subst (λ (x : RecordId). SaysWas q (held_by t (locks_at x v).0)) e says)
        (subst (λ (x : List Got). IfNone (stop_of place q) (new ≡ x ++ record { at = record_of n; was = was } ∷ [])) kept (subst (λ (x : RecordId). IfNone (stop_of place q) (new ≡ mid ++ record { at = x; was = was } ∷ [])) e put))

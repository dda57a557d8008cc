-- A call of its own where no transaction is under way: it meets no lock, and leaves none.
use mathlib.Core.Path.{fun_ext}
use Rattle.std.proofs.Common.{◌≡◌, ◌∙◌, ℕ, ◌+◌, ◌==◌, Bool, true, false, cond, not, List, [], ◌∷◌, length, Option, None, refl, ap, ap₂, sym, subst}
use Rattle.std.proofs.lemmas.Bool.{cond-false, eqb-true}
use Rattle.std.proofs.lemmas.List.{nil_from_length}
use Rattle.je_order.specs.declared.txn_id.TxnId.{TxnId}
use Rattle.je_order.specs.Transactions.{is_same_txn}
use Rattle.lock_table.specs.declared.record_id.RecordId.{RecordId}
use Rattle.store_model.specs.declared.call.Call.{Call}
use Rattle.store_model.specs.declared.need.Need.{Need}
use Rattle.je_answers.specs.After.{ended, with_locks, without_session}
use Rattle.je_answers.specs.Alone.{Alone, alone, no_locks}
use Rattle.je_answers.specs.Events.{auto_active, begun}
use Rattle.je_answers.specs.Locking.{Queues, all_got, first_blocked, released}
use Rattle.je_answers.specs.Standing.{LockState, Standing}
use Rattle.je_answers.specs.Views.{Target, needs_in}
use Rattle.je_answers.proofs.Unlocked.{all_gone, none_own, none_stopped, same_number}
use Rattle.active_txns.specs.Own.{AreCounted}
use Rattle.sessions.specs.declared.all_sessions.Sessions.{Sessions}
use Rattle.sessions.specs.AtStanding.{AreLocksAt, AreSessionsAt, owing}
use Rattle.standing_laws.specs.Right.{AreSound}
use Rattle.standing_laws.proofs.AloneRight.{no_transactions-is_alone}

-- ---- nobody has a lock

pub none_active : (st : Standing) → (length st.actives == 0) ≡ true → st.actives ≡ []
none_active st is = nil_from_length st.actives (eqb-true (length st.actives) 0 is)

pub nobody_blocks : (st : Standing) (session : ℕ) (call : Call) (g : Target) → AreSound st → st.actives ≡ [] →
    first_blocked (auto_active st session).txn (needs_in (begun st session) (auto_active st session) call g) st.locks.at ≡ None
nobody_blocks st session call g sound none =
    let t : TxnId = (auto_active st session).txn in
    let needs : List Need = needs_in (begun st session) (auto_active st session) call g in
    subst (λ (l : LockState). first_blocked t needs l.at ≡ None) (sym (ap (λ (s : Standing). s.locks) (no_transactions-is_alone st sound none).1)) (none_stopped t needs (λ r. ([], [])) (none_own t))

-- nobody owes a Commit
pub none_owes : (st : Standing) → AreSound st → st.actives ≡ [] → owing st + 1 ≡ 1
none_owes st sound none = ap (λ (s : Standing). owing s + 1) (no_transactions-is_alone st sound none).1

-- ---- nothing is left

abbrev nothing_of : (X : Type 0) → List X
nothing_of X = []

still_empty : {X : Type 0} (b : Bool) → cond b (nothing_of X) (nothing_of X) ≡ nothing_of X
still_empty true = refl
still_empty false = refl

its_gone : (p : Alone) (session : ℕ) → without_session session (auto_active (alone p) session ∷ []) ≡ []
its_gone p session = cond-false (not (session == session)) (auto_active (alone p) session ∷ []) [] (ap not (same_number session))

abbrev no_record : Option RecordId
no_record = None

never_pending : (b : Bool) → cond b None None ≡ no_record
never_pending true = refl
never_pending false = refl

abbrev locks_with : Queues → (TxnId → Option RecordId) → LockState
locks_with at pending = record { at = at; pending = pending }

unlocked : (t : TxnId) (ns : List Need) → released t (locks_with (all_got t ns (λ r. ([], []))) (λ u. None)) ≡ no_locks
unlocked t ns = ap₂ locks_with (fun_ext (all_gone t ns)) (fun_ext (λ u. never_pending (is_same_txn t u)))

closed_alone : (s : Sessions) (p : Alone) (session : ℕ) (needs : List Need) → AreSessionsAt s (alone p) →
    AreSessionsAt s (ended (auto_active (alone p) session) (with_locks (auto_active (alone p) session) (all_got (auto_active (alone p) session).txn needs no_locks.at) (begun (alone p) session)))
closed_alone s p session needs at = record {
  actives = at.actives ∙ sym (its_gone p session);
  own = subst (AreCounted s.txns.own.entries) (sym (fun_ext (λ m. still_empty (m == (auto_active (alone p) session).txn.0)))) at.own;
  places = record { at = record { each = λ n. at.places.at.each n ∙ sym (still_empty (n == session)); apart = at.places.at.apart }; under = at.places.under };
  waiting = at.waiting;
  locks = subst (AreLocksAt p.fault s.locks.locks) (sym (unlocked (auto_active (alone p) session).txn needs)) at.locks;
}

-- sessions without a transaction stand where that of a call has ended
pub closed_so : (s : Sessions) (st : Standing) (session : ℕ) (needs : List Need) → AreSound st → st.actives ≡ [] → AreSessionsAt s st →
    AreSessionsAt s (ended (auto_active st session) (with_locks (auto_active st session) (all_got (auto_active st session).txn needs st.locks.at) (begun st session)))
closed_so s st session needs sound none at =
    let is = no_transactions-is_alone st sound none in
    subst (λ (x : Standing). AreSessionsAt s (ended (auto_active x session) (with_locks (auto_active x session) (all_got (auto_active x session).txn needs x.locks.at) (begun x session)))) (sym is.1)
    (closed_alone s is.0 session needs (subst (AreSessionsAt s) is.1 at))

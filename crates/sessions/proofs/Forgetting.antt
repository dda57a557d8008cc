-- A wait that is forgotten.
use Rattle.std.proofs.Common.{◌≡◌, Bool, true, false, cond, not, ◌&&◌, Some, None, Option, refl, ap, sym, ◌∙◌, subst, ⊎_elim}
use Rattle.std.specs.Option.{option_map_or}
use Rattle.std.proofs.lemmas.Bool.{cases_Bool}
use Rattle.je_order.specs.declared.txn_id.TxnId.{TxnId}
use Rattle.je_order.specs.Transactions.{is_same_txn}
use Rattle.lock_table.specs.declared.record_id.RecordId.{RecordId}
use Rattle.lock_table.specs.Locks.{has_lock}
use Rattle.lock_table.specs.Table.{Locks, locks_at, pending_at, was_granted}
use Rattle.store_model.specs.declared.answer.Fault.{Fault}
use Rattle.je_answers.specs.declared.wait.Wait.{Wait}
use Rattle.je_answers.specs.Standing.{Standing}
use Rattle.je_answers.specs.Locking.{forgotten, was_granted_in}
use Rattle.je_answers.specs.Events.{IsReady}
use Rattle.txn_locks.specs.Taking.{state_of}
use Rattle.txn_locks.proofs.States.{same_state}
use Rattle.sessions.specs.AtStanding.{AreLocksAt, AreForgotten}

granted_each : (f : RecordId → Bool) (o : Option RecordId) → option_map_or (λ r. cond (f r) false true) o false ≡ option_map_or (λ r. not (f r)) o false
granted_each f None = refl
granted_each f (Some r) = ⊎_elim (λ e. rw e refl) (λ e. rw e refl) (cases_Bool (f r))

pub granted_same : (t : TxnId) (v : Locks) → was_granted_in t (state_of v) ≡ was_granted t v
granted_same t v = granted_each (λ r. has_lock t (locks_at r v).1) (pending_at t v)

and_true : (a b : Bool) → b ≡ true → (a && b) ≡ a
and_true true b e = e
and_true false b e = refl

pub forgets : (o : Option Wait) (w : Wait) (old new : Locks) → o ≡ Some w → ((r : RecordId) → locks_at r new ≡ locks_at r old)
    → ((t : TxnId) → pending_at t new ≡ cond (is_same_txn w.txn t && was_granted w.txn old) None (pending_at t old)) → AreForgotten o old new
forgets o w old new is locks pending = subst (λ (x : Option Wait). AreForgotten x old new) (sym is)
    (λ granted. same_state (state_of new) (forgotten w.txn (state_of old)) locks (λ t. pending t ∙ ap (λ b. cond b None (pending_at t old)) (and_true (is_same_txn w.txn t) (was_granted w.txn old) granted)))

pub forgot : (f : Option Fault) (st : Standing) (o : Option Wait) (w : Wait) (old new : Locks) → o ≡ Some w → AreForgotten o old new → IsReady f st w.txn → AreLocksAt f old st.locks → AreLocksAt f new (forgotten w.txn st.locks)
forgot (Some first) st o w old new is k ready at = tt
forgot None st o w old new is k ready at = subst (λ (x : Option Wait). AreForgotten x old new) is k (sym (granted_same w.txn old) ∙ (ap (was_granted_in w.txn) at ∙ ready)) ∙ ap (forgotten w.txn) at

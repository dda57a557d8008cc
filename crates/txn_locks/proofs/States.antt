-- Two states of locks that are the same at each record and transaction.
use Rattle.std.proofs.Common.{◌≡◌, false, cond, List, Option, None, refl, ap, ap₂, sym, subst}
use mathlib.Core.Path.{fun_ext}
use Rattle.std.specs.Option.{option_map_or}
use Rattle.std.proofs.lemmas.Bool.{cond_both}
use Rattle.je_order.specs.declared.txn_id.TxnId.{TxnId}
use Rattle.je_order.specs.Transactions.{is_same_txn}
use Rattle.je_order.proofs.TxnIds.{same_is}
use Rattle.lock_table.specs.declared.lock.Lock.{Lock}
use Rattle.lock_table.specs.declared.record_id.RecordId.{RecordId}
use Rattle.lock_table.specs.Locks.{has_lock}
use Rattle.lock_table.specs.Table.{Locks, locks_at, pending_at}
use Rattle.lock_mgr.specs.Deadlock.{NoDeadlock}
use Rattle.lock_mgr.proofs.NoDeadlockLaws.{no_wait}
use Rattle.je_answers.specs.Standing.{LockState}

abbrev state : (RecordId → List Lock × List Lock) → (TxnId → Option RecordId) → LockState
state at pending = record { at = at; pending = pending }

pub same_state : (a b : LockState) → ((r : RecordId) → a.at r ≡ b.at r) → ((u : TxnId) → a.pending u ≡ b.pending u) → a ≡ b
same_state a b h k = ap₂ state (fun_ext h) (fun_ext k)

-- where a transaction was told nothing, telling it nothing changes nothing
pub told_nothing : (t u : TxnId) (v : Locks) → pending_at t v ≡ None → cond (is_same_txn t u) None (pending_at u v) ≡ pending_at u v
told_nothing t u v none = cond_both (is_same_txn t u) None (pending_at u v) (λ x. x ≡ pending_at u v) (λ e. sym (subst (λ (x : TxnId). pending_at x v ≡ None) (same_is t u e) none)) (λ e. refl)

-- and it waits on no record
pub waits_nowhere : (t : TxnId) (v : Locks) → NoDeadlock v → pending_at t v ≡ None → (r : RecordId) → has_lock t (locks_at r v).1 ≡ false
waits_nowhere t v s none = no_wait v t s.sound (ap (λ o. option_map_or (λ r. has_lock t (locks_at r v).1) o false) none)

-- Whoever waits is a transaction under way.
use Rattle.std.proofs.Common.{◌≡◌, true, List, Some, Option, sym, ◌∙◌, subst}
use Rattle.je_order.specs.declared.txn_id.TxnId.{TxnId}
use Rattle.je_order.specs.Transactions.{is_same_txn}
use Rattle.je_order.proofs.TxnIds.{same_is, same_itself}
use Rattle.lock_table.specs.declared.record_id.RecordId.{RecordId}
use Rattle.je_answers.specs.declared.active.Active.{Active}
use Rattle.je_answers.specs.declared.wait.Wait.{Wait}
use Rattle.standing_laws.specs.Right.{HaveWaits, IsWaitIn, is_active}
use Rattle.standing_laws.proofs.Among.{IsAmong, any_some, any_from, all_at, its_session}

-- the waiting call of a transaction that was told to wait
pub record HasWaitIn (t : TxnId) (as_ : List Active) (ws : List Wait) : Type 0 where
  pub wait : Wait
  pub there : IsAmong wait ws
  pub its : wait.txn ≡ t
  pub in_ : IsWaitIn as_ wait

pub wait_of_told : (t : TxnId) (as_ : List Active) (ws : List Wait) (pending : TxnId → Option RecordId) → HaveWaits as_ ws pending → (r : RecordId) → pending t ≡ Some r → HasWaitIn t as_ ws
wait_of_told t as_ ws pending h r k =
    let a = any_some (λ (w : Wait). is_same_txn t w.txn) ws (h.told t r k) in
    record { wait = a.0; there = a.1; its = sym (same_is t a.0.txn a.2); in_ = all_at (IsWaitIn as_) ws a.0 h.each a.1 }

pub waiter_active : (t : TxnId) (as_ : List Active) (ws : List Wait) (pending : TxnId → Option RecordId) → HaveWaits as_ ws pending → (r : RecordId) → pending t ≡ Some r → is_active t as_ ≡ true
waiter_active t as_ ws pending h r k =
    let w = wait_of_told t as_ ws pending h r k in
    let s = its_session w.wait.session as_ w.in_.active w.in_.its in
    any_from (λ (a : Active). is_same_txn t a.txn) as_ w.in_.active s.0 (subst (λ (x : TxnId). is_same_txn t x ≡ true) (sym (w.in_.same ∙ w.its)) (same_itself t))

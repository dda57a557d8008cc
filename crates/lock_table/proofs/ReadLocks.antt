-- Locks of no more than READ that go, in the map of queues.
use Rattle.std.proofs.Common.{◌≡◌, cond, List, Some, None, Option, ap, sym, ◌∙◌, subst, ◌⊎◌, ⊎_elim}
use Rattle.std.proofs.lemmas.Bool.{cases_Bool, cond-true, cond-false}
use Rattle.je_order.specs.declared.txn_id.TxnId.{TxnId}
use Rattle.lock_mode.specs.declared.lock_type.LockType.{LockType}
use Rattle.lock_mode.specs.declared.lock_type.LockType.TheVariants.{Read}
use Rattle.lock_table.specs.declared.lock.Lock.{Lock}
use Rattle.lock_table.specs.declared.record_id.RecordId.{RecordId}
use Rattle.lock_table.specs.Locks.{held_by, after_give_back, read_given_back, after_read}
use Rattle.lock_table.specs.Records.{is_record}
use Rattle.lock_table.proofs.QueueMaps.{record_is}

abbrev pub Queue : Type 0
Queue = List Lock × List Lock

-- ---- in the map
-- the lock is no more than READ, and goes
pub read_goes : (Q N : RecordId → Queue) (at : RecordId) (t : TxnId) (held : Option LockType) → held ≡ held_by t (Q at).0 → held ≡ Some Read
    → ((r : RecordId) → N r ≡ cond (is_record at r) (after_give_back t None (Q r)) (Q r)) → (r : RecordId) → N r ≡ cond (is_record at r) (after_read t (Q r)) (Q r)
read_goes Q N at t held is read n r = ⊎_elim
    (λ h. let e : held_by t (Q r).0 ≡ Some Read = subst (λ (x : RecordId). held_by t (Q x).0 ≡ Some Read) (record_is at r h) (sym is ∙ read) in
    n r ∙ (cond-true (is_record at r) (after_give_back t None (Q r)) (Q r) h ∙ (ap (λ o. read_given_back t o (Q r)) (sym e) ∙ sym (cond-true (is_record at r) (after_read t (Q r)) (Q r) h))))
    (λ h. n r ∙ (cond-false (is_record at r) (after_give_back t None (Q r)) (Q r) h ∙ sym (cond-false (is_record at r) (after_read t (Q r)) (Q r) h)))
    (cases_Bool (is_record at r))

-- it is none, or more, and stays
pub more_stays : (Q : RecordId → Queue) (at : RecordId) (t : TxnId) (held : Option LockType) → held ≡ held_by t (Q at).0 → ((u : TxnId) (q : Queue) → read_given_back u held q ≡ q)
    → (r : RecordId) → Q r ≡ cond (is_record at r) (after_read t (Q r)) (Q r)
more_stays Q at t held is more r = ⊎_elim
    (λ h. let e : held ≡ held_by t (Q r).0 = subst (λ (x : RecordId). held ≡ held_by t (Q x).0) (record_is at r h) is in
    sym (cond-true (is_record at r) (after_read t (Q r)) (Q r) h ∙ (ap (λ o. read_given_back t o (Q r)) (sym e) ∙ more t (Q r))))
    (λ h. sym (cond-false (is_record at r) (after_read t (Q r)) (Q r) h))
    (cases_Bool (is_record at r))

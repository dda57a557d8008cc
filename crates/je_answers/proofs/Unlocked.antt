-- Where all locks are one transaction's, nothing that it needs is stopped, and its end leaves no lock.
use Rattle.std.proofs.Common.{arith, ◌≡◌, ℕ, ◌==◌, Bool, true, false, cond, not, ◌&&◌, ◌||◌, List, [], ◌∷◌, ◌++◌, None, Some, refl, ap, ap₂, sym, ◌∙◌, subst, map}
use Rattle.std.specs.List.{AllByRecursion}
use Rattle.std.proofs.lemmas.Bool.{cond_both, cond-false}
use Rattle.std.proofs.lemmas.Bool.Decides.{nat_tests}
use Rattle.je_order.specs.declared.txn_id.TxnId.{TxnId}
use Rattle.lock_mode.specs.declared.lock_type.LockType.{LockType}
use Rattle.lock_mode.specs.Modes.{conflicts_with, upgraded, can_be_held}
use Rattle.lock_table.specs.declared.lock.Lock.{Lock}
use Rattle.lock_table.specs.declared.record_id.RecordId.{RecordId}
use Rattle.lock_table.specs.Locks.{lock_of, is_of, has_lock, without_txn, is_blocking, is_blocked, upgraded_by, with_lock, granted, after_ask, after_release}
use Rattle.je_order.specs.Transactions.{is_same_txn}
use Rattle.lock_table.specs.Records.{is_record}
use Rattle.store_model.specs.declared.need.Need.{Need}
use Rattle.je_answers.specs.Locking.{Queues, record_of, got, all_got, is_stopped, first_blocked}

-- the owners are all this transaction, and nobody waits
pub record IsOwn (t : TxnId) (q : List Lock × List Lock) : Type 0 where
  pub owners : AllByRecursion (λ o. is_of t o ≡ true) q.0
  pub waits : q.1 ≡ []

-- ---- at one record

not_blocking : (b c : Bool) → b ≡ true → (not b && c) ≡ false
not_blocking true c is = refl
not_blocking false c is = cc

either_false : (b c : Bool) → b ≡ false → c ≡ false → (b || c) ≡ false
either_false false false b c = refl
either_false true c b d = cc
either_false false true b c = cc

not_blocked : (t : TxnId) (m : LockType) (os : List Lock) → AllByRecursion (λ o. is_of t o ≡ true) os → is_blocked os (lock_of t m) ≡ false
not_blocked t m [] all = refl
not_blocked t m (o ∷ os) all =
    either_false (is_blocking (lock_of t m) o) (is_blocked os (lock_of t m)) (not_blocking (is_of t o) (conflicts_with o.mode m) all.0) (not_blocked t m os all.1)

upgraded_own : (t : TxnId) (w : Lock) (o : Lock) → is_of t o ≡ true → is_of t (upgraded_by w o) ≡ true
upgraded_own t w o is = cond_both (is_of w.txn o) (record { txn = o.txn; mode = upgraded o.mode w.mode }) o (λ l. is_of t l ≡ true) (λ e. is) (λ e. is)

all_upgraded : (t : TxnId) (w : Lock) (os : List Lock) → AllByRecursion (λ o. is_of t o ≡ true) os → AllByRecursion (λ o. is_of t o ≡ true) (map (upgraded_by w) os)
all_upgraded t w [] all = tt
all_upgraded t w (o ∷ os) all = (upgraded_own t w o all.0, all_upgraded t w os all.1)

all_pushed : (t : TxnId) (w : Lock) (os : List Lock) → AllByRecursion (λ o. is_of t o ≡ true) os → is_of t w ≡ true → AllByRecursion (λ o. is_of t o ≡ true) (os ++ w ∷ [])
all_pushed t w [] all is = (is, tt)
all_pushed t w (o ∷ os) all is = (all.0, all_pushed t w os all.1 is)

pub same_number : (n : ℕ) → (n == n) ≡ true
same_number n = grind (arith, nat_tests)

same_txn : (t : TxnId) → is_same_txn t t ≡ true
same_txn t = same_number t.0

locked_own : (t : TxnId) (m : LockType) (os : List Lock) → AllByRecursion (λ o. is_of t o ≡ true) os → AllByRecursion (λ o. is_of t o ≡ true) (with_lock (lock_of t m) os)
locked_own t m os all =
    let P : List Lock → Type 0 = λ l. AllByRecursion (λ o. is_of t o ≡ true) l in
    cond_both (can_be_held m) (cond (has_lock t os) (map (upgraded_by (lock_of t m)) os) (os ++ lock_of t m ∷ [])) os P
    (λ e. cond_both (has_lock t os) (map (upgraded_by (lock_of t m)) os) (os ++ lock_of t m ∷ []) P
    (λ f. all_upgraded t (lock_of t m) os all) (λ f. all_pushed t (lock_of t m) os all (same_txn t)))
    (λ e. all)

asked_own : (t : TxnId) (m : LockType) (q : List Lock × List Lock) → IsOwn t q → IsOwn t (after_ask (lock_of t m) q)
asked_own t m q own =
    subst (IsOwn t) (sym (cond-false (is_blocked q.0 (lock_of t m)) (q.0, q.1 ++ lock_of t m ∷ []) (with_lock (lock_of t m) q.0, q.1) (not_blocked t m q.0 own.owners)))
    (record { owners = locked_own t m q.0 own.owners; waits = own.waits })

without_own : (t : TxnId) (os : List Lock) → AllByRecursion (λ o. is_of t o ≡ true) os → without_txn t os ≡ []
without_own t [] all = refl
without_own t (o ∷ os) all =
    cond-false (not (is_of t o)) (o ∷ without_txn t os) (without_txn t os) (ap not all.0) ∙ without_own t os all.1

released_own : (t : TxnId) (q : List Lock × List Lock) → IsOwn t q → after_release t q ≡ ([], [])
released_own t q own = ap₂ granted (without_own t q.0 own.owners) (ap (without_txn t) own.waits)

-- ---- at every record

got_own : (t : TxnId) (n : Need) (at : Queues) → ((r : RecordId) → IsOwn t (at r)) → (r : RecordId) → IsOwn t (got t n at r)
got_own t n at own r = cond_both (is_record (record_of n) r) (after_ask (lock_of t n.asked) (at r)) (at r) (IsOwn t) (λ e. asked_own t n.asked (at r) (own r)) (λ e. own r)

pub all_got_own : (t : TxnId) (ns : List Need) (at : Queues) → ((r : RecordId) → IsOwn t (at r)) → (r : RecordId) → IsOwn t (all_got t ns at r)
all_got_own t [] at own r = own r
all_got_own t (n ∷ ns) at own r = all_got_own t ns (got t n at) (got_own t n at own) r

pub none_stopped : (t : TxnId) (ns : List Need) (at : Queues) → ((r : RecordId) → IsOwn t (at r)) → first_blocked t ns at ≡ None
none_stopped t [] at own = refl
none_stopped t (n ∷ ns) at own =
    cond-false (is_stopped t n at) (Some n) (first_blocked t ns (got t n at)) (not_blocked t n.asked (at (record_of n)).0 (own (record_of n)).owners)
    ∙ none_stopped t ns (got t n at) (got_own t n at own)

pub none_own : (t : TxnId) (r : RecordId) → IsOwn t ([], [])
none_own t r = record { owners = tt; waits = refl }

-- what a transaction takes where there are no locks is gone at its end
pub all_gone : (t : TxnId) (ns : List Need) (r : RecordId) → after_release t (all_got t ns (λ x. ([], [])) r) ≡ ([], [])
all_gone t ns r = released_own t (all_got t ns (λ x. ([], [])) r) (all_got_own t ns (λ x. ([], [])) (none_own t) r)

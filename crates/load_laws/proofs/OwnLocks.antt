-- Locks that are all of one transaction stop none of its calls.
use Rattle.std.proofs.Common.{◌≡◌, ◌&&◌, Bool, true, false, cond, not, List, [], ◌∷◌, None, Some, refl, ap, ◌∙◌, map}
use Rattle.std.specs.List.{AllByRecursion}
use Rattle.std.proofs.lemmas.Bool.{cond-false}
use Rattle.je_order.specs.declared.txn_id.TxnId.{TxnId}
use Rattle.je_order.specs.Transactions.{is_same_txn}
use Rattle.je_order.proofs.TxnIds.{same_itself}
use Rattle.je_order.proofs.Lists.{all_push}
use Rattle.lock_mode.specs.Modes.{can_be_held, conflicts_with}
use Rattle.lock_table.specs.declared.lock.Lock.{Lock}
use Rattle.lock_table.specs.declared.record_id.RecordId.{RecordId}
use Rattle.lock_table.specs.Records.{is_record}
use Rattle.lock_table.specs.Locks.{after_ask, has_lock, is_blocked, is_of, lock_of, upgraded_by, with_lock}
use Rattle.store_model.specs.declared.need.Need.{Need}
use Rattle.je_answers.specs.Locking.{Queues, all_got, first_blocked, got, is_stopped, record_of}

-- each owner of a record is that transaction
abbrev pub AllOf : TxnId → List Lock → Type 0
AllOf t owners = AllByRecursion (λ o. is_same_txn t o.txn ≡ true) owners

-- and so of every record
abbrev pub AreAllOf : TxnId → Queues → Type 0
AreAllOf t at = (r : RecordId) → AllOf t (at r).0

passes_itself : (same conflicts : Bool) → same ≡ true → (not same && conflicts) ≡ false
passes_itself true conflicts e = refl
passes_itself false conflicts e = cc

not_blocked : (t : TxnId) (w : Lock) (owners : List Lock) → w.txn ≡ t → AllOf t owners → is_blocked owners w ≡ false
not_blocked t w [] e all = refl
not_blocked t w (o ∷ owners) e all =
    let mine : is_same_txn w.txn o.txn ≡ true = ap (λ (x : TxnId). is_same_txn x o.txn) e ∙ all.0 in
    rw (passes_itself (is_same_txn w.txn o.txn) (conflicts_with o.mode w.mode) mine) (not_blocked t w owners e all.1)

either : (P : List Lock × List Lock → Type 0) (b : Bool) (x y : List Lock × List Lock) → P x → P y → P (cond b x y)
either P true x y p q = p
either P false x y p q = q

either_owners : (P : List Lock → Type 0) (b : Bool) (x y : List Lock) → P x → P y → P (cond b x y)
either_owners P true x y p q = p
either_owners P false x y p q = q

upgraded_of : (t : TxnId) (w o : Lock) (b : Bool) (m : Lock) → m.txn ≡ o.txn → is_same_txn t o.txn ≡ true → is_same_txn t (cond b m o).txn ≡ true
upgraded_of t w o true m e h = ap (is_same_txn t) e ∙ h
upgraded_of t w o false m e h = h

map_of : (t : TxnId) (w : Lock) (owners : List Lock) → AllOf t owners → AllOf t (map (upgraded_by w) owners)
map_of t w [] all = tt
map_of t w (o ∷ owners) all = (upgraded_of t w o (is_of w.txn o) _ refl all.0, map_of t w owners all.1)

locked_of : (t : TxnId) (w : Lock) (owners : List Lock) → w.txn ≡ t → AllOf t owners → AllOf t (with_lock w owners)
locked_of t w owners e all =
    either_owners (AllOf t) (can_be_held w.mode) _ owners
    (either_owners (AllOf t) (has_lock w.txn owners) _ _ (map_of t w owners all) (all_push (λ (o : Lock). is_same_txn t o.txn ≡ true) owners w all (ap (is_same_txn t) e ∙ same_itself t)))
    all

asked_of : (t : TxnId) (w : Lock) (q : List Lock × List Lock) → w.txn ≡ t → AllOf t q.0 → AllOf t (after_ask w q).0
asked_of t w q e all = either (λ (x : List Lock × List Lock). AllOf t x.0) (is_blocked q.0 w) _ _ all (locked_of t w q.0 e all)

got_of : (t : TxnId) (n : Need) (at : Queues) → AreAllOf t at → AreAllOf t (got t n at)
got_of t n at all = λ r.
    either (λ (x : List Lock × List Lock). AllOf t x.0) (is_record (record_of n) r) _ _ (asked_of t (lock_of t n.asked) (at r) refl (all r)) (all r)

-- it gets all that its calls need
pub all_got_of : (t : TxnId) (ns : List Need) (at : Queues) → AreAllOf t at → AreAllOf t (all_got t ns at)
all_got_of t [] at all = all
all_got_of t (n ∷ ns) at all = all_got_of t ns (got t n at) (got_of t n at all)

pub none_blocks : (t : TxnId) (ns : List Need) (at : Queues) → AreAllOf t at → first_blocked t ns at ≡ None
none_blocks t [] at all = refl
none_blocks t (n ∷ ns) at all =
    cond-false (is_stopped t n at) (Some n) (first_blocked t ns (got t n at)) (not_blocked t (lock_of t n.asked) (at (record_of n)).0 refl (all (record_of n)))
    ∙ none_blocks t ns (got t n at) (got_of t n at all)

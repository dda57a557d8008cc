-- Single steps of the calls.
use Rattle.std.proofs.Common.{◌≡◌, Bool, true, false, cond, ◌&&◌, ◌||◌, List, [], ◌∷◌, map, Some, None, Option, refl, ap, sym, ◌∙◌, subst, ◌⊎◌, inl, inr, ⊎_elim}
use Rattle.std.specs.List.{filter}
use Rattle.std.specs.Map.{lookup}
use Rattle.std.specs.Option.{is_some, option_map_or, unwrap_or, IsSome}
use Rattle.std.specs.Ordering.{is_eq}
use Rattle.std.proofs.lemmas.Cmp.{tied_itself}
use Rattle.std.proofs.lemmas.Bool.{cases_Bool, both_ways, cond-true, cond-false, and_parts, false_from_ne_true}
use Rattle.je_order.specs.declared.txn_id.TxnId.{TxnId}
use Rattle.lock_mode.specs.declared.lock_type.LockType.{LockType}
use Rattle.lock_table.specs.declared.lock.Lock.{Lock}
use Rattle.lock_table.specs.declared.record_id.RecordId.{RecordId}
use Rattle.lock_table.specs.contracts.record_id.RecordIdOrd.TheImpl.Laws as order
use Rattle.lock_table.specs.Locks.{has_lock, is_blocking, is_blocked, lesser, least, blocker, after_cancel}
use Rattle.je_order.specs.Transactions.{is_same_txn}
use Rattle.lock_table.specs.Records.{is_record, queue_at}
use Rattle.lock_table.specs.Table.{IsOut}
use Rattle.je_order.proofs.TxnIds.{same_is}
use Rattle.lock_table.proofs.QueueMaps.{IsChanged, record_is}
use Rattle.lock_table.proofs.RecordCalls.{cancel_nothing}
use Rattle.lock_table.proofs.WholeTable.{Queue}

pub record_same : (r : RecordId) → is_record r r ≡ true
record_same r = ap is_eq (tied_itself order.total-law r)

pub record_either : (a b : RecordId) → is_record a b ≡ is_record b a
record_either a b = ⊎_elim
    (λ h. h ∙ sym (turn a b h))
    (λ h. h ∙ sym (false_from_ne_true (is_record b a) (λ k. both_ways (is_record a b) h (turn b a k))))
    (cases_Bool (is_record a b))
  where
    turn : (a b : RecordId) → is_record a b ≡ true → is_record b a ≡ true
    turn a b h = subst (λ (x : RecordId). is_record x a ≡ true) (record_is a b h) (record_same a)

pub listed_from : (new old b : Bool) → new ≡ cond b true old → new ≡ false → (old ≡ false) × (b ≡ false)
listed_from new old true e n = absurd (both_ways new n e)
listed_from new old false e n = (sym e ∙ n, refl)

-- a request is blocked exactly where there is a least owner that it conflicts with
pub blocked_some : (w : Lock) (os : List Lock) → is_blocked os w ≡ is_some (blocker w os)
blocked_some w [] = refl
blocked_some w (o ∷ os) = ⊎_elim
    (λ h. ap (λ b. b || is_blocked os w) h ∙ sym (ap (λ ls. is_some (least (map (λ (l : Lock). l.txn) ls))) (cond-true (is_blocking w o) (o ∷ filter (is_blocking w) os) (filter (is_blocking w) os) h) ∙ one_at_least o.txn (least (map (λ (l : Lock). l.txn) (filter (is_blocking w) os)))))
    (λ h. ap (λ b. b || is_blocked os w) h ∙ (blocked_some w os ∙ sym (ap (λ ls. is_some (least (map (λ (l : Lock). l.txn) ls))) (cond-false (is_blocking w o) (o ∷ filter (is_blocking w) os) (filter (is_blocking w) os) h))))
    (cases_Bool (is_blocking w o))
  where
    one_at_least : (x : TxnId) (b : Option TxnId) → is_some (lesser (Some x) b) ≡ true
    one_at_least x None = refl
    one_at_least x (Some y) = picks _ x y
      where
        picks : (b : Bool) (x y : TxnId) → is_some (cond b (Some x) (Some y)) ≡ true
        picks true x y = refl
        picks false x y = refl

-- a transaction that is told of an owner in its way is told to wait here
pub told_at : (w : Lock) (os : List Lock) (at : RecordId) (o : Option TxnId) → o ≡ blocker w os → is_blocked os w ≡ true → option_map_or (λ _. Some at) o None ≡ Some at
told_at w os at o is b = there o (ap is_some is ∙ (sym (blocked_some w os) ∙ b))
  where
    there : (o : Option TxnId) → is_some o ≡ true → option_map_or (λ _. Some at) o None ≡ Some at
    there None h = absurd (both_ways false refl h)
    there (Some t) h = refl

-- the queue that the map has at a record
pub queue_there : (records : List (RecordId × Queue)) (at : RecordId) (v : Queue) → Some v ≡ lookup (is_record at) records → v ≡ queue_at at records
queue_there records at v has = ap (λ o. unwrap_or o ([], [])) has

pub out_written : (t : TxnId) (old new : List (RecordId × Queue)) (at : RecordId) (v w : Queue) → Some v ≡ lookup (is_record at) old → IsChanged old new at (Some w) → (IsOut t v → IsOut t w) → IsOut t (queue_at at old) → IsOut t (queue_at at new)
out_written t old new at v w has u k o = subst (IsOut t) (queue_there new at w (sym (u at ∙ cond-true (is_record at at) (Some w) (lookup (is_record at) old) (record_same at)))) (k (subst (IsOut t) (sym (queue_there old at v has)) o))

-- nobody of the transaction waits
pub not_pending : (t : TxnId) (Q : RecordId → Queue) (p : Option RecordId) → ((r : RecordId) → has_lock t (Q r).1 ≡ true → p ≡ Some r) → None ≡ p → (r : RecordId) → Q r ≡ after_cancel t (Q r)
not_pending t Q p told none r = sym (cancel_nothing t (Q r) (false_from_ne_true (has_lock t (Q r).1) (λ h. let e = told r h in absurd (cc (e, none)))))

pub not_waiting : (t : TxnId) (Q : RecordId → Queue) (p : Option RecordId) (at : RecordId) → ((r : RecordId) → has_lock t (Q r).1 ≡ true → p ≡ Some r) → Some at ≡ p → has_lock t (Q at).1 ≡ false → (r : RecordId) → Q r ≡ after_cancel t (Q r)
not_waiting t Q p at told some n r = sym (cancel_nothing t (Q r) (false_from_ne_true (has_lock t (Q r).1) (λ h. both_ways (has_lock t (Q r).1) (subst (λ (x : RecordId). has_lock t (Q x).1 ≡ false) (there r h) n) h)))
  where
    there : (r : RecordId) → has_lock t (Q r).1 ≡ true → at ≡ r
    there r h = let e = told r h in cc

pub cancelled : (t : TxnId) (Q N : RecordId → Queue) (p : Option RecordId) (at : RecordId) → ((r : RecordId) → has_lock t (Q r).1 ≡ true → p ≡ Some r) → Some at ≡ p
    → ((r : RecordId) → N r ≡ cond (is_record at r) (after_cancel t (Q r)) (Q r)) → (r : RecordId) → N r ≡ after_cancel t (Q r)
cancelled t Q N p at told some n r = ⊎_elim
    (λ h. n r ∙ cond-true (is_record at r) (after_cancel t (Q r)) (Q r) h)
    (λ h. n r ∙ (cond-false (is_record at r) (after_cancel t (Q r)) (Q r) h ∙ sym (cancel_nothing t (Q r) (false_from_ne_true (has_lock t (Q r).1) (λ k. both_ways (is_record at r) h (subst (λ (x : RecordId). is_record at x ≡ true) (there r k) (record_same at)))))))
    (cases_Bool (is_record at r))
  where
    there : (r : RecordId) → has_lock t (Q r).1 ≡ true → at ≡ r
    there r k = let e = told r k in cc

-- ---- what is given back
pub given_out : (t : TxnId) (r at : RecordId) (u : TxnId) (Q : RecordId → Queue) (old : Bool) → has_lock u (Q at).0 ≡ false → has_lock u (Q at).1 ≡ false → (old ≡ false) ⊎ ((is_same_txn u t && is_record at r) ≡ true) → (old ≡ false) ⊎ (IsOut t (Q r))
given_out t r at u Q old a b n = ⊎_elim
    (λ h. inl h)
    (λ h. let p = and_parts (is_same_txn u t) (is_record at r) h in inr (subst (λ (x : RecordId). IsOut t (Q x)) (record_is at r p.1) (subst (λ (x : TxnId). IsOut x (Q at)) (same_is u t p.0) (a, b))))
    n

pub some_held : (o : Option LockType) → IsSome o → (h : LockType) × (o ≡ Some h)
some_held None h = absurd (both_ways false refl h)
some_held (Some m) h = (m, refl)

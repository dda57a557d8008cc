-- What each call keeps of one record: it stays settled, and nobody comes in but the one that asked.
use Rattle.std.proofs.Common.{◌≡◌, Bool, true, false, not, List, [], ◌∷◌, ◌++◌, map, Some, None, Option, refl, ap, sym, ◌∙◌, subst, ⊎_elim}
use Rattle.std.proofs.lemmas.List.Folds.{list_any-append}
use Rattle.std.proofs.lemmas.Bool.{cases_Bool, or_cases, or_parts, or_from, both_ways, cond-true, cond-false, true_from_ne_false}
use Rattle.je_order.specs.declared.txn_id.TxnId.{TxnId}
use Rattle.lock_mode.specs.declared.lock_type.LockType.{LockType}
use Rattle.lock_mode.specs.Modes.{can_be_held}
use Rattle.lock_table.specs.declared.lock.Lock.{Lock}
use Rattle.lock_table.specs.Locks.{is_of, has_lock, without_txn, held_by, is_blocked, upgraded_by, set_by, with_lock, with_type, granted, after_ask, after_cancel, after_release, after_give_back, WasHeld, IsSettled}
use Rattle.lock_table.specs.Table.{IsOut}
use Rattle.lock_table.proofs.OwnersAndWaits.{filter_all, any_filter}
use Rattle.je_order.proofs.Lists.{all_weaker, all_append, all_kept}
use Rattle.lock_table.proofs.Owners.{has_mapped, upgraded_txn, set_txn, apart_push, apart_filter, owners_taken, owners_without, owners_set, stays_blocked, granted_cases, granted_settles, granted_waits, granted_none}

pub settled_nothing : IsSettled ([], [])
settled_nothing = record { owners = record { agree = tt; held = tt; apart = tt }; waits = tt; apart = tt }

pub settled_ask : (w : Lock) (q : List Lock × List Lock) → IsSettled q → has_lock w.txn q.1 ≡ false → IsSettled (after_ask w q)
settled_ask w q s n = ⊎_elim
    (λ h. subst IsSettled (sym (cond-true (is_blocked q.0 w) (q.0, q.1 ++ (w ∷ [])) (with_lock w q.0, q.1) h))
    (record { owners = s.owners; waits = all_append _ q.1 (w ∷ []) s.waits (h, tt); apart = apart_push q.1 w s.apart n }))
    (λ h. subst IsSettled (sym (cond-false (is_blocked q.0 w) (q.0, q.1 ++ (w ∷ [])) (with_lock w q.0, q.1) h))
    (record { owners = owners_taken q.0 w s.owners h; waits = all_weaker _ _ (λ v. stays_blocked q.0 w v) q.1 s.waits; apart = s.apart }))
    (cases_Bool (is_blocked q.0 w))

pub settled_cancel : (t : TxnId) (q : List Lock × List Lock) → IsSettled q → IsSettled (after_cancel t q)
settled_cancel t q s = record { owners = s.owners; waits = all_kept _ _ q.1 s.waits; apart = apart_filter _ q.1 s.apart }

pub settled_release : (t : TxnId) (q : List Lock × List Lock) → IsSettled q → IsSettled (after_release t q)
settled_release t q s = granted_settles (without_txn t q.1) (without_txn t q.0) (owners_without t q.0 s.owners) (apart_filter _ q.1 s.apart)

-- what `was` may be: none, or a type that can be held and from which the transaction came to what it holds
pub settled_give_back : (t : TxnId) (was : Option LockType) (h : LockType) (q : List Lock × List Lock) → IsSettled q → held_by t q.0 ≡ Some h → WasHeld was h → IsSettled (after_give_back t was q)
settled_give_back t None h q s e w = granted_settles q.1 (without_txn t q.0) (owners_without t q.0 s.owners) s.apart
settled_give_back t (Some m) h q s e w = granted_settles q.1 (map (set_by t m) q.0) (owners_set t m h q.0 s.owners e w.0 w.1) s.apart

-- ---- nobody comes in
pub lock_in : (t : TxnId) (w : Lock) (os : List Lock) → has_lock t os ≡ false → is_of t w ≡ false → has_lock t (with_lock w os) ≡ false
lock_in t w os n m = ⊎_elim
    (λ h. ⊎_elim
    (λ k. ap (has_lock t) (cond-true (can_be_held w.mode) _ os h ∙ cond-true (has_lock w.txn os) (map (upgraded_by w) os) (os ++ (w ∷ [])) k) ∙ (has_mapped (upgraded_by w) (upgraded_txn w) t os ∙ n))
    (λ k. ap (has_lock t) (cond-true (can_be_held w.mode) _ os h ∙ cond-false (has_lock w.txn os) (map (upgraded_by w) os) (os ++ (w ∷ [])) k) ∙ (list_any-append (is_of t) os (w ∷ []) ∙ or_from (has_lock t os) (has_lock t (w ∷ [])) n (or_from (is_of t w) false m refl)))
    (cases_Bool (has_lock w.txn os)))
    (λ h. ap (has_lock t) (cond-false (can_be_held w.mode) _ os h) ∙ n)
    (cases_Bool (can_be_held w.mode))

pub granted_in : (t : TxnId) (ws os : List Lock) → has_lock t os ≡ false → has_lock t ws ≡ false → has_lock t (granted os ws).0 ≡ false
granted_in t [] os n m = n
granted_in t (w ∷ ws) os n m =
    let k = or_parts (is_of t w) (has_lock t ws) m in
    granted_cases (λ q. has_lock t q.0 ≡ false) os w ws (λ _. granted_in t ws os n k.1) (λ _. granted_in t ws (with_lock w os) (lock_in t w os n k.0) k.1)

pub out_granted : (t : TxnId) (os ws : List Lock) → has_lock t os ≡ false → has_lock t ws ≡ false → IsOut t (granted os ws)
out_granted t os ws n m = (granted_in t ws os n m, granted_waits t ws os m)

pub out_ask : (t : TxnId) (w : Lock) (q : List Lock × List Lock) → IsOut t q → is_of t w ≡ false → IsOut t (after_ask w q)
out_ask t w q o n = ⊎_elim
    (λ h. subst (IsOut t) (sym (cond-true (is_blocked q.0 w) (q.0, q.1 ++ (w ∷ [])) (with_lock w q.0, q.1) h)) (o.0, list_any-append (is_of t) q.1 (w ∷ []) ∙ or_from (has_lock t q.1) (has_lock t (w ∷ [])) o.1 (or_from (is_of t w) false n refl)))
    (λ h. subst (IsOut t) (sym (cond-false (is_blocked q.0 w) (q.0, q.1 ++ (w ∷ [])) (with_lock w q.0, q.1) h)) (lock_in t w q.0 o.0 n, o.1))
    (cases_Bool (is_blocked q.0 w))

pub out_cancel : (t u : TxnId) (q : List Lock × List Lock) → IsOut t q → IsOut t (after_cancel u q)
out_cancel t u q o = (o.0, any_filter (is_of t) _ q.1 o.1)

pub out_release : (t u : TxnId) (q : List Lock × List Lock) → IsOut t q → IsOut t (after_release u q)
out_release t u q o = out_granted t (without_txn u q.0) (without_txn u q.1) (any_filter (is_of t) _ q.0 o.0) (any_filter (is_of t) _ q.1 o.1)

pub out_give_back : (t u : TxnId) (was : Option LockType) (q : List Lock × List Lock) → IsOut t q → IsOut t (after_give_back u was q)
out_give_back t u None q o = out_granted t (without_txn u q.0) q.1 (any_filter (is_of t) _ q.0 o.0) o.1
out_give_back t u (Some m) q o = out_granted t (map (set_by u m) q.0) q.1 (has_mapped (set_by u m) (set_txn u m) t q.0 ∙ o.0) o.1

pub none_of : (t : TxnId) (ls : List Lock) → has_lock t (without_txn t ls) ≡ false
none_of t [] = refl
none_of t (l ∷ ls) = ⊎_elim (λ e. rw e (none_of t ls)) (λ e. rw e (or_from (is_of t l) (has_lock t (without_txn t ls)) e (none_of t ls))) (cases_Bool (is_of t l))

-- a release takes the transaction out
pub out_released : (t : TxnId) (q : List Lock × List Lock) → IsOut t (after_release t q)
out_released t q = out_granted t (without_txn t q.0) (without_txn t q.1) (none_of t q.0) (none_of t q.1)

-- where the transaction has nothing, a release changes nothing
pub release_nothing : (t : TxnId) (q : List Lock × List Lock) → IsSettled q → IsOut t q → after_release t q ≡ q
release_nothing t q s o = rw (filter_all (is_of t) q.0 o.0, filter_all (is_of t) q.1 o.1) (granted_none q.1 q.0 s.waits)

-- a release that comes twice
pub release_twice : (t : TxnId) (q : List Lock × List Lock) → IsSettled q → after_release t (after_release t q) ≡ after_release t q
release_twice t q s = release_nothing t (after_release t q) (settled_release t q s) (out_released t q)

pub cancel_nothing : (t : TxnId) (q : List Lock × List Lock) → has_lock t q.1 ≡ false → after_cancel t q ≡ q
cancel_nothing t q n = ap (λ ws. (q.0, ws)) (filter_all (is_of t) q.1 n)

-- ---- who waits afterwards waited before, or is the one that asked
waited : {a b : Bool} → (a ≡ false → b ≡ false) → b ≡ true → a ≡ true
waited {a} {b} k h = true_from_ne_false a (λ n. both_ways b (k n) h)

pub waits_ask : (t : TxnId) (w : Lock) (q : List Lock × List Lock) → has_lock t (after_ask w q).1 ≡ true → is_of t w ≡ false → has_lock t q.1 ≡ true
waits_ask t w q h n = ⊎_elim
    (λ b. let e = ap (λ (p : List Lock × List Lock). has_lock t p.1) (cond-true (is_blocked q.0 w) (q.0, q.1 ++ (w ∷ [])) (with_lock w q.0, q.1) b) in
    ⊎_elim (λ i. i) (λ i. absurd (both_ways (has_lock t (w ∷ [])) (or_from (is_of t w) false n refl) i)) (or_cases (has_lock t q.1) (has_lock t (w ∷ [])) (sym (list_any-append (is_of t) q.1 (w ∷ [])) ∙ (sym e ∙ h))))
    (λ b. sym (ap (λ (p : List Lock × List Lock). has_lock t p.1) (cond-false (is_blocked q.0 w) (q.0, q.1 ++ (w ∷ [])) (with_lock w q.0, q.1) b)) ∙ h)
    (cases_Bool (is_blocked q.0 w))

pub waits_cancel : (t u : TxnId) (q : List Lock × List Lock) → has_lock t (after_cancel u q).1 ≡ true → has_lock t q.1 ≡ true
waits_cancel t u q h = waited (any_filter (is_of t) (λ l. not (is_of u l)) q.1) h

pub waits_release : (t u : TxnId) (q : List Lock × List Lock) → has_lock t (after_release u q).1 ≡ true → has_lock t q.1 ≡ true
waits_release t u q h = waited (λ n. granted_waits t (without_txn u q.1) (without_txn u q.0) (any_filter (is_of t) (λ l. not (is_of u l)) q.1 n)) h

pub waits_give_back : (t u : TxnId) (was : Option LockType) (q : List Lock × List Lock) → has_lock t (after_give_back u was q).1 ≡ true → has_lock t q.1 ≡ true
waits_give_back t u was q h = waited (λ n. granted_waits t q.1 (with_type u was q.0) n) h

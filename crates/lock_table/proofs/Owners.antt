-- Owners never conflict, and no wait is left that could be granted: what each change keeps of it.
use Rattle.std.proofs.Common.{◌≡◌, Bool, true, false, not, ◌&&◌, ◌||◌, List, [], ◌∷◌, ◌++◌, map, Some, refl, ap, sym, ◌∙◌, subst, ⊎_elim}
use Rattle.std.specs.List.{filter, AllByRecursion, find}
use Rattle.std.specs.Option.{option_map}
use Rattle.std.proofs.lemmas.List.Folds.{list_any-append}
use Rattle.std.proofs.lemmas.Bool.{and_left, cases_Bool, or_parts, or_from, or_left, both_ways, cond-true, cond-false, not_from_true}
use Rattle.je_order.specs.declared.txn_id.TxnId.{TxnId}
use Rattle.lock_mode.specs.declared.lock_type.LockType.{LockType}
use Rattle.lock_mode.specs.Modes.{conflicts_with, upgraded, can_be_held}
use Rattle.lock_mode.proofs.Laws.{laws}
use Rattle.lock_table.specs.declared.lock.Lock.{Lock}
use Rattle.lock_table.specs.Locks.{is_of, has_lock, without_txn, held_by, is_blocking, is_blocked, upgraded_by, set_by, with_lock, waits_still, granted, AreApart, AreOwners, IsSettled}
use Rattle.je_order.specs.Transactions.{is_same_txn}
use Rattle.lock_table.proofs.OwnersAndWaits.{all_mapped, all_both, any_filter, lock_blocks}
use Rattle.je_order.proofs.TxnIds.{same_is, same_itself, same_either}
use Rattle.je_order.proofs.Lists.{all_weaker, all_append, all_kept, none_each}

-- ---- transactions that stand once
pub has_mapped : (f : Lock → Lock) → ((o : Lock) → (f o).txn ≡ o.txn) → (t : TxnId) (os : List Lock) → has_lock t (map f os) ≡ has_lock t os
has_mapped f k t [] = refl
has_mapped f k t (o ∷ os) = let e = k o in let r = has_mapped f k t os in let d : is_of t (f o) ≡ is_of t o = ap (λ u. is_same_txn t u) e in cc

pub apart_mapped : (f : Lock → Lock) → ((o : Lock) → (f o).txn ≡ o.txn) → (os : List Lock) → AreApart os → AreApart (map f os)
apart_mapped f k [] a = tt
apart_mapped f k (o ∷ os) a = (has_mapped f k (f o).txn os ∙ (ap (λ u. has_lock u os) (k o) ∙ a.0), apart_mapped f k os a.1)

pub apart_push : (ls : List Lock) (w : Lock) → AreApart ls → has_lock w.txn ls ≡ false → AreApart (ls ++ (w ∷ []))
apart_push [] w a h = (refl, tt)
apart_push (l ∷ ls) w a h =
    let k = or_parts (is_of w.txn l) (has_lock w.txn ls) h in
    let e : has_lock l.txn (w ∷ []) ≡ false = or_from (is_same_txn l.txn w.txn) false (same_either l.txn w.txn ∙ k.0) refl in
    (list_any-append (is_of l.txn) ls (w ∷ []) ∙ or_from (has_lock l.txn ls) (has_lock l.txn (w ∷ [])) a.0 e, apart_push ls w a.1 k.1)

pub apart_filter : (p : Lock → Bool) (ls : List Lock) → AreApart ls → AreApart (filter p ls)
apart_filter p [] a = tt
apart_filter p (l ∷ ls) a = ⊎_elim (λ e. rw e (any_filter (is_of l.txn) p ls a.0, apart_filter p ls a.1)) (λ e. rw e (apart_filter p ls a.1)) (cases_Bool (p l))

pub upgraded_txn : (w o : Lock) → (upgraded_by w o).txn ≡ o.txn
upgraded_txn w o = ⊎_elim (λ h. ap (λ (l : Lock). l.txn) (cond-true (is_of w.txn o) _ o h)) (λ h. ap (λ (l : Lock). l.txn) (cond-false (is_of w.txn o) _ o h)) (cases_Bool (is_of w.txn o))

pub set_txn : (t : TxnId) (m : LockType) (o : Lock) → (set_by t m o).txn ≡ o.txn
set_txn t m o = ⊎_elim (λ h. ap (λ (l : Lock). l.txn) (cond-true (is_of t o) _ o h)) (λ h. ap (λ (l : Lock). l.txn) (cond-false (is_of t o) _ o h)) (cases_Bool (is_of t o))

-- ---- a request is granted
turned : (o w : Lock) → can_be_held o.mode ≡ true → can_be_held w.mode ≡ true → is_blocking w o ≡ false → is_blocking o w ≡ false
turned o w ho hw n = ap (λ b. not b && conflicts_with w.mode o.mode) (same_either o.txn w.txn) ∙ (ap (λ b. not (is_same_txn w.txn o.txn) && b) (laws.symmetric w.mode o.mode hw ho) ∙ n)

itself : (t : TxnId) (m : LockType) (w : Lock) → is_same_txn t w.txn ≡ true → (not (is_same_txn t w.txn) && conflicts_with w.mode m) ≡ false
itself t m w h = and_left (not (is_same_txn t w.txn)) (conflicts_with w.mode m) (not_from_true (is_same_txn t w.txn) h)

-- what both of two types leave alone, their upgrade leaves alone
both_free : (p o w : Lock) → can_be_held p.mode ≡ true → can_be_held o.mode ≡ true → can_be_held w.mode ≡ true → w.txn ≡ o.txn → is_blocking o p ≡ false → is_blocking w p ≡ false
    → is_blocking (record { txn = o.txn; mode = upgraded o.mode w.mode }) p ≡ false
both_free p o w hp ho hw t a b =
    let u = laws.held o.mode w.mode ho in
    let e : conflicts_with p.mode (upgraded o.mode w.mode) ≡ (conflicts_with p.mode o.mode || conflicts_with p.mode w.mode) =
    laws.symmetric p.mode (upgraded o.mode w.mode) hp u ∙ (laws.joins o.mode w.mode p.mode ∙ orred (laws.symmetric o.mode p.mode ho hp) (laws.symmetric w.mode p.mode hw hp)) in
    let c : (not (is_same_txn o.txn p.txn) && conflicts_with p.mode w.mode) ≡ false = ap (λ (v : TxnId). not (is_same_txn v p.txn) && conflicts_with p.mode w.mode) (sym t) ∙ b in
    ap (λ b. not (is_same_txn o.txn p.txn) && b) e ∙ spread (not (is_same_txn o.txn p.txn)) (conflicts_with p.mode o.mode) (conflicts_with p.mode w.mode) a c
  where
    orred : {a b c d : Bool} → a ≡ b → c ≡ d → (a || c) ≡ (b || d)
    orred {a} {b} {c} {d} e f = ap (λ x. x || c) e ∙ ap (λ x. b || x) f

    spread : (s a b : Bool) → (s && a) ≡ false → (s && b) ≡ false → (s && (a || b)) ≡ false
    spread true a b e f = or_from a b e f
    spread false a b e f = refl

upgrade_free : (o w : Lock) → can_be_held o.mode ≡ true → can_be_held w.mode ≡ true → w.txn ≡ o.txn → (os : List Lock) → AllByRecursion (λ p. can_be_held p.mode ≡ true) os → is_blocked os o ≡ false → is_blocked os w ≡ false
    → is_blocked os (record { txn = o.txn; mode = upgraded o.mode w.mode }) ≡ false
upgrade_free o w ho hw t [] hs a b = refl
upgrade_free o w ho hw t (p ∷ os) hs a b =
    let c = or_parts (is_blocking o p) (is_blocked os o) a in let d = or_parts (is_blocking w p) (is_blocked os w) b in
    or_from (is_blocking (record { txn = o.txn; mode = upgraded o.mode w.mode }) p) (is_blocked os (record { txn = o.txn; mode = upgraded o.mode w.mode }))
    (both_free p o w hs.0 ho hw t c.0 d.0) (upgrade_free o w ho hw t os hs.1 c.1 d.1)

abbrev IsFree : List Lock → Lock → Lock → Type 0
IsFree os w o = (is_blocked os o ≡ false) × (can_be_held o.mode ≡ true) × (is_blocking w o ≡ false)

pub owners_taken : (os : List Lock) (w : Lock) → AreOwners os → is_blocked os w ≡ false → AreOwners (with_lock w os)
owners_taken os w a n = ⊎_elim
    (λ h. ⊎_elim
    (λ k. let e : with_lock w os ≡ map (upgraded_by w) os = cond-true (can_be_held w.mode) _ os h ∙ cond-true (has_lock w.txn os) (map (upgraded_by w) os) _ k in
    record {
      agree = subst (λ ls. AllByRecursion (λ o. is_blocked (with_lock w os) o ≡ false) ls) (sym e) (all_mapped (upgraded_by w) (IsFree os w) (λ o. is_blocked (with_lock w os) o ≡ false) (changed h) os free);
      held = subst (λ ls. AllByRecursion (λ o. can_be_held o.mode ≡ true) ls) (sym e) (all_mapped (upgraded_by w) (IsFree os w) (λ o. can_be_held o.mode ≡ true) still os free);
      apart = subst AreApart (sym e) (apart_mapped (upgraded_by w) (upgraded_txn w) os a.apart);
    })
    (λ k. let e : with_lock w os ≡ os ++ (w ∷ []) = cond-true (can_be_held w.mode) _ os h ∙ cond-false (has_lock w.txn os) (map (upgraded_by w) os) _ k in
    record {
      agree = subst (λ ls. AllByRecursion (λ o. is_blocked (with_lock w os) o ≡ false) ls) (sym e) (all_append _ os (w ∷ []) (all_weaker (IsFree os w) _ (same h) os free) (lock_blocks w w os ∙ or_from (is_blocked os w) (is_blocking w w) n (itself w.txn w.mode w (same_itself w.txn)), tt));
      held = subst (λ ls. AllByRecursion (λ o. can_be_held o.mode ≡ true) ls) (sym e) (all_append _ os (w ∷ []) a.held (h, tt));
      apart = subst AreApart (sym e) (apart_push os w a.apart k);
    })
    (cases_Bool (has_lock w.txn os)))
    (λ h. subst AreOwners (sym (cond-false (can_be_held w.mode) _ os h)) a)
    (cases_Bool (can_be_held w.mode))
  where
    free : AllByRecursion (IsFree os w) os
    free = all_weaker _ (IsFree os w) (λ o p. (p.0.0, p.0.1, p.1)) os (all_both _ _ os (all_both _ _ os a.agree a.held) (none_each (is_blocking w) os n))

    same : can_be_held w.mode ≡ true → (o : Lock) → IsFree os w o → is_blocked (with_lock w os) o ≡ false
    same h o p = lock_blocks w o os ∙ or_from (is_blocked os o) (is_blocking o w) p.0 (turned o w p.1 h p.2)

    changed : can_be_held w.mode ≡ true → (o : Lock) → IsFree os w o → is_blocked (with_lock w os) (upgraded_by w o) ≡ false
    changed h o p = ⊎_elim
        (λ i. let t = same_is w.txn o.txn i in
        subst (λ (l : Lock). is_blocked (with_lock w os) l ≡ false) (sym (cond-true (is_of w.txn o) _ o i))
        (lock_blocks w (record { txn = o.txn; mode = upgraded o.mode w.mode }) os ∙ or_from _ _ (upgrade_free o w p.1 h t os a.held p.0 n) (itself o.txn (upgraded o.mode w.mode) w (same_either o.txn w.txn ∙ i))))
        (λ i. subst (λ (l : Lock). is_blocked (with_lock w os) l ≡ false) (sym (cond-false (is_of w.txn o) _ o i)) (same h o p))
        (cases_Bool (is_of w.txn o))

    still : (o : Lock) → IsFree os w o → can_be_held (upgraded_by w o).mode ≡ true
    still o p = ⊎_elim
        (λ i. subst (λ (l : Lock). can_be_held l.mode ≡ true) (sym (cond-true (is_of w.txn o) _ o i)) (laws.held o.mode w.mode p.1))
        (λ i. subst (λ (l : Lock). can_be_held l.mode ≡ true) (sym (cond-false (is_of w.txn o) _ o i)) p.1)
        (cases_Bool (is_of w.txn o))

-- a wait that is blocked stays so when others are granted
pub stays_blocked : (os : List Lock) (w v : Lock) → is_blocked os v ≡ true → is_blocked (with_lock w os) v ≡ true
stays_blocked os w v h = lock_blocks w v os ∙ or_left (is_blocked os v) (is_blocking v w) h

-- ---- waits are granted in order
pub granted_cases : (P : List Lock × List Lock → Type 0) (os : List Lock) (w : Lock) (ws : List Lock) → (is_blocked os w ≡ true → P (waits_still w (granted os ws))) → (is_blocked os w ≡ false → P (granted (with_lock w os) ws)) → P (granted os (w ∷ ws))
granted_cases P os w ws y n = ⊎_elim (λ h. subst P (sym (cond-true (is_blocked os w) _ _ h)) (y h)) (λ h. subst P (sym (cond-false (is_blocked os w) _ _ h)) (n h)) (cases_Bool (is_blocked os w))

pub granted_blocks : (v : Lock) (ws os : List Lock) → is_blocked os v ≡ true → is_blocked (granted os ws).0 v ≡ true
granted_blocks v [] os h = h
granted_blocks v (w ∷ ws) os h = granted_cases (λ q. is_blocked q.0 v ≡ true) os w ws (λ _. granted_blocks v ws os h) (λ _. granted_blocks v ws (with_lock w os) (stays_blocked os w v h))

pub granted_waits : (t : TxnId) (ws os : List Lock) → has_lock t ws ≡ false → has_lock t (granted os ws).1 ≡ false
granted_waits t [] os h = h
granted_waits t (w ∷ ws) os h =
    let k = or_parts (is_of t w) (has_lock t ws) h in
    granted_cases (λ q. has_lock t q.1 ≡ false) os w ws (λ _. or_from (is_of t w) _ k.0 (granted_waits t ws os k.1)) (λ _. granted_waits t ws (with_lock w os) k.1)

pub granted_settles : (ws os : List Lock) → AreOwners os → AreApart ws → IsSettled (granted os ws)
granted_settles [] os a d = record { owners = a; waits = tt; apart = tt }
granted_settles (w ∷ ws) os a d = granted_cases IsSettled os w ws
    (λ h. let s = granted_settles ws os a d.1 in record { owners = s.owners; waits = (granted_blocks w ws os h, s.waits); apart = (granted_waits w.txn ws os d.0, s.apart) })
    (λ h. granted_settles ws (with_lock w os) (owners_taken os w a h) d.1)

-- where each wait is blocked nothing is granted
pub granted_none : (ws os : List Lock) → AllByRecursion (λ w. is_blocked os w ≡ true) ws → granted os ws ≡ (os, ws)
granted_none [] os a = refl
granted_none (w ∷ ws) os a = cond-true (is_blocked os w) _ _ a.0 ∙ ap (waits_still w) (granted_none ws os a.1)

-- ---- a lock goes, or is less again
pub owners_without : (t : TxnId) (os : List Lock) → AreOwners os → AreOwners (without_txn t os)
owners_without t os a = record {
  agree = all_kept _ (λ l. not (is_of t l)) os (all_weaker _ (λ o. is_blocked (without_txn t os) o ≡ false) (λ o h. any_filter (is_blocking o) (λ l. not (is_of t l)) os h) os a.agree);
  held = all_kept _ _ os a.held;
  apart = apart_filter _ os a.apart;
}

-- an owner's type is the one that is found
pub held_each : (t : TxnId) (h : LockType) (os : List Lock) → AreApart os → held_by t os ≡ Some h → AllByRecursion (λ o. is_of t o ≡ true → o.mode ≡ h) os
held_each t h [] a e = tt
held_each t h (o ∷ os) a e = ⊎_elim
    (λ i. let f : find (is_of t) (o ∷ os) ≡ Some o = cond-true (is_of t o) (Some o) (find (is_of t) os) i in
    let g : Some o.mode ≡ Some h = sym (ap (λ x. option_map (λ (l : Lock). l.mode) x) f) ∙ e in
    let k : o.mode ≡ h = cc in
    (λ _. k, all_weaker _ _ (λ p n m. absurd (both_ways (is_of o.txn p) n (subst (λ (u : TxnId). is_of u p ≡ true) (same_is t o.txn i) m))) os (none_each (is_of o.txn) os a.0)))
    (λ i. let f : find (is_of t) (o ∷ os) ≡ find (is_of t) os = cond-false (is_of t o) (Some o) (find (is_of t) os) i in
    (λ m. absurd (both_ways (is_of t o) i m), held_each t h os a.1 (sym (ap (λ x. option_map (λ (l : Lock). l.mode) x) f) ∙ e)))
    (cases_Bool (is_of t o))

-- a type that an upgrade leads from conflicts with no more
less_free : (m h x : LockType) → upgraded m h ≡ h → conflicts_with h x ≡ false → conflicts_with m x ≡ false
less_free m h x u n = (or_parts (conflicts_with m x) (conflicts_with h x) (sym (laws.joins m h x) ∙ (ap (λ k. conflicts_with k x) u ∙ n))).0

anded : (s : Bool) {a b : Bool} → (a ≡ false → b ≡ false) → (s && a) ≡ false → (s && b) ≡ false
anded true k n = k n
anded false k n = refl

set_blocks : (t : TxnId) (m h : LockType) (v p : Lock) → upgraded m h ≡ h → (is_of t p ≡ true → p.mode ≡ h) → is_blocking v p ≡ false → is_blocking v (set_by t m p) ≡ false
set_blocks t m h v p u k n = ⊎_elim
    (λ i. subst (λ (l : Lock). is_blocking v l ≡ false) (sym (cond-true (is_of t p) _ p i)) (anded (not (is_same_txn v.txn p.txn)) {a = conflicts_with p.mode v.mode} (λ e. less_free m h v.mode u (ap (λ x. conflicts_with x v.mode) (sym (k i)) ∙ e)) n))
    (λ i. subst (λ (l : Lock). is_blocking v l ≡ false) (sym (cond-false (is_of t p) _ p i)) n)
    (cases_Bool (is_of t p))

set_frees : (t : TxnId) (m h : LockType) (v : Lock) (os : List Lock) → upgraded m h ≡ h → AllByRecursion (λ o. is_of t o ≡ true → o.mode ≡ h) os → is_blocked os v ≡ false → is_blocked (map (set_by t m) os) v ≡ false
set_frees t m h v [] u a n = refl
set_frees t m h v (o ∷ os) u a n = let k = or_parts (is_blocking v o) (is_blocked os v) n in or_from (is_blocking v (set_by t m o)) (is_blocked (map (set_by t m) os) v) (set_blocks t m h v o u a.0 k.0) (set_frees t m h v os u a.1 k.1)

-- an owner whose type is less again is as free as it was
less_owner : (m h : LockType) (o : Lock) (os : List Lock) → upgraded m h ≡ h → can_be_held m ≡ true → o.mode ≡ h → can_be_held o.mode ≡ true → AllByRecursion (λ p. can_be_held p.mode ≡ true) os → is_blocked os o ≡ false → is_blocked os (record { txn = o.txn; mode = m }) ≡ false
less_owner m h o [] u hm e ho hs n = refl
less_owner m h o (p ∷ os) u hm e ho hs n =
    let k = or_parts (is_blocking o p) (is_blocked os o) n in
    or_from (is_blocking (record { txn = o.txn; mode = m }) p) (is_blocked os (record { txn = o.txn; mode = m }))
    (anded (not (is_same_txn o.txn p.txn)) {a = conflicts_with p.mode o.mode} (λ f. laws.symmetric p.mode m hs.0 hm ∙ less_free m h p.mode u (ap (λ x. conflicts_with x p.mode) (sym e) ∙ (sym (laws.symmetric p.mode o.mode hs.0 ho) ∙ f))) k.0)
    (less_owner m h o os u hm e ho hs.1 k.1)

abbrev IsAsBefore : TxnId → LockType → List Lock → Lock → Type 0
IsAsBefore t h os o = (is_blocked os o ≡ false) × (can_be_held o.mode ≡ true) × (is_of t o ≡ true → o.mode ≡ h)

pub owners_set : (t : TxnId) (m h : LockType) (os : List Lock) → AreOwners os → held_by t os ≡ Some h → can_be_held m ≡ true → upgraded m h ≡ h → AreOwners (map (set_by t m) os)
owners_set t m h os a e hm u = record {
  agree = all_mapped (set_by t m) (IsAsBefore t h os) (λ o. is_blocked (map (set_by t m) os) o ≡ false) agreeing os as_before;
  held = all_mapped (set_by t m) (IsAsBefore t h os) (λ o. can_be_held o.mode ≡ true) holding os as_before;
  apart = apart_mapped (set_by t m) (set_txn t m) os a.apart;
}
  where
    each : AllByRecursion (λ o. is_of t o ≡ true → o.mode ≡ h) os
    each = held_each t h os a.apart e

    as_before : AllByRecursion (IsAsBefore t h os) os
    as_before = all_weaker _ (IsAsBefore t h os) (λ o p. (p.0.0, p.0.1, p.1)) os (all_both _ _ os (all_both _ _ os a.agree a.held) each)

    agreeing : (o : Lock) → IsAsBefore t h os o → is_blocked (map (set_by t m) os) (set_by t m o) ≡ false
    agreeing o p = set_frees t m h (set_by t m o) os u each (⊎_elim
        (λ i. subst (λ (l : Lock). is_blocked os l ≡ false) (sym (cond-true (is_of t o) _ o i)) (less_owner m h o os u hm (p.2 i) p.1 a.held p.0))
        (λ i. subst (λ (l : Lock). is_blocked os l ≡ false) (sym (cond-false (is_of t o) _ o i)) p.0)
        (cases_Bool (is_of t o)))

    holding : (o : Lock) → IsAsBefore t h os o → can_be_held (set_by t m o).mode ≡ true
    holding o p = ⊎_elim
        (λ i. subst (λ (l : Lock). can_be_held l.mode ≡ true) (sym (cond-true (is_of t o) _ o i)) hm)
        (λ i. subst (λ (l : Lock). can_be_held l.mode ≡ true) (sym (cond-false (is_of t o) _ o i)) p.1)
        (cases_Bool (is_of t o))

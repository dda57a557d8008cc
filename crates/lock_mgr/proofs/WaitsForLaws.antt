-- Who waits for whom, and what each call of the lock table adds to it.
use Rattle.std.proofs.Common.{◌≡◌, Bool, true, false, cond, not, ◌&&◌, ◌||◌, List, [], ◌∷◌, ◌++◌, map, Some, None, Option, refl, ap, sym, ◌∙◌, subst, ◌⊎◌, inl, inr, ⊎_elim}
use Rattle.std.specs.List.{list_any, filter, find, AllByRecursion}
use Rattle.std.specs.Option.{option_map_or}
use Rattle.std.proofs.lemmas.List.Folds.{list_any-append}
use Rattle.std.proofs.lemmas.Bool.{and_parts, and_from, and_right, both_ways, false_from_ne_true, true_from_ne_false, false≢true, or_parts, or_cases, or_from, or_left, or_right, cases_Bool, cond-true, cond-false}
use Rattle.je_order.specs.declared.txn_id.TxnId.{TxnId}
use Rattle.lock_mode.specs.declared.lock_type.LockType.{LockType}
use Rattle.lock_mode.specs.declared.lock_type.LockType.TheVariants.{Read}
use Rattle.lock_mode.specs.Modes.{can_be_held, conflicts_with, upgraded}
use Rattle.lock_mode.proofs.Laws.{laws}
use Rattle.waits_for.specs.Cycles.{is_in}
use Rattle.je_order.specs.Transactions.{is_same_txn}
use Rattle.lock_table.specs.declared.lock.Lock.{Lock}
use Rattle.lock_table.specs.declared.record_id.RecordId.{RecordId}
use Rattle.lock_table.specs.Locks.{is_of, has_lock, without_txn, held_by, is_blocking, waited_for, upgraded_by, set_by, with_lock, granted, after_cancel, after_release, after_give_back, read_given_back, WasHeld, AreApart}
use Rattle.lock_table.specs.Table.{Locks, locks_at, pending_at}
use Rattle.lock_table.proofs.OwnersAndWaits.{any_filter}
use Rattle.je_order.proofs.TxnIds.{same_is, same_either}
use Rattle.lock_table.proofs.Owners.{apart_filter, upgraded_txn, set_txn, granted_cases, granted_waits, held_each}
use Rattle.lock_mgr.specs.Deadlock.{waits}

abbrev pub Queue : Type 0
Queue = List Lock × List Lock

-- an owner of the transaction stands in the request's way
abbrev pub blocks : Lock → TxnId → List Lock → Bool
blocks w y os = list_any (λ o. is_blocking w o && is_of y o) os

in_map : (y : TxnId) (p : Lock → Bool) (os : List Lock) → is_in y (map (λ (o : Lock). o.txn) (filter p os)) ≡ list_any (λ o. p o && is_of y o) os
in_map y p [] = refl
in_map y p (o ∷ os) = ⊎_elim
    (λ h. ap (λ ls. is_in y (map (λ (l : Lock). l.txn) ls)) (cond-true (p o) (o ∷ filter p os) (filter p os) h) ∙ (ap (λ b. is_of y o || b) (in_map y p os) ∙ sym (ap (λ b. (b && is_of y o) || list_any (λ l. p l && is_of y l) os) h)))
    (λ h. ap (λ ls. is_in y (map (λ (l : Lock). l.txn) ls)) (cond-false (p o) (o ∷ filter p os) (filter p os) h) ∙ (in_map y p os ∙ sym (ap (λ b. (b && is_of y o) || list_any (λ l. p l && is_of y l) os) h)))
    (cases_Bool (p o))

-- x waits for y on the record
abbrev pub waits_on : TxnId → TxnId → Queue → Bool
waits_on x y q = is_in y (waited_for x q)

abbrev pub IsWait : TxnId → TxnId → Queue → Type 0
IsWait x y q = (w : Lock) × (find (is_of x) q.1 ≡ Some w) × (blocks w y q.0 ≡ true)

pub wait_parts : (x y : TxnId) (q : Queue) → waits_on x y q ≡ true → IsWait x y q
wait_parts x y q h = by (find (is_of x) q.1) refl
  where
    by : (o : Option Lock) → find (is_of x) q.1 ≡ o → IsWait x y q
    by None e = absurd (false≢true (sym (ap (λ o. is_in y (option_map_or (λ w. map (λ (l : Lock). l.txn) (filter (is_blocking w) q.0)) o [])) e) ∙ h))
    by (Some w) e = (w, e, sym (in_map y (is_blocking w) q.0) ∙ (sym (ap (λ o. is_in y (option_map_or (λ v. map (λ (l : Lock). l.txn) (filter (is_blocking v) q.0)) o [])) e) ∙ h))

pub wait_from : (x y : TxnId) (q : Queue) (w : Lock) → find (is_of x) q.1 ≡ Some w → blocks w y q.0 ≡ true → waits_on x y q ≡ true
wait_from x y q w e b = ap (λ o. is_in y (option_map_or (λ v. map (λ (l : Lock). l.txn) (filter (is_blocking v) q.0)) o [])) e ∙ (in_map y (is_blocking w) q.0 ∙ b)

-- ---- a transaction's wait in the list
found_has : (x : TxnId) (ws : List Lock) (w : Lock) → find (is_of x) ws ≡ Some w → has_lock x ws ≡ true
found_has x [] w e = absurd (cc (e))
found_has x (v ∷ ws) w e = ⊎_elim (λ h. or_left (is_of x v) (has_lock x ws) h) (λ h. or_right (is_of x v) (has_lock x ws) (found_has x ws w (sym (cond-false (is_of x v) (Some v) (find (is_of x) ws) h) ∙ e))) (cases_Bool (is_of x v))

find_without : (x t : TxnId) (ws : List Lock) → is_same_txn t x ≡ false → find (is_of x) (without_txn t ws) ≡ find (is_of x) ws
find_without x t [] n = refl
find_without x t (w ∷ ws) n = ⊎_elim
    (λ h. ap (find (is_of x)) (cond-false (not (is_of t w)) (w ∷ without_txn t ws) (without_txn t ws) (ap not h)) ∙ (find_without x t ws n ∙ sym (cond-false (is_of x w) (Some w) (find (is_of x) ws) (other w h))))
    (λ h. ap (find (is_of x)) (cond-true (not (is_of t w)) (w ∷ without_txn t ws) (without_txn t ws) (ap not h)) ∙ ap (λ o. cond (is_of x w) (Some w) o) (find_without x t ws n))
    (cases_Bool (is_of t w))
  where
    other : (w : Lock) → is_of t w ≡ true → is_of x w ≡ false
    other w h = subst (λ (u : TxnId). is_same_txn x u ≡ false) (same_is t w.txn h) (same_either x t ∙ n)

pub none_without : (t : TxnId) (ws : List Lock) → has_lock t (without_txn t ws) ≡ false
none_without t [] = refl
none_without t (w ∷ ws) = ⊎_elim (λ h. rw h (none_without t ws)) (λ h. rw h (or_from (is_of t w) (has_lock t (without_txn t ws)) h (none_without t ws))) (cases_Bool (is_of t w))

pub found_without : (x t : TxnId) (ws : List Lock) (w : Lock) → find (is_of x) (without_txn t ws) ≡ Some w → (is_same_txn t x ≡ false) × (find (is_of x) ws ≡ Some w)
found_without x t ws w e = ⊎_elim
    (λ h. absurd (both_ways (has_lock x (without_txn t ws)) (subst (λ (u : TxnId). has_lock u (without_txn t ws) ≡ false) (same_is t x h) (none_without t ws)) (found_has x (without_txn t ws) w e)))
    (λ h. (h, sym (find_without x t ws h) ∙ e))
    (cases_Bool (is_same_txn t x))

kept : {a b : Bool} → (a ≡ false → b ≡ false) → b ≡ true → a ≡ true
kept {a} {b} k h = true_from_ne_false a (λ n. both_ways b (k n) h)

-- ---- what each change adds
pub waits_cancel : (x y t : TxnId) (q : Queue) → waits_on x y (after_cancel t q) ≡ true → waits_on x y q ≡ true
waits_cancel x y t q h = let p = wait_parts x y (after_cancel t q) h in wait_from x y q p.0 (found_without x t q.1 p.0 p.1).1 p.2

blocks_mapped : (w : Lock) (y : TxnId) (f : Lock → Lock) → ((o : Lock) → (is_blocking w (f o) && is_of y (f o)) ≡ true → (is_blocking w o && is_of y o) ≡ true) → (os : List Lock) → blocks w y (map f os) ≡ true → blocks w y os ≡ true
blocks_mapped w y f k [] h = h
blocks_mapped w y f k (o ∷ os) h = ⊎_elim (λ i. or_left _ (blocks w y os) (k o i)) (λ i. or_right (is_blocking w o && is_of y o) (blocks w y os) (blocks_mapped w y f k os i)) (or_cases (is_blocking w (f o) && is_of y (f o)) (blocks w y (map f os)) h)

-- an owner that blocks once a request is granted blocked before, or is the one that was granted
blocks_lock : (w v : Lock) (y : TxnId) (os : List Lock) → blocks w y (with_lock v os) ≡ true → (blocks w y os ≡ true) ⊎ (is_same_txn y v.txn ≡ true)
blocks_lock w v y os h = ⊎_elim (λ e. inr e) (λ e. inl (other e)) (cases_Bool (is_same_txn y v.txn))
  where
    upgraded : is_same_txn y v.txn ≡ false → (o : Lock) → (is_blocking w (upgraded_by v o) && is_of y (upgraded_by v o)) ≡ true → (is_blocking w o && is_of y o) ≡ true
    upgraded e o k = ⊎_elim
        (λ i. let t = same_is v.txn o.txn i in
        let n : is_of y (upgraded_by v o) ≡ false = ap (λ (u : TxnId). is_same_txn y u) (upgraded_txn v o) ∙ subst (λ (u : TxnId). is_same_txn y u ≡ false) t e in
        absurd (both_ways (is_of y (upgraded_by v o)) n (and_parts (is_blocking w (upgraded_by v o)) (is_of y (upgraded_by v o)) k).1))
        (λ i. subst (λ (l : Lock). (is_blocking w l && is_of y l) ≡ true) (cond-false (is_of v.txn o) _ o i) k)
        (cases_Bool (is_of v.txn o))

    other : is_same_txn y v.txn ≡ false → blocks w y os ≡ true
    other e = ⊎_elim
        (λ a. ⊎_elim
        (λ b. blocks_mapped w y (upgraded_by v) (upgraded e) os (subst (λ ls. blocks w y ls ≡ true) (cond-true (can_be_held v.mode) _ os a ∙ cond-true (has_lock v.txn os) (map (upgraded_by v) os) (os ++ (v ∷ [])) b) h))
        (λ b. ⊎_elim (λ i. i) (λ i. absurd (both_ways (blocks w y (v ∷ [])) (or_from (is_blocking w v && is_of y v) false (and_right (is_blocking w v) (is_of y v) e) refl) i))
        (or_cases (blocks w y os) (blocks w y (v ∷ [])) (sym (list_any-append (λ o. is_blocking w o && is_of y o) os (v ∷ [])) ∙ subst (λ ls. blocks w y ls ≡ true) (cond-true (can_be_held v.mode) _ os a ∙ cond-false (has_lock v.txn os) (map (upgraded_by v) os) (os ++ (v ∷ [])) b) h)))
        (cases_Bool (has_lock v.txn os)))
        (λ a. subst (λ ls. blocks w y ls ≡ true) (cond-false (can_be_held v.mode) _ os a) h)
        (cases_Bool (can_be_held v.mode))

-- a transaction whose wait was granted
abbrev pub IsGranted : TxnId → List Lock → List Lock → Type 0
IsGranted y before after = (has_lock y before ≡ true) × (has_lock y after ≡ false)

blocks_granted : (w : Lock) (y : TxnId) (ws os : List Lock) → AreApart ws → blocks w y (granted os ws).0 ≡ true → (blocks w y os ≡ true) ⊎ (IsGranted y ws (granted os ws).1)
blocks_granted w y [] os a = λ h. inl h
blocks_granted w y (v ∷ ws) os a = granted_cases (λ q. blocks w y q.0 ≡ true → (blocks w y os ≡ true) ⊎ (IsGranted y (v ∷ ws) q.1)) os v ws
    (λ _ h. ⊎_elim inl
    (λ g. let n : is_of y v ≡ false = false_from_ne_true (is_of y v) (λ e. both_ways (has_lock v.txn ws) a.0 (subst (λ (u : TxnId). has_lock u ws ≡ true) (same_is y v.txn e) g.0)) in
    inr (or_right (is_of y v) (has_lock y ws) g.0, or_from (is_of y v) (has_lock y (granted os ws).1) n g.1))
    (blocks_granted w y ws os a.1 h))
    (λ _ h. ⊎_elim
    (λ b. ⊎_elim inl (λ e. inr (or_left (is_of y v) (has_lock y ws) e, granted_waits y ws (with_lock v os) (subst (λ (u : TxnId). has_lock u ws ≡ false) (sym (same_is y v.txn e)) a.0))) (blocks_lock w v y os b))
    (λ g. inr (or_right (is_of y v) (has_lock y ws) g.0, g.1))
    (blocks_granted w y ws (with_lock v os) a.1 h))

find_granted : (x : TxnId) (w : Lock) (ws os : List Lock) → AreApart ws → find (is_of x) (granted os ws).1 ≡ Some w → find (is_of x) ws ≡ Some w
find_granted x w [] os a = λ e. e
find_granted x w (v ∷ ws) os a = granted_cases (λ q. find (is_of x) q.1 ≡ Some w → find (is_of x) (v ∷ ws) ≡ Some w) os v ws
    (λ _ e. ⊎_elim
    (λ h. cond-true (is_of x v) (Some v) (find (is_of x) ws) h ∙ (sym (cond-true (is_of x v) (Some v) (find (is_of x) (granted os ws).1) h) ∙ e))
    (λ h. cond-false (is_of x v) (Some v) (find (is_of x) ws) h ∙ find_granted x w ws os a.1 (sym (cond-false (is_of x v) (Some v) (find (is_of x) (granted os ws).1) h) ∙ e))
    (cases_Bool (is_of x v)))
    (λ _ e. let f = find_granted x w ws (with_lock v os) a.1 e in
    ⊎_elim (λ h. absurd (both_ways (has_lock v.txn ws) a.0 (subst (λ (u : TxnId). has_lock u ws ≡ true) (same_is x v.txn h) (found_has x ws w f)))) (λ h. cond-false (is_of x v) (Some v) (find (is_of x) ws) h ∙ f) (cases_Bool (is_of x v)))

pub waits_granted : (x y : TxnId) (os ws : List Lock) → AreApart ws → waits_on x y (granted os ws) ≡ true → (waits_on x y (os, ws) ≡ true) ⊎ (IsGranted y ws (granted os ws).1)
waits_granted x y os ws a h =
    let p = wait_parts x y (granted os ws) h in
    ⊎_elim (λ b. inl (wait_from x y (os, ws) p.0 (find_granted x p.0 ws os a p.1) b)) inr (blocks_granted p.0 y ws os a p.2)

pub waits_release : (x y t : TxnId) (q : Queue) → AreApart q.1 → waits_on x y (after_release t q) ≡ true → (waits_on x y q ≡ true) ⊎ (IsGranted y q.1 (after_release t q).1)
waits_release x y t q a h = ⊎_elim
    (λ k. let p = wait_parts x y (without_txn t q.0, without_txn t q.1) k in inl (wait_from x y q p.0 (found_without x t q.1 p.0 p.1).1 (kept (any_filter (λ o. is_blocking p.0 o && is_of y o) (λ l. not (is_of t l)) q.0) p.2)))
    (λ g. inr (kept (any_filter (is_of y) (λ l. not (is_of t l)) q.1) g.0, g.1))
    (waits_granted x y (without_txn t q.0) (without_txn t q.1) (apart_filter (λ l. not (is_of t l)) q.1 a) h)

-- a type that an upgrade leads from conflicts with no more
less_free : (m h x : LockType) → upgraded m h ≡ h → conflicts_with h x ≡ false → conflicts_with m x ≡ false
less_free m h x u n = (or_parts (conflicts_with m x) (conflicts_with h x) (sym (laws.joins m h x) ∙ (ap (λ k. conflicts_with k x) u ∙ n))).0

anded : (s : Bool) {a b : Bool} → (a ≡ false → b ≡ false) → (s && a) ≡ false → (s && b) ≡ false
anded true k n = k n
anded false k n = refl

set_blocks : (t : TxnId) (m h : LockType) (v p : Lock) → upgraded m h ≡ h → (is_of t p ≡ true → p.mode ≡ h) → is_blocking v p ≡ false → is_blocking v (set_by t m p) ≡ false
set_blocks t m h v p u k n = ⊎_elim
    (λ i. subst (λ (l : Lock). is_blocking v l ≡ false) (sym (cond-true (is_of t p) _ p i)) (anded (not (is_same_txn v.txn p.txn)) {a = conflicts_with p.mode v.mode} (λ e. less_free m h v.mode u (ap (λ x. conflicts_with x v.mode) (sym (k i)) ∙ e)) n))
    (λ i. subst (λ (l : Lock). is_blocking v l ≡ false) (sym (cond-false (is_of t p) _ p i)) n)
    (cases_Bool (is_of t p))

blocks_set : (w : Lock) (y t : TxnId) (m h : LockType) → upgraded m h ≡ h → (os : List Lock) → AllByRecursion (λ o. is_of t o ≡ true → o.mode ≡ h) os → blocks w y (map (set_by t m) os) ≡ true → blocks w y os ≡ true
blocks_set w y t m h u [] a k = k
blocks_set w y t m h u (o ∷ os) a k = ⊎_elim
    (λ i. let p = and_parts (is_blocking w (set_by t m o)) (is_of y (set_by t m o)) i in
    or_left (is_blocking w o && is_of y o) (blocks w y os) (and_from (is_blocking w o) (is_of y o) (kept (set_blocks t m h w o u a.0) p.0) (ap (λ (v : TxnId). is_same_txn y v) (sym (set_txn t m o)) ∙ p.1)))
    (λ i. or_right (is_blocking w o && is_of y o) (blocks w y os) (blocks_set w y t m h u os a.1 i))
    (or_cases (is_blocking w (set_by t m o) && is_of y (set_by t m o)) (blocks w y (map (set_by t m) os)) k)

pub waits_give_back : (x y t : TxnId) (was : Option LockType) (h : LockType) (q : Queue) → AreApart q.0 → AreApart q.1 → held_by t q.0 ≡ Some h → WasHeld was h → waits_on x y (after_give_back t was q) ≡ true → (waits_on x y q ≡ true) ⊎ (IsGranted y q.1 (after_give_back t was q).1)
waits_give_back x y t None h q b a e wh k = ⊎_elim
    (λ i. let p = wait_parts x y (without_txn t q.0, q.1) i in inl (wait_from x y q p.0 p.1 (kept (any_filter (λ o. is_blocking p.0 o && is_of y o) (λ l. not (is_of t l)) q.0) p.2)))
    inr (waits_granted x y (without_txn t q.0) q.1 a k)
waits_give_back x y t (Some m) h q b a e wh k = ⊎_elim
    (λ i. let p = wait_parts x y (map (set_by t m) q.0, q.1) i in inl (wait_from x y q p.0 p.1 (blocks_set p.0 y t m h wh.1 q.0 (held_each t h q.0 b e) p.2)))
    inr (waits_granted x y (map (set_by t m) q.0) q.1 a k)

-- the same where a lock of no more than READ goes
pub waits_read : (x y t : TxnId) (held : Option LockType) (q : Queue) → held_by t q.0 ≡ held → AreApart q.0 → AreApart q.1 → waits_on x y (read_given_back t held q) ≡ true → (waits_on x y q ≡ true) ⊎ (IsGranted y q.1 (read_given_back t held q).1)
waits_read x y t (Some Read) q e b a k = waits_give_back x y t None Read q b a e tt k
waits_read x y t held q e b a k = inl k

pub waits_taken : (x y : TxnId) (v : Lock) (q : Queue) → waits_on x y (with_lock v q.0, q.1) ≡ true → (waits_on x y q ≡ true) ⊎ (is_same_txn y v.txn ≡ true)
waits_taken x y v q h = let p = wait_parts x y (with_lock v q.0, q.1) h in ⊎_elim (λ b. inl (wait_from x y q p.0 p.1 b)) inr (blocks_lock p.0 v y q.0 p.2)

-- ---- the whole table
pub record IsWaitAt (x y : TxnId) (v : Locks) : Type 0 where
  pub at : RecordId
  pub pending : pending_at x v ≡ Some at
  pub on : waits_on x y (locks_at at v) ≡ true

pub waits_parts : (v : Locks) (x y : TxnId) → waits v x y ≡ true → IsWaitAt x y v
waits_parts v x y h = by (pending_at x v) refl
  where
    by : (o : Option RecordId) → pending_at x v ≡ o → IsWaitAt x y v
    by None e = absurd (false≢true (sym (ap (λ o. is_in y (option_map_or (λ r. waited_for x (locks_at r v)) o [])) e) ∙ h))
    by (Some r) e = record { at = r; pending = e; on = sym (ap (λ o. is_in y (option_map_or (λ s. waited_for x (locks_at s v)) o [])) e) ∙ h }

pub waits_from : (v : Locks) (x y : TxnId) (r : RecordId) → pending_at x v ≡ Some r → waits_on x y (locks_at r v) ≡ true → waits v x y ≡ true
waits_from v x y r e h = ap (λ o. is_in y (option_map_or (λ s. waited_for x (locks_at s v)) o [])) e ∙ h

-- who waits has its wait on the record
pub waits_has : (v : Locks) (x y : TxnId) (r : RecordId) → pending_at x v ≡ Some r → waits v x y ≡ true → has_lock x (locks_at r v).1 ≡ true
waits_has v x y r e h = let p = waits_parts v x y h in let s : p.at ≡ r = cc (p.pending, e) in let w = wait_parts x y (locks_at p.at v) p.on in subst (λ (u : RecordId). has_lock x (locks_at u v).1 ≡ true) s (found_has x (locks_at p.at v).1 w.0 w.1)

-- nobody is waited for by who has no wait there
pub waits_not : (v : Locks) (x : TxnId) (r : RecordId) → pending_at x v ≡ Some r → has_lock x (locks_at r v).1 ≡ false → (z : TxnId) → waits v x z ≡ false
waits_not v x r e n z = false_from_ne_true (waits v x z) (λ h. both_ways (has_lock x (locks_at r v).1) n (waits_has v x z r e h))

pub waits_none : (v : Locks) (x : TxnId) → pending_at x v ≡ None → (z : TxnId) → waits v x z ≡ false
waits_none v x e z = false_from_ne_true (waits v x z) (λ h. let p = waits_parts v x z h in let q = p.pending in absurd (cc (q, e)))

-- What requests, grants and releases keep of one record's owners and waits.
use Rattle.std.proofs.Common.{◌≡◌, Bool, true, false, not, ◌&&◌, ◌||◌, List, [], ◌∷◌, ◌++◌, map, refl, ap, sym, ◌∙◌, ⊎_elim}
use Rattle.std.specs.List.{list_any, filter, AllByRecursion}
use Rattle.std.proofs.lemmas.List.Folds.{list_any-append}
use Rattle.std.proofs.lemmas.Bool.{and_right, cases_Bool, or_parts, or_from, both_ways, cond-true, cond-false}
use Rattle.lock_mode.specs.declared.lock_type.LockType.{LockType}
use Rattle.lock_mode.specs.declared.lock_type.LockType.TheVariants.{Read, Write, RangeRead, RangeWrite, RangeInsert}
use Rattle.lock_mode.specs.Modes.{conflicts_with, can_be_held}
use Rattle.lock_mode.proofs.Laws.{laws}
use Rattle.lock_table.specs.declared.lock.Lock.{Lock}
use Rattle.lock_table.specs.Locks.{is_of, has_lock, is_blocking, is_blocked, upgraded_by, with_lock}
use Rattle.je_order.specs.Transactions.{is_same_txn}
use Rattle.je_order.proofs.TxnIds.{same_is}

-- ---- lists
pub all_mapped : {X Y : Type 0} (f : X → Y) (P : X → Type 0) (Q : Y → Type 0) → ((x : X) → P x → Q (f x)) → (xs : List X) → AllByRecursion P xs → AllByRecursion Q (map f xs)
all_mapped f P Q h [] a = tt
all_mapped f P Q h (x ∷ xs) a = (h x a.0, all_mapped f P Q h xs a.1)

pub all_both : {X : Type 0} (P Q : X → Type 0) (xs : List X) → AllByRecursion P xs → AllByRecursion Q xs → AllByRecursion (λ x. P x × Q x) xs
all_both P Q [] a b = tt
all_both P Q (x ∷ xs) a b = ((a.0, b.0), all_both P Q xs a.1 b.1)

pub filter_all : {X : Type 0} (p : X → Bool) (xs : List X) → list_any p xs ≡ false → filter (λ x. not (p x)) xs ≡ xs
filter_all p [] h = refl
filter_all p (x ∷ xs) h = let k = or_parts (p x) (list_any p xs) h in rw k.0 (ap (λ ys. x ∷ ys) (filter_all p xs k.1))

pub any_filter : {X : Type 0} (p q : X → Bool) (xs : List X) → list_any p xs ≡ false → list_any p (filter q xs) ≡ false
any_filter p q [] h = refl
any_filter p q (x ∷ xs) h = let k = or_parts (p x) (list_any p xs) h in ⊎_elim (λ e. rw e (or_from (p x) _ k.0 (any_filter p q xs k.1))) (λ e. rw e (any_filter p q xs k.1)) (cases_Bool (q x))

-- ---- who is blocked once a request is granted: by an owner as before, or by the request
pub upgraded_blocks : (w o v : Lock) → is_of w.txn o ≡ true → is_blocking v (upgraded_by w o) ≡ (is_blocking v o || is_blocking v w)
upgraded_blocks w o v h =
    let t : w.txn ≡ o.txn = same_is w.txn o.txn h in
    let j = laws.joins o.mode w.mode v.mode in
    rw (h, j, t) (spread (is_same_txn v.txn o.txn) (conflicts_with o.mode v.mode) (conflicts_with w.mode v.mode))
  where
    spread : (s a b : Bool) → (not s && (a || b)) ≡ ((not s && a) || (not s && b))
    spread true a b = refl
    spread false a b = refl

step_in : (u a b r s i m : Bool) → i ≡ true → u ≡ (a || b) → m ≡ (r || (s && b)) → (u || m) ≡ ((a || r) || ((i || s) && b))
step_in u a b r s true m e f g = rw (f, g) (fold a b r s)
  where
    fold : (a b r s : Bool) → ((a || b) || (r || (s && b))) ≡ ((a || r) || b)
    fold true b r s = refl
    fold false true true s = refl
    fold false true false s = refl
    fold false false true s = refl
    fold false false false true = refl
    fold false false false false = refl
step_in u a b r s false m e f g = absurd (both_ways false refl e)

step_out : (u a b r s i m : Bool) → i ≡ false → u ≡ a → m ≡ (r || (s && b)) → (u || m) ≡ ((a || r) || ((i || s) && b))
step_out u a b r s true m e f g = absurd (both_ways true e refl)
step_out u true b r s false m e f g = rw f refl
step_out u false b r s false m e f g = rw (f, g) refl

-- the upgraded owners block what they blocked, and what the request blocks if its transaction is among them
pub map_blocks : (w v : Lock) (os : List Lock) → list_any (is_blocking v) (map (upgraded_by w) os) ≡ (list_any (is_blocking v) os || (has_lock w.txn os && is_blocking v w))
map_blocks w v [] = refl
map_blocks w v (o ∷ os) = ⊎_elim
    (λ h. step_in (is_blocking v (upgraded_by w o)) (is_blocking v o) (is_blocking v w) (list_any (is_blocking v) os) (has_lock w.txn os) (is_of w.txn o) _ h (upgraded_blocks w o v h) (map_blocks w v os))
    (λ h. step_out (is_blocking v (upgraded_by w o)) (is_blocking v o) (is_blocking v w) (list_any (is_blocking v) os) (has_lock w.txn os) (is_of w.txn o) _ h (ap (is_blocking v) (cond-false (is_of w.txn o) _ o h)) (map_blocks w v os))
    (cases_Bool (is_of w.txn o))

never_held : (m l : LockType) → can_be_held m ≡ false → conflicts_with m l ≡ false
never_held Read l h = absurd (both_ways true h refl)
never_held Write l h = absurd (both_ways true h refl)
never_held RangeRead l h = absurd (both_ways true h refl)
never_held RangeWrite l h = absurd (both_ways true h refl)
never_held RangeInsert l h = refl

-- once a request is granted, a second one is blocked as before, or by the first
pub lock_blocks : (w v : Lock) (os : List Lock) → is_blocked (with_lock w os) v ≡ (is_blocked os v || is_blocking v w)
lock_blocks w v os = ⊎_elim
    (λ h. ⊎_elim
    (λ k. let e : with_lock w os ≡ map (upgraded_by w) os = taken h k in ap (λ ls. is_blocked ls v) e ∙ (map_blocks w v os ∙ ap (λ b. is_blocked os v || (b && is_blocking v w)) k))
    (λ k. let e : with_lock w os ≡ os ++ (w ∷ []) = added h k in ap (λ ls. is_blocked ls v) e ∙ (list_any-append (is_blocking v) os (w ∷ []) ∙ ap (λ b. is_blocked os v || b) (or_false (is_blocking v w))))
    (cases_Bool (has_lock w.txn os)))
    (λ h. let e : with_lock w os ≡ os = cond-false (can_be_held w.mode) _ os h in ap (λ ls. is_blocked ls v) e ∙ (sym (or_false (is_blocked os v)) ∙ ap (λ b. is_blocked os v || b) (sym (and_right (not (is_same_txn v.txn w.txn)) (conflicts_with w.mode v.mode) (never_held w.mode v.mode h)))))
    (cases_Bool (can_be_held w.mode))
  where
    or_false : (b : Bool) → (b || false) ≡ b
    or_false true = refl
    or_false false = refl

    taken : can_be_held w.mode ≡ true → has_lock w.txn os ≡ true → with_lock w os ≡ map (upgraded_by w) os
    taken h k = cond-true (can_be_held w.mode) _ os h ∙ cond-true (has_lock w.txn os) (map (upgraded_by w) os) _ k

    added : can_be_held w.mode ≡ true → has_lock w.txn os ≡ false → with_lock w os ≡ os ++ (w ∷ [])
    added h k = cond-true (can_be_held w.mode) _ os h ∙ cond-false (has_lock w.txn os) (map (upgraded_by w) os) _ k

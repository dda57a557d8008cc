-- Victims of a wait that closes cycles: how many there are, and how long their cycles: no more than the calls that wait.
use Rattle.std.proofs.Common.{◌≡◌, ◌<◌, ◌≤◌, Bool, true, false, not, ◌||◌, List, [], ◌∷◌, ◌++◌, length, map, Some, None, Option, refl, ap, sym, ◌∙◌, subst, ⊎_elim, suc, arith}
use Rattle.std.specs.List.{filter, AllByRecursion}
use Rattle.std.specs.Option.{option_map_or}
use Rattle.std.proofs.lemmas.Bool.{cases_Bool, cond-true, cond-false, and_parts, or_left, or_right}
use Rattle.je_order.specs.declared.txn_id.TxnId.{TxnId}
use Rattle.je_order.specs.Transactions.{is_same_txn}
use Rattle.je_order.proofs.TxnIds.{same_is, same_itself}
use Rattle.waits_for.specs.Cycles.{is_in, closes_by, names_each_once, is_cycle_by}
use Rattle.lock_mgr.specs.Deadlock.{AreVictims, others}
use Rattle.lock_mgr.proofs.CycleLaws.{on_cycle, victim_waits}
use Rattle.lock_table.specs.declared.lock.Lock.{Lock}
use Rattle.lock_table.specs.declared.record_id.RecordId.{RecordId}
use Rattle.lock_table.specs.Locks.{waited_for}
use Rattle.je_answers.specs.declared.wait.Wait.{Wait}
use Rattle.je_answers.specs.Standing.{LockState}
use Rattle.je_answers.specs.Locking.{waits_in, waits_for_in}
use Rattle.standing_laws.specs.Right.{has_wait}

abbrev pub Waits : Type 0
Waits = TxnId → TxnId → Bool

-- whoever waits is one of these
abbrev pub AreWaiters : List TxnId → Waits → Type 0
AreWaiters ws R = (x y : TxnId) → R x y ≡ true → is_in x ws ≡ true

abbrev pub less : TxnId → List TxnId → List TxnId
less t ws = filter (λ u. not (is_same_txn t u)) ws

-- one less, where it was there
no_more : (t : TxnId) (ws : List TxnId) → length (less t ws) < suc (length ws)
no_more t [] = omega arith
no_more t (u ∷ us) = ⊎_elim
    (λ e. let k = ap (λ (l : List TxnId). length l) (cond-true (not (is_same_txn t u)) (u ∷ less t us) (less t us) e) in omega (arith, k, no_more t us))
    (λ e. let k = ap (λ (l : List TxnId). length l) (cond-false (not (is_same_txn t u)) (u ∷ less t us) (less t us) e) in omega (arith, k, no_more t us))
    (cases_Bool (not (is_same_txn t u)))

or_cases : (a b : Bool) → (a || b) ≡ true → a ≡ false → b ≡ true
or_cases true b h e = absurd (cc (e))
or_cases false b h e = h

pub one_less : (t : TxnId) (ws : List TxnId) → is_in t ws ≡ true → length (less t ws) < length ws
one_less t [] h = absurd (cc (h))
one_less t (u ∷ us) h = ⊎_elim
    (λ e. let k = ap (λ (l : List TxnId). length l) (cond-false (not (is_same_txn t u)) (u ∷ less t us) (less t us) (ap not e)) in omega (arith, k, no_more t us))
    (λ e. let k = ap (λ (l : List TxnId). length l) (cond-true (not (is_same_txn t u)) (u ∷ less t us) (less t us) (ap not e)) in omega (arith, k, one_less t us (or_cases (is_same_txn t u) (is_in t us) h e)))
    (cases_Bool (is_same_txn t u))

-- another one stays
stays : (t x : TxnId) (ws : List TxnId) → is_same_txn t x ≡ false → is_in x ws ≡ true → is_in x (less t ws) ≡ true
stays t x [] n h = absurd (cc (h))
stays t x (u ∷ us) n h = ⊎_elim
    (λ e. subst (λ (l : List TxnId). is_in x l ≡ true) (sym (cond-true (not (is_same_txn t u)) (u ∷ less t us) (less t us) e))
    (⊎_elim (λ s. or_left (is_same_txn x u) (is_in x (less t us)) s) (λ s. or_right (is_same_txn x u) (is_in x (less t us)) (stays t x us n (or_cases (is_same_txn x u) (is_in x us) h s))) (cases_Bool (is_same_txn x u))))
    (λ e. subst (λ (l : List TxnId). is_in x l ≡ true) (sym (cond-false (not (is_same_txn t u)) (u ∷ less t us) (less t us) e))
    (⊎_elim
    (λ s. absurd (let k : x ≡ u = same_is x u s in let m : is_same_txn t u ≡ false = subst (λ (z : TxnId). is_same_txn t z ≡ false) k n in cc (m, e, ap not m)))
    (λ s. stays t x us n (or_cases (is_same_txn x u) (is_in x us) h s))
    (cases_Bool (is_same_txn x u))))
    (cases_Bool (not (is_same_txn t u)))

not_true : (b : Bool) → not b ≡ true → b ≡ false
not_true true h = absurd (cc (h))
not_true false h = refl

pub others_wait : (t : TxnId) (ws : List TxnId) (R : Waits) → AreWaiters ws R → AreWaiters (less t ws) (others t R)
others_wait t ws R w x y h = let p = and_parts (not (is_same_txn t x)) (R x y) h in stays t x ws (not_true (is_same_txn t x) p.0) (w x y p.1)

pub few_victims : (t : TxnId) (R : Waits) (ws : List TxnId) (vs : List (TxnId × List TxnId)) → AreWaiters ws R → AreVictims t R vs → length vs ≤ length ws
few_victims t R ws [] w h = omega arith
few_victims t R ws (v ∷ vs) w h =
    let z = victim_waits R v.0 v.1 h.0.cycle h.1 in
    let k = one_less v.0 ws (w v.0 z.0 z.1) in
    let m = few_victims t (others v.0 R) (less v.0 ws) vs (others_wait v.0 ws R w) h.2 in
    omega (arith, k, m)

-- ---- cycles

all_in : (ws list : List TxnId) → Type 0
all_in ws list = (x : TxnId) → is_in x list ≡ true → is_in x ws ≡ true

pub few_named : (ws list : List TxnId) → ((x : TxnId) → is_in x list ≡ true → is_in x ws ≡ true) → names_each_once list ≡ true → length list ≤ length ws
few_named ws [] a n = omega arith
few_named ws (x ∷ xs) a n =
    let p = and_parts (not (is_in x xs)) (names_each_once xs) n in
    let k = one_less x ws (a x (or_left (is_same_txn x x) (is_in x xs) (same_itself x))) in
    let m = few_named (less x ws) xs (λ y h. stays x y ws (apart y h p.0) (a y (or_right (is_same_txn y x) (is_in y xs) h))) p.1 in
    omega (arith, k, m)
  where
    apart : (y : TxnId) → is_in y xs ≡ true → not (is_in x xs) ≡ true → is_same_txn x y ≡ false
    apart y h no_ = ⊎_elim
        (λ e. absurd (let k : x ≡ y = same_is x y e in let m : is_in x xs ≡ true = subst (λ (z : TxnId). is_in z xs ≡ true) (sym k) h in cc (m, no_, ap not m)))
        (λ e. e)
        (cases_Bool (is_same_txn x y))

pub short_cycle : (R : Waits) (ws list : List TxnId) → AreWaiters ws R → is_cycle_by R list ≡ true → length list ≤ length ws
short_cycle R ws [] w h = omega arith
short_cycle R ws (x ∷ xs) w h =
    let p = and_parts (closes_by R (x ∷ xs)) (names_each_once (x ∷ xs)) h in
    few_named ws (x ∷ xs) (λ y m. let z = on_cycle R y x x xs p.0 m in w y z.0 z.1) p.1

-- each victim is one of those that wait
pub victims_in : (t : TxnId) (R : Waits) (ws : List TxnId) (vs : List (TxnId × List TxnId)) → AreWaiters ws R → AreVictims t R vs → AllByRecursion (λ v. is_in v.0 ws ≡ true) vs
victims_in t R ws [] w h = tt
victims_in t R ws (v ∷ vs) w h =
    let z = victim_waits R v.0 v.1 h.0.cycle h.1 in
    (w v.0 z.0 z.1, victims_in t (others v.0 R) ws vs (λ x y e. w x y (and_parts (not (is_same_txn v.0 x)) (R x y) e).1) h.2)

-- ---- who waits

abbrev pub txns : List Wait → List TxnId
txns ws = map (λ (w : Wait). w.txn) ws

in_front : (x : TxnId) (ws : List Wait) (w : Wait) → has_wait x ws ≡ true → is_in x (txns (ws ++ w ∷ [])) ≡ true
in_front x [] w h = absurd (cc (h))
in_front x (v ∷ vs) w h = ⊎_elim
    (λ e. or_left (is_same_txn x v.txn) (is_in x (txns (vs ++ w ∷ []))) e)
    (λ e. or_right (is_same_txn x v.txn) (is_in x (txns (vs ++ w ∷ []))) (in_front x vs w (sym (ap (λ b. b || has_wait x vs) e) ∙ h)))
    (cases_Bool (is_same_txn x v.txn))

at_end : (x : TxnId) (ws : List Wait) (w : Wait) → is_same_txn x w.txn ≡ true → is_in x (txns (ws ++ w ∷ [])) ≡ true
at_end x [] w h = or_left (is_same_txn x w.txn) false h
at_end x (v ∷ vs) w h = or_right (is_same_txn x v.txn) (is_in x (txns (vs ++ w ∷ []))) (at_end x vs w h)

told_some : (y : TxnId) (f : RecordId → List TxnId) (o : Option RecordId) → is_in y (option_map_or f o []) ≡ true → (r : RecordId) × (o ≡ Some r)
told_some y f None h = absurd (cc (h))
told_some y f (Some r) h = (r, refl)

turned : (x y : TxnId) → is_same_txn x y ≡ true → is_same_txn y x ≡ true
turned x y h = subst (λ (z : TxnId). is_same_txn z x ≡ true) (same_is x y h) (same_itself x)

pub all_wait : (l : Lock) (r : RecordId) (locks : LockState) (ws : List Wait) (w : Wait) → w.txn ≡ l.txn → ((t : TxnId) (at : RecordId) → locks.pending t ≡ Some at → has_wait t ws ≡ true) → AreWaiters (txns (ws ++ w ∷ [])) (waits_in l r locks)
all_wait l r locks ws w its told x y h = ⊎_elim
    (λ e. at_end x ws w (subst (λ (t : TxnId). is_same_txn x t ≡ true) (sym its) (turned l.txn x e)))
    (λ e. let k = told_some y (λ at. waited_for x (locks.at at)) (locks.pending x) (sym (cond-false (is_same_txn l.txn x) _ (is_in y (waits_for_in locks x)) e) ∙ h) in in_front x ws w (told x k.0 k.1))
    (cases_Bool (is_same_txn l.txn x))

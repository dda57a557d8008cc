-- Pairs in a sorted set: a look-up is `is_edge`, and the pairs of one waiter are a filter.
use Rattle.std.proofs.Common.{◌≡◌, ℕ, ◌<◌, ◌^◌, ◌-◌, Bool, true, false, cond, ◌||◌, List, [], ◌∷◌, refl, ◌∙◌, arith}
use Rattle.std.specs.declared.cmp.Ordering.{Ordering}
use Rattle.std.specs.Ordering.{ordering_then, is_eq, nat_cmp}
use Rattle.std.specs.List.{list_any, filter, AllByRecursion}
use Rattle.std.specs.BTreeMap.{is_at}
use Rattle.std.specs.BTreeMap.Range.{range_contains}
use Rattle.std.specs.declared.ops.Bound.TheVariants.{Included}
use Rattle.std.proofs.lemmas.Bool.Decides.{nat_tests}
use Rattle.je_order.specs.declared.txn_id.TxnId.{TxnId}
use Rattle.std.specs.declared.cmp.Ordering.TheVariants.{Less}
use Rattle.std.specs.List.Sorted.{IsStrictlySortedBy}
use Rattle.waits_for.specs.Cycles.{is_pair, is_edge, is_from}
use Rattle.waits_for.specs.Walk.{AreRising}

-- the order of pairs of transaction numbers
abbrev pub pair_cmp : TxnId × TxnId → TxnId × TxnId → Ordering
pair_cmp p q = ordering_then (nat_cmp p.0.0 q.0.0) (nat_cmp p.1.0 q.1.0)

abbrev pub txn : ℕ → TxnId
txn n = record { 0 = n }

pub any_same : {X : Type 0} (p q : X → Bool) → ((x : X) → p x ≡ q x) → (xs : List X) → list_any p xs ≡ list_any q xs
any_same p q h [] = refl
any_same p q h (x ∷ xs) = let e = h x in let f = any_same p q h xs in cc

pub filter_same : {X : Type 0} (p q : X → Bool) (P : X → Type 0) → ((x : X) → P x → p x ≡ q x) → (xs : List X) → AllByRecursion P xs → filter p xs ≡ filter q xs
filter_same p q P h [] a = refl
filter_same p q P h (x ∷ xs) a = let e = h x a.0 in let f = filter_same p q P h xs a.1 in cc

pub at_pair : (x y : TxnId) (e : TxnId × TxnId) → is_eq (pair_cmp (x, y) e) ≡ is_pair x y e
at_pair x y e = grind (arith, nat_tests)

pub in_row : (x : TxnId) (e : TxnId × TxnId) → e.1.0 < 2 ^ 64 → range_contains pair_cmp (Included (x, txn 0)) (Included (x, txn (2 ^ 64 - 1))) e ≡ is_from x e
in_row x e h = grind (arith, nat_tests)

pub cond_or : (a b : Bool) → cond a true b ≡ (a || b)
cond_or true b = refl
cond_or false b = refl

pub pair_inserted : (new old : List (TxnId × TxnId)) (x y w o : TxnId) → list_any (is_at (pair_cmp (x, y))) new ≡ cond (is_at (pair_cmp (w, o)) (x, y)) true (list_any (is_at (pair_cmp (x, y))) old)
    → is_edge new x y ≡ (is_pair x y (w, o) || is_edge old x y)
pair_inserted new old x y w o h =
    let a = any_same (is_at (pair_cmp (x, y))) (is_pair x y) (at_pair x y) new in
    let b = any_same (is_at (pair_cmp (x, y))) (is_pair x y) (at_pair x y) old in
    let d : is_at (pair_cmp (w, o)) (x, y) ≡ is_pair x y (w, o) = grind (arith, nat_tests) in
    let e : is_edge new x y ≡ cond (is_pair x y (w, o)) true (is_edge old x y) = cc in
    e ∙ cond_or (is_pair x y (w, o)) (is_edge old x y)

-- the pairs of one waiter rise
up : (x : TxnId) (e f : TxnId × TxnId) → is_from x e ≡ true → pair_cmp e f ≡ Less → is_from x f ≡ true → e.1.0 < f.1.0
up x e f h l k = grind (arith, nat_tests)

above_more : (b : Bool) (n : ℕ) (f : TxnId × TxnId) (row : List (TxnId × TxnId)) → (b ≡ true → n < f.1.0) → AllByRecursion (λ g. n < g.1.0) row → AllByRecursion (λ g. n < g.1.0) (cond b (f ∷ row) row)
above_more true n f row k rest = (k refl, rest)
above_more false n f row k rest = rest

above : (x : TxnId) (e : TxnId × TxnId) (es : List (TxnId × TxnId)) → is_from x e ≡ true → AllByRecursion (λ f. pair_cmp e f ≡ Less) es → AllByRecursion (λ f. e.1.0 < f.1.0) (filter (is_from x) es)
above x e [] h a = tt
above x e (f ∷ es) h a = above_more (is_from x f) e.1.0 f (filter (is_from x) es) (up x e f h a.0) (above x e es h a.1)

rising_more : (b : Bool) (e : TxnId × TxnId) (row : List (TxnId × TxnId)) → (b ≡ true → AllByRecursion (λ f. e.1.0 < f.1.0) row) → AreRising row → AreRising (cond b (e ∷ row) row)
rising_more true e row k rest = (k refl, rest)
rising_more false e row k rest = rest

pub rising_row : (x : TxnId) (es : List (TxnId × TxnId)) → IsStrictlySortedBy pair_cmp es → AreRising (filter (is_from x) es)
unfolding IsStrictlySortedBy
rising_row x [] h = tt
rising_row x (e ∷ es) h = rising_more (is_from x e) e (filter (is_from x) es) (λ k. above x e es k h.0) (rising_row x es h.1)

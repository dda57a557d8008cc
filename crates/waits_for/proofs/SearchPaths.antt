-- Paths of the search, and the cycles that go on from them.
use Rattle.std.proofs.Common.{◌≡◌, ℕ, ◌<◌, Bool, true, false, cond, not, ◌&&◌, ◌||◌, List, [], ◌∷◌, ◌++◌, reverse, append_assoc, refl, ap, ap₂, sym, ◌∙◌, subst, ◌⊎◌, ⊎_elim}
use Rattle.std.specs.List.{list_any, AllByRecursion}
use Rattle.std.proofs.lemmas.List.{append-nil}
use Rattle.std.proofs.lemmas.List.Folds.{list_any-append}
use Rattle.std.proofs.lemmas.Bool.{cases_Bool, cond-true, cond-false, and_parts, and_from, or_left, or_right, or_cases, or_from, or_parts, both_ways, false≢true}
use Rattle.je_order.specs.declared.txn_id.TxnId.{TxnId}
use Rattle.je_order.specs.Transactions.{is_same_txn}
use Rattle.je_order.proofs.TxnIds.{same_is, same_itself, same_either}
use Rattle.je_order.proofs.Lists.{all_weaker}
use Rattle.waits_for.specs.Cycles.{is_pair, is_edge, is_in, leads_to, closes, names_each_once, comes_first, begins_with}
use Rattle.waits_for.specs.Walk.{IsPath, back_to, AreAhead}
use Rattle.waits_for.proofs.EdgeLists.{pair_is, reverse_cons, any_reverse}
use Rattle.waits_for.proofs.ListOrder.{front_first}

-- ---- lists

pub heads : (x y : TxnId) (xs ys : List TxnId) → x ∷ xs ≡ y ∷ ys → x ≡ y
heads x y xs ys e = cc

pub tails : (x y : TxnId) (xs ys : List TxnId) → x ∷ xs ≡ y ∷ ys → xs ≡ ys
tails x y xs ys e = cc

pub not_empty : (p : List TxnId) (z : TxnId) (s : List TxnId) → [] ≡ p ++ z ∷ s → ⊥
not_empty [] z s e = absurd (cc (e))
not_empty (b ∷ p) z s e = absurd (cc (e))

-- a list with one more behind it that goes on from another
pub split_last : (other p : List TxnId) (f z : TxnId) (s : List TxnId) → other ++ f ∷ [] ≡ p ++ z ∷ s → (r : List TxnId) × (z ∷ s ≡ r ++ f ∷ []) × (other ≡ p ++ r)
split_last other [] f z s e = (other, sym e, refl)
split_last [] (a ∷ p) f z s e = absurd (not_empty p z s (tails f a [] (p ++ z ∷ s) e))
split_last (o ∷ os) (a ∷ p) f z s e =
    let r = split_last os p f z s (tails o a (os ++ f ∷ []) (p ++ z ∷ s) e) in
    (r.0, r.1, ap₂ (λ (x : TxnId) (l : List TxnId). x ∷ l) (heads o a (os ++ f ∷ []) (p ++ z ∷ s) e) r.2)

-- ---- named once

in_append : (x : TxnId) (xs ys : List TxnId) → is_in x (xs ++ ys) ≡ (is_in x xs || is_in x ys)
in_append x xs ys = list_any-append (is_same_txn x) xs ys

once_append : (xs : List TxnId) (x : TxnId) → names_each_once xs ≡ true → is_in x xs ≡ false → names_each_once (xs ++ x ∷ []) ≡ true
once_append [] x h n = refl
once_append (y ∷ xs) x h n =
    let k = and_parts (not (is_in y xs)) (names_each_once xs) h in
    let o = or_parts (is_same_txn x y) (is_in x xs) n in
    and_from (not (is_in y (xs ++ x ∷ []))) (names_each_once (xs ++ x ∷ []))
    (ap not (in_append y xs (x ∷ []) ∙ or_from (is_in y xs) (is_in y (x ∷ [])) (not_true (is_in y xs) k.0) (or_from (is_same_txn y x) false (same_either y x ∙ o.0) refl)))
    (once_append xs x k.1 o.1)
  where
    not_true : (b : Bool) → not b ≡ true → b ≡ false
    not_true true e = absurd (cc (e))
    not_true false e = refl

pub path_once : (edges : List (TxnId × TxnId)) (from : TxnId) (ps : List TxnId) → IsPath edges from ps → names_each_once (reverse ps) ≡ true
path_once edges from [] h = absurd h
path_once edges from (x ∷ []) h = refl
path_once edges from (x ∷ (w ∷ ws)) h =
    subst (λ (l : List TxnId). names_each_once l ≡ true) (sym (reverse_cons x (w ∷ ws)))
    (once_append (reverse (w ∷ ws)) x (path_once edges from (w ∷ ws) h.2) (any_reverse (is_same_txn x) (w ∷ ws) ∙ h.1))

-- what comes behind a list is none of it
absent : (a : TxnId) (r : List TxnId) → is_in a r ≡ false → AllByRecursion (λ u. is_same_txn u a ≡ false) r
absent a [] h = tt
absent a (x ∷ r) h = let o = or_parts (is_same_txn a x) (is_in a r) h in (same_either x a ∙ o.0, absent a r o.1)

joined : (a : TxnId) (p r : List TxnId) → AllByRecursion (λ u. is_same_txn u a ≡ false) r → AllByRecursion (λ u. is_in u p ≡ false) r → AllByRecursion (λ u. is_in u (a ∷ p) ≡ false) r
joined a p [] h k = tt
joined a p (x ∷ r) h k = (or_from (is_same_txn x a) (is_in x p) h.0 k.0, joined a p r h.1 k.1)

in_none : (r : List TxnId) → AllByRecursion (λ u. is_in u [] ≡ false) r
in_none [] = tt
in_none (x ∷ r) = (refl, in_none r)

pub once_apart : (p r : List TxnId) → names_each_once (p ++ r) ≡ true → AllByRecursion (λ u. is_in u p ≡ false) r
once_apart [] r h = in_none r
once_apart (a ∷ p) r h =
    let k = and_parts (not (is_in a (p ++ r))) (names_each_once (p ++ r)) h in
    joined a p r (absent a r (or_parts (is_in a p) (is_in a r) (sym (in_append a p r) ∙ not_true (is_in a (p ++ r)) k.0)).1) (once_apart p r k.1)
  where
    not_true : (b : Bool) → not b ≡ true → b ≡ false
    not_true true e = absurd (cc (e))
    not_true false e = refl

-- ---- each leads to the next

abbrev pub is_chain : List (TxnId × TxnId) → List TxnId → Bool
is_chain edges [] = true
is_chain edges (x ∷ []) = true
is_chain edges (x ∷ (y ∷ ys)) = is_edge edges x y && is_chain edges (y ∷ ys)

pub leads_chain : (edges : List (TxnId × TxnId)) (first x : TxnId) (ys : List TxnId) → leads_to edges first x ys ≡ true → is_chain edges (x ∷ (ys ++ first ∷ [])) ≡ true
leads_chain edges first x [] l = and_from (is_edge edges x first) true l refl
leads_chain edges first x (y ∷ ys) l =
    let p = and_parts (is_edge edges x y) (leads_to edges first y ys) l in
    and_from (is_edge edges x y) (is_chain edges (y ∷ (ys ++ first ∷ []))) p.0 (leads_chain edges first y ys p.1)

pub chain_back : (edges : List (TxnId × TxnId)) (as_ bs : List TxnId) → is_chain edges (as_ ++ bs) ≡ true → is_chain edges bs ≡ true
chain_back edges [] bs h = h
chain_back edges (a ∷ []) [] h = refl
chain_back edges (a ∷ []) (b ∷ bs) h = (and_parts (is_edge edges a b) (is_chain edges (b ∷ bs)) h).1
chain_back edges (a ∷ (c ∷ as_)) bs h = chain_back edges (c ∷ as_) bs (and_parts (is_edge edges a c) (is_chain edges (c ∷ (as_ ++ bs))) h).1

-- a path whose end leads to the first is a cycle
closes_on : (edges : List (TxnId × TxnId)) (from x : TxnId) (ps acc : List TxnId) → IsPath edges from (x ∷ ps) → leads_to edges from x acc ≡ true → closes edges (reverse (x ∷ ps) ++ acc) ≡ true
closes_on edges from x [] acc h l = subst (λ (t : TxnId). leads_to edges t x acc ≡ true) (sym (same_is x from h)) l
closes_on edges from x (w ∷ ws) acc h l =
    subst (λ (t : List TxnId). closes edges t ≡ true) (sym (ap (λ (t : List TxnId). t ++ acc) (reverse_cons x (w ∷ ws)) ∙ append_assoc (reverse (w ∷ ws)) (x ∷ []) acc))
    (closes_on edges from w ws (x ∷ acc) h.2 (and_from (is_edge edges w x) (leads_to edges from x acc) h.0 l))

pub path_closes : (edges : List (TxnId × TxnId)) (from x : TxnId) (ps : List TxnId) → IsPath edges from ps → begins_with x ps ≡ true → is_edge edges x from ≡ true → closes edges (reverse ps) ≡ true
path_closes edges from x [] h b e = absurd h
path_closes edges from x (p ∷ ps) h b e =
    subst (λ (t : List TxnId). closes edges t ≡ true) (append-nil (reverse (p ∷ ps)))
    (closes_on edges from p ps [] h (subst (λ (t : TxnId). is_edge edges t from ≡ true) (same_is x p b) e))

-- ---- paths

pub path_start : (edges : List (TxnId × TxnId)) (from : TxnId) (ps : List TxnId) → IsPath edges from ps → is_in from ps ≡ true
path_start edges from [] h = absurd h
path_start edges from (x ∷ []) h = or_left (is_same_txn from x) false (same_either from x ∙ h)
path_start edges from (x ∷ (w ∷ ws)) h = or_right (is_same_txn from x) (is_in from (w ∷ ws)) (path_start edges from (w ∷ ws) h.2)

begins_more : (t x : TxnId) (xs : List TxnId) → begins_with t xs ≡ true → begins_with t (xs ++ x ∷ []) ≡ true
begins_more t x [] h = absurd (false≢true h)
begins_more t x (y ∷ xs) h = h

pub path_begins : (edges : List (TxnId × TxnId)) (from : TxnId) (ps : List TxnId) → IsPath edges from ps → begins_with from (reverse ps) ≡ true
path_begins edges from [] h = absurd h
path_begins edges from (x ∷ []) h = same_either from x ∙ h
path_begins edges from (x ∷ (w ∷ ws)) h =
    subst (λ (l : List TxnId). begins_with from l ≡ true) (sym (reverse_cons x (w ∷ ws))) (begins_more from x (reverse (w ∷ ws)) (path_begins edges from (w ∷ ws) h.2))

pub begins_in : (x : TxnId) (ps : List TxnId) → begins_with x ps ≡ true → is_in x ps ≡ true
begins_in x [] h = absurd (false≢true h)
begins_in x (p ∷ ps) h = or_left (is_same_txn x p) (is_in x ps) h

-- ---- back along a path

pub in_back : (u x : TxnId) (ps : List TxnId) → is_in u (back_to x ps) ≡ true → is_in u ps ≡ true
in_back u x [] h = h
in_back u x (p ∷ ps) h = ⊎_elim
    (λ e. sym (ap (is_in u) (cond-true (is_same_txn x p) (p ∷ ps) (back_to x ps) e)) ∙ h)
    (λ e. or_right (is_same_txn u p) (is_in u ps) (in_back u x ps (sym (ap (is_in u) (cond-false (is_same_txn x p) (p ∷ ps) (back_to x ps) e)) ∙ h)))
    (cases_Bool (is_same_txn x p))

pub begins_back : (x : TxnId) (ps : List TxnId) → is_in x ps ≡ true → begins_with x (back_to x ps) ≡ true
begins_back x [] h = absurd (false≢true h)
begins_back x (p ∷ ps) h = ⊎_elim
    (λ e. ap (begins_with x) (cond-true (is_same_txn x p) (p ∷ ps) (back_to x ps) e) ∙ e)
    (λ e. ap (begins_with x) (cond-false (is_same_txn x p) (p ∷ ps) (back_to x ps) e) ∙ begins_back x ps (⊎_elim (λ k. absurd (both_ways (is_same_txn x p) e k)) (λ k. k) (or_cases (is_same_txn x p) (is_in x ps) h)))
    (cases_Bool (is_same_txn x p))

pub path_back : (edges : List (TxnId × TxnId)) (from x : TxnId) (ps : List TxnId) → is_in x ps ≡ true → IsPath edges from ps → IsPath edges from (back_to x ps)
path_back edges from x [] m h = absurd h
path_back edges from x (p ∷ []) m h = ⊎_elim
    (λ e. subst (IsPath edges from) (sym (cond-true (is_same_txn x p) (p ∷ []) [] e)) h)
    (λ e. absurd (both_ways (is_same_txn x p) e (⊎_elim (λ k. k) (λ k. absurd (false≢true k)) (or_cases (is_same_txn x p) false m))))
    (cases_Bool (is_same_txn x p))
path_back edges from x (p ∷ (w ∷ ws)) m h = ⊎_elim
    (λ e. subst (IsPath edges from) (sym (cond-true (is_same_txn x p) (p ∷ (w ∷ ws)) (back_to x (w ∷ ws)) e)) h)
    (λ e. subst (IsPath edges from) (sym (cond-false (is_same_txn x p) (p ∷ (w ∷ ws)) (back_to x (w ∷ ws)) e))
    (path_back edges from x (w ∷ ws) (⊎_elim (λ k. absurd (both_ways (is_same_txn x p) e k)) (λ k. k) (or_cases (is_same_txn x p) (is_in x (w ∷ ws)) m)) h.2))
    (cases_Bool (is_same_txn x p))

pub first_back : (x : TxnId) (ps l : List TxnId) → comes_first (reverse ps) l ≡ true → comes_first (reverse (back_to x ps)) l ≡ true
first_back x [] l h = h
first_back x (p ∷ ps) l h = ⊎_elim
    (λ e. ap (λ (t : List TxnId). comes_first (reverse t) l) (cond-true (is_same_txn x p) (p ∷ ps) (back_to x ps) e) ∙ h)
    (λ e. ap (λ (t : List TxnId). comes_first (reverse t) l) (cond-false (is_same_txn x p) (p ∷ ps) (back_to x ps) e)
    ∙ first_back x ps l (front_first (reverse ps) (p ∷ []) l (subst (λ (t : List TxnId). comes_first t l ≡ true) (reverse_cons p ps) h)))
    (cases_Bool (is_same_txn x p))

-- ---- edges ahead

pub ahead_each : (ps : List TxnId) (todo : List (TxnId × TxnId)) → AreAhead ps todo → AllByRecursion (λ f. is_in f.0 ps ≡ true) todo
ahead_each ps [] h = tt
ahead_each ps (e ∷ es) h = (h.0, all_weaker (λ f. is_in f.0 (back_to e.0 ps) ≡ true) (λ f. is_in f.0 ps ≡ true) (λ f k. in_back f.0 e.0 ps k) es (ahead_each (back_to e.0 ps) es h.2))

any_each : (P : TxnId → TxnId → Type 0) (todo : List (TxnId × TxnId)) (a b : TxnId) → AllByRecursion (λ f. P f.0 f.1) todo → list_any (is_pair a b) todo ≡ true → P a b
any_each P [] a b h m = absurd (false≢true m)
any_each P (e ∷ es) a b h m = ⊎_elim
    (λ k. let p = pair_is a b e k in subst (λ (t : TxnId). P t b) (sym p.0) (subst (P e.0) (sym p.1) h.0))
    (λ k. any_each P es a b h.1 k)
    (or_cases (is_pair a b e) (list_any (is_pair a b) es) m)

pub ahead_in : (ps : List TxnId) (todo : List (TxnId × TxnId)) (a b : TxnId) → AreAhead ps todo → list_any (is_pair a b) todo ≡ true → is_in a ps ≡ true
ahead_in ps todo a b h m = any_each (λ u v. is_in u ps ≡ true) todo a b (ahead_each ps todo h) m

pub above_in : (x : TxnId) (n : ℕ) (todo : List (TxnId × TxnId)) (z : TxnId) → AllByRecursion (λ f. is_same_txn x f.0 ≡ true → n < f.1.0) todo → list_any (is_pair x z) todo ≡ true → n < z.0
above_in x n todo z h m = any_each (λ u v. is_same_txn x u ≡ true → n < v.0) todo x z h m (same_itself x)

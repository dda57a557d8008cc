-- How the search ends: with the first cycle along its path, or with no edge left and so no cycle.
use Rattle.std.proofs.Common.{◌≡◌, ℕ, ◌-◌, ◌++◌, take, ◌<◌, Bool, true, false, not, ◌&&◌, ◌||◌, nat_lt, List, [], ◌∷◌, reverse, append_assoc, refl, ap, sym, ◌∙◌, subst, ◌⊎◌, ⊎_elim, arith}
use Rattle.std.specs.List.{list_any, AllByRecursion}
use Rattle.std.proofs.lemmas.List.{append-nil}
use Rattle.std.proofs.lemmas.List.Folds.{list_any-append}
use Rattle.std.proofs.lemmas.Bool.{cases_Bool, and_from, and_parts, or_cases, or_from, or_left, or_right, both_ways, false_from_ne_true, false≢true, ltb-true}
use Rattle.std.proofs.lemmas.Bool.Decides.{nat_tests}
use Rattle.je_order.specs.declared.txn_id.TxnId.{TxnId}
use Rattle.waits_for.specs.Cycles.{is_pair, is_edge, is_in, leads_to, closes, is_cycle, names_each_once, comes_first, begins_with, IsFirstCycle}
use Rattle.je_order.specs.Transactions.{is_same_txn}
use Rattle.waits_for.specs.Walk.{IsPath, NoneBefore, IsWalk, IsAtEdge}
use Rattle.je_order.proofs.TxnIds.{same_is, same_itself, same_either}
use Rattle.je_order.proofs.Lists.{all_weaker}
use Rattle.waits_for.proofs.EdgeLists.{pair_is, reverse_cons, any_reverse}
use Rattle.waits_for.proofs.ListOrder.{split_first, after_same}
use Rattle.waits_for.proofs.SearchPaths.{heads, tails, not_empty, split_last, path_once, once_apart, is_chain, leads_chain, chain_back, path_closes, path_start, path_begins, begins_in, ahead_in, above_in}

-- a set of transactions that no edge leaves, and from which no edge leads to the first one
pub record IsClosed (edges : List (TxnId × TxnId)) (from : TxnId) (S : TxnId → Bool) : Type 0 where
  pub start : S from ≡ true
  pub stays : (x y : TxnId) → is_edge edges x y ≡ true → S x ≡ true → S y ≡ true
  pub never : (x y : TxnId) → is_edge edges x y ≡ true → S x ≡ true → is_same_txn y from ≡ false

pub closed_walk : (edges : List (TxnId × TxnId)) (from : TxnId) (S : TxnId → Bool) (ps : List TxnId) → IsWalk edges from S ps [] → IsClosed edges from S
closed_walk edges from S ps w = record {
  start = w.seen from (path_start edges from ps w.path);
  stays = λ x y e h. ⊎_elim (λ m. absurd (false≢true m)) (λ m. m.0) (w.closed x y e h);
  never = λ x y e h. ⊎_elim (λ m. absurd (false≢true m)) (λ m. m.1) (w.closed x y e h);
}

-- from inside the set on, the first is never met again
pub along : (edges : List (TxnId × TxnId)) (from : TxnId) (S : TxnId → Bool) → IsClosed edges from S → (first x : TxnId) (ys : List TxnId) → leads_to edges first x ys ≡ true → S x ≡ true
    → (S first ≡ true) × (is_same_txn first from ≡ false) × (is_in from ys ≡ false)
along edges from S c first x [] l h = (c.stays x first l h, c.never x first l h, refl)
along edges from S c first x (y ∷ ys) l h =
    let p = and_parts (is_edge edges x y) (leads_to edges first y ys) l in
    let r = along edges from S c first y ys p.1 (c.stays x y p.0 h) in
    (r.0, r.1, or_from (is_same_txn from y) (is_in from ys) (same_either from y ∙ c.never x y p.0 h) r.2)

-- where the first is met, the way goes on inside the set
pub through : (edges : List (TxnId × TxnId)) (from : TxnId) (S : TxnId → Bool) → IsClosed edges from S → (first x : TxnId) (ys : List TxnId) → leads_to edges first x ys ≡ true → is_in from ys ≡ true → S first ≡ true
through edges from S c first x [] l m = absurd (false≢true m)
through edges from S c first x (y ∷ ys) l m =
    let p = and_parts (is_edge edges x y) (leads_to edges first y ys) l in
    ⊎_elim (λ i. (along edges from S c first y ys p.1 (rw (← same_is from y i) c.start)).0) (λ i. through edges from S c first y ys p.1 i) (or_cases (is_same_txn from y) (is_in from ys) m)

pub no_cycle : (edges : List (TxnId × TxnId)) (from : TxnId) (S : TxnId → Bool) → IsClosed edges from S → (list : List TxnId) → closes edges list ≡ true → is_in from list ≡ false
no_cycle edges from S c [] h = refl
no_cycle edges from S c (x ∷ xs) h = false_from_ne_true (is_in from (x ∷ xs)) (λ m. met (or_cases (is_same_txn from x) (is_in from xs) m))
  where
    met : ((is_same_txn from x ≡ true) ⊎ (is_in from xs ≡ true)) → ⊥
    met = ⊎_elim (λ i. let r = along edges from S c x x xs h (rw (← same_is from x i) c.start) in both_ways (is_same_txn x from) r.1 (sym (same_either from x) ∙ i))
        (λ i. let s = through edges from S c x x xs h i in both_ways (is_in from xs) (along edges from S c x x xs h s).2 i)

pub none_left : (edges : List (TxnId × TxnId)) (from : TxnId) (S : TxnId → Bool) (ps : List TxnId) → IsWalk edges from S ps [] → (list : List TxnId) → closes edges list ≡ true → is_in from list ≡ false
none_left edges from S ps w list h = no_cycle edges from S (closed_walk edges from S ps w) list h

-- an empty vector: nothing was popped
pub nothing_popped : {X : Type 0} (xs ys : List X) (n : ℕ) → xs ≡ ys ++ [] → ys ≡ take (n - 1) xs → n ≡ 0 → xs ≡ []
nothing_popped xs ys n a b e = let d : ys ≡ [] = rw e at b in a ∙ rw d refl

-- ---- no cycle comes before the path and the edge that is followed

-- a list with its first one once more behind it names it twice
twice : (from : TxnId) (other : List TxnId) → begins_with from other ≡ true → names_each_once (other ++ from ∷ []) ≡ true → ⊥
twice from [] b h = absurd (false≢true b)
twice from (o ∷ os) b h = both_ways (is_in o (os ++ from ∷ [])) (not_true (is_in o (os ++ from ∷ [])) (and_parts (not (is_in o (os ++ from ∷ []))) (names_each_once (os ++ from ∷ [])) h).0)
    (list_any-append (is_same_txn o) os (from ∷ []) ∙ or_right (is_in o os) (is_in o (from ∷ [])) (or_left (is_same_txn o from) false (same_either o from ∙ b)))
  where
    not_true : (b : Bool) → not b ≡ true → b ≡ false
    not_true true e = absurd (cc (e))
    not_true false e = refl

-- a cycle, closed by its first one, leads along
whole : (edges : List (TxnId × TxnId)) (from : TxnId) (other : List TxnId) → is_cycle edges other ≡ true → begins_with from other ≡ true → is_chain edges (other ++ from ∷ []) ≡ true
whole edges from [] c b = absurd (false≢true b)
whole edges from (o ∷ os) c b =
    subst (λ (t : TxnId). is_chain edges (o ∷ (os ++ t ∷ [])) ≡ true) (sym (same_is from o b))
    (leads_chain edges o o os (and_parts (closes edges (o ∷ os)) (names_each_once (o ∷ os)) c).0)

not_less : (y z : TxnId) (s : List TxnId) → nat_lt z.0 y.0 ≡ false → comes_first (y ∷ []) (z ∷ s) ≡ true
not_less y z s h = grind (arith, nat_tests)

module _ (edges : List (TxnId × TxnId)) (from : TxnId) (S : TxnId → Bool) (ps : List TxnId) (todo : List (TxnId × TxnId)) (x y : TxnId) (t : IsAtEdge edges from S ps todo x y) where
  -- from one that was left for good
  out : (u w : TxnId) → S u ≡ true → is_in u ps ≡ false → is_edge edges u w ≡ true → (S w ≡ true) × (is_same_txn w from ≡ false)
  out u w su n e = ⊎_elim
      (λ k. absurd (both_ways (is_in u ps) n (subst (λ (q : TxnId). is_in q ps ≡ true) (sym (pair_is u w (x, y) k).0) (begins_in x ps t.last))))
      (λ k. ⊎_elim (λ m. absurd (both_ways (is_in u ps) n (ahead_in ps todo u w t.ahead m))) (λ m. m) k)
      (t.closed u w e su)

  -- no way leads to the first but over the path
  stuck : (r : List TxnId) (z : TxnId) (s : List TxnId) → z ∷ s ≡ r ++ from ∷ [] → S z ≡ true → is_same_txn z from ≡ false → AllByRecursion (λ u. is_in u ps ≡ false) r → is_chain edges (z ∷ s) ≡ true → ⊥
  stuck [] z s e sz n a c = both_ways (is_same_txn z from) n (subst (λ (q : TxnId). is_same_txn z q ≡ true) (heads z from s [] e) (same_itself z))
  stuck (q ∷ r) z [] e sz n a c = not_empty r from [] (tails z q [] (r ++ from ∷ []) e)
  stuck (q ∷ r) z (w ∷ s) e sz n a c =
      let k = and_parts (is_edge edges z w) (is_chain edges (w ∷ s)) c in
      let o = out z w sz (subst (λ (u : TxnId). is_in u ps ≡ false) (sym (heads z q (w ∷ s) (r ++ from ∷ []) e)) a.0) k.0 in
      stuck r w s (tails z q (w ∷ s) (r ++ from ∷ []) e) o.0 o.1 a.1 k.1

  -- the edge to where a cycle goes on from the path
  goes_on : (qs : List TxnId) (l : List TxnId) (z : TxnId) (s : List TxnId) → begins_with x qs ≡ true → is_chain edges l ≡ true → l ≡ reverse qs ++ z ∷ s → (is_edge edges x z ≡ true) × (is_chain edges (z ∷ s) ≡ true)
  goes_on [] l z s b c e = absurd (false≢true b)
  goes_on (q ∷ qs) l z s b c e =
      let is : l ≡ reverse qs ++ (q ∷ (z ∷ s)) = e ∙ (ap (λ (p : List TxnId). p ++ z ∷ s) (reverse_cons q qs) ∙ append_assoc (reverse qs) (q ∷ []) (z ∷ s)) in
      let k = and_parts (is_edge edges q z) (is_chain edges (z ∷ s)) (chain_back edges (reverse qs) (q ∷ (z ∷ s)) (subst (λ (p : List TxnId). is_chain edges p ≡ true) is c)) in
      (subst (λ (u : TxnId). is_edge edges u z ≡ true) (sym (same_is x q b)) k.0, k.1)

  -- it does not go on to a lesser one
  not_before : (other : List TxnId) (z : TxnId) (s : List TxnId) → is_cycle edges other ≡ true → begins_with from other ≡ true → other ++ from ∷ [] ≡ reverse ps ++ z ∷ s → z.0 < y.0 → ⊥
  not_before other z s c b e below =
      let g = goes_on ps (other ++ from ∷ []) z s t.last (whole edges from other c b) e in
      ⊎_elim
      (λ k. let same = ap (λ (q : TxnId). q.0) (pair_is x z (x, y) k).1 in omega (arith, same, below))
      (λ k. ⊎_elim
      (λ m. let up = above_in x y.0 todo z t.above m in omega (arith, up, below))
      (λ m. let r = split_last other (reverse ps) from z s e in
      stuck r.0 z s r.1 m.0 m.1
      (all_weaker (λ u. is_in u (reverse ps) ≡ false) (λ u. is_in u ps ≡ false) (λ u n. sym (any_reverse (is_same_txn u) ps) ∙ n) r.0
      (once_apart (reverse ps) r.0 (subst (λ (l : List TxnId). names_each_once l ≡ true) r.2 (and_parts (closes edges other) (names_each_once other) c).1)))
      g.1)
      k)
      (t.closed x z g.0 (t.seen x (begins_in x ps t.last)))

  pub first_more : NoneBefore edges from (reverse ps ++ y ∷ [])
  first_more other c b = ⊎_elim (λ f. f (y ∷ [])) (λ f. by f.0 f.1) (split_first (reverse ps) (other ++ from ∷ []) (t.first other c b))
    where
      by : (s : List TxnId) → other ++ from ∷ [] ≡ reverse ps ++ s → comes_first (reverse ps ++ y ∷ []) (other ++ from ∷ []) ≡ true
      by [] e = absurd (twice from other b (subst (λ (l : List TxnId). names_each_once l ≡ true) (sym (e ∙ append-nil (reverse ps))) (path_once edges from ps t.path)))
      by (z ∷ s) e = subst (λ (l : List TxnId). comes_first (reverse ps ++ y ∷ []) l ≡ true) (sym e) (after_same (reverse ps) (y ∷ []) (z ∷ s) (⊎_elim
          (λ k. absurd (not_before other z s c b e (ltb-true z.0 y.0 k)))
          (λ k. not_less y z s k)
          (cases_Bool (nat_lt z.0 y.0))))

  -- the path is the first cycle, where the edge leads to its beginning
  pub first_found : is_same_txn y from ≡ true → IsFirstCycle (is_edge edges) from (reverse ps)
  first_found is =
      let same : y ≡ from = same_is y from is in
      record {
        cycle = and_from (closes edges (reverse ps)) (names_each_once (reverse ps)) (path_closes edges from x ps t.path t.last (subst (λ (q : TxnId). is_edge edges x q ≡ true) same t.edge)) (path_once edges from ps t.path);
        from = path_begins edges from ps t.path;
        first = λ other c b. subst (λ (q : TxnId). comes_first (reverse ps ++ q ∷ []) (other ++ from ∷ []) ≡ true) same (first_more other c b);
      }

-- The search that fills the edges.
use Rattle.std.proofs.Common.{◌≡◌, ℕ, ◌+◌, ◌≤◌, ◌<◌, Bool, true, false, cond, not, ◌&&◌, ◌||◌, List, [], ◌∷◌, ◌++◌, length, Some, None, Option, refl, ap, sym, ◌∙◌, subst, ◌⊎◌, inl, inr, ⊎_elim, arith}
use Rattle.std.specs.Option.{option_map_or}
use Rattle.std.specs.Ordering.{is_eq, nat_cmp}
use Rattle.std.specs.BTreeSet.{BTreeSet}
use Rattle.std.proofs.lemmas.List.Folds.{list_any-append}
use Rattle.std.proofs.lemmas.Bool.{both_ways, cases_Bool, cond-true, cond-false, or_cases, or_left, or_right, and_from, and_parts, false≢true}
use Rattle.je_order.specs.declared.txn_id.TxnId.{TxnId}
use Rattle.waits_for.specs.Cycles.{is_in, is_edge, is_from, is_pair, edges_without}
use Rattle.je_order.specs.Transactions.{is_same_txn}
use Rattle.je_order.proofs.TxnIds.{same_is, same_either, at_same}
use Rattle.lock_table.specs.declared.record_id.RecordId.{RecordId}
use Rattle.lock_table.specs.Table.{Locks, at_txn, pending_at, waits_for}
use Rattle.lock_mgr.specs.Deadlock.{waits, others}
use Rattle.lock_mgr.specs.Reach.{IsReach, IsFilling, is_reached, weight}

-- one more was seen
abbrev pub IsSeenToo : BTreeSet TxnId → BTreeSet TxnId → TxnId → Type 0
IsSeenToo old new x = (q : TxnId) → is_reached new q ≡ cond (is_eq (nat_cmp x.0 q.0)) true (is_reached old q)

seen_here : (old new : BTreeSet TxnId) (x : TxnId) → IsSeenToo old new x → (q : TxnId) → is_same_txn x q ≡ true → is_reached new q ≡ true
seen_here old new x s q h = s q ∙ ap (λ b. cond b true (is_reached old q)) (at_same x q ∙ h)

seen_there : (old new : BTreeSet TxnId) (x : TxnId) → IsSeenToo old new x → (q : TxnId) → is_same_txn x q ≡ false → is_reached new q ≡ is_reached old q
seen_there old new x s q h = s q ∙ ap (λ b. cond b true (is_reached old q)) (at_same x q ∙ h)

seen_still : (old new : BTreeSet TxnId) (x : TxnId) → IsSeenToo old new x → (q : TxnId) → is_reached old q ≡ true → is_reached new q ≡ true
seen_still old new x s q h = ⊎_elim (seen_here old new x s q) (λ e. seen_there old new x s q e ∙ h) (cases_Bool (is_same_txn x q))

-- what was to be looked at is seen, or still to be looked at
moved : (x y : TxnId) (seen : Bool) (todo : List TxnId) → (is_same_txn x y ≡ true → seen ≡ true) → is_in y (todo ++ (x ∷ [])) ≡ true → (seen ≡ true) ⊎ (is_in y todo ≡ true)
moved x y seen todo k h = ⊎_elim inr (λ e. inl (⊎_elim (λ i. k (same_either x y ∙ i)) (λ i. absurd (false≢true i)) (or_cases (is_same_txn y x) false e))) (or_cases (is_in y todo) (is_in y (x ∷ [])) (sym (list_any-append (is_same_txn y) todo (x ∷ [])) ∙ h))

pub known : (R : TxnId → TxnId → Bool) (t x : TxnId) (edges : List (TxnId × TxnId)) (seen : BTreeSet TxnId) (todo : List TxnId) → IsFilling R t edges seen (todo ++ (x ∷ [])) → is_reached seen x ≡ true → IsFilling R t edges seen todo
known R t x edges seen todo f k = record {
  real = f.real;
  start = ⊎_elim inl (moved x t (is_reached seen t) todo (λ e. subst (λ (u : TxnId). is_reached seen u ≡ true) (same_is x t e) k)) f.start;
  edge = f.edge;
  stays = λ a b h r. ⊎_elim inl (moved x b (is_reached seen b) todo (λ e. subst (λ (u : TxnId). is_reached seen u ≡ true) (same_is x b e) k)) (f.stays a b h r);
}

pub followed : (v : Locks) (t x : TxnId) (edges edges2 : List (TxnId × TxnId)) (seen seen2 : BTreeSet TxnId) (todo : List TxnId)
    → IsFilling (waits v) t edges seen (todo ++ (x ∷ [])) → IsSeenToo seen seen2 x
    → ((a b : TxnId) → is_edge edges2 a b ≡ ((is_same_txn a x && is_in b (waits_for x v)) || is_edge edges a b)) → IsFilling (waits v) t edges2 seen2 (todo ++ waits_for x v)
followed v t x edges edges2 seen seen2 todo f s e = record {
  real = λ a b h. ⊎_elim (λ i. let p = and_parts (is_same_txn a x) (is_in b (waits_for x v)) i in subst (λ (u : TxnId). waits v u b ≡ true) (sym (same_is a x p.0)) p.1) (λ i. f.real a b i) (or_cases (is_same_txn a x && is_in b (waits_for x v)) (is_edge edges a b) (sym (e a b) ∙ h));
  start = ⊎_elim (λ h. inl (still t h)) (λ h. more t (moved x t (is_reached seen2 t) todo (seen_here seen seen2 x s t) h)) f.start;
  edge = λ a b h r. ⊎_elim
      (λ i. e a b ∙ or_left (is_same_txn a x && is_in b (waits_for x v)) (is_edge edges a b) (and_from (is_same_txn a x) (is_in b (waits_for x v)) (same_either a x ∙ i) (subst (λ (u : TxnId). waits v u b ≡ true) (sym (same_is x a i)) r)))
      (λ i. e a b ∙ or_right (is_same_txn a x && is_in b (waits_for x v)) (is_edge edges a b) (f.edge a b (sym (seen_there seen seen2 x s a i) ∙ h) r))
      (cases_Bool (is_same_txn x a));
  stays = λ a b h r. ⊎_elim
      (λ i. inr (list_any-append (is_same_txn b) todo (waits_for x v) ∙ or_right (is_in b todo) (is_in b (waits_for x v)) (subst (λ (u : TxnId). waits v u b ≡ true) (sym (same_is x a i)) r)))
      (λ i. ⊎_elim (λ j. inl (still b j)) (λ j. more b (moved x b (is_reached seen2 b) todo (seen_here seen seen2 x s b) j)) (f.stays a b (sym (seen_there seen seen2 x s a i) ∙ h) r))
      (cases_Bool (is_same_txn x a));
}
  where
    still : (q : TxnId) → is_reached seen q ≡ true → is_reached seen2 q ≡ true
    still = seen_still seen seen2 x s

    more : (q : TxnId) → (is_reached seen2 q ≡ true) ⊎ (is_in q todo ≡ true) → (is_reached seen2 q ≡ true) ⊎ (is_in q (todo ++ waits_for x v) ≡ true)
    more q = ⊎_elim inl (λ j. inr (list_any-append (is_same_txn q) todo (waits_for x v) ∙ or_left (is_in q todo) (is_in q (waits_for x v)) j))

pub filled : (R : TxnId → TxnId → Bool) (t : TxnId) (edges : List (TxnId × TxnId)) (seen : BTreeSet TxnId) → IsFilling R t edges seen [] → IsReach R (is_edge edges) t
filled R t edges seen f = record {
  real = f.real;
  inside = is_reached seen;
  start = ⊎_elim (λ h. h) (λ h. absurd (false≢true h)) f.start;
  stays = λ x y h r. ⊎_elim (λ i. i) (λ i. absurd (false≢true i)) (f.stays x y h r);
  edge = f.edge;
}

-- ---- the search ends
less_head : (a b : Bool) (n : ℕ) → (a ≡ true → b ≡ true) → cond b 0 n ≤ cond a 0 n
less_head true b n k = rw (k refl) (omega arith)
less_head false true n k = omega arith
less_head false false n k = omega arith

weight_less : (v : Locks) (old new : BTreeSet TxnId) (x : TxnId) → IsSeenToo old new x → (es : List (TxnId × RecordId)) → weight v new es ≤ weight v old es
weight_less v old new x s [] = omega arith
weight_less v old new x s (e ∷ es) = let a = less_head (is_reached old e.0) (is_reached new e.0) (length (waits_for e.0 v)) (seen_still old new x s e.0) in let b = weight_less v old new x s es in omega (arith, a, b)

weight_found : (v : Locks) (old new : BTreeSet TxnId) (x : TxnId) (r : RecordId) → IsSeenToo old new x → is_reached old x ≡ false → (es : List (TxnId × RecordId)) → at_txn x es ≡ Some r → weight v new es + length (waits_for x v) ≤ weight v old es
weight_found v old new x r s n [] h = absurd (cc (h))
weight_found v old new x r s n (e ∷ es) h = ⊎_elim
    (λ i. let t = same_is x e.0 i in
    let a : cond (is_reached new e.0) 0 (length (waits_for e.0 v)) ≡ 0 = cond-true (is_reached new e.0) 0 (length (waits_for e.0 v)) (seen_here old new x s e.0 i) in
    let b : cond (is_reached old e.0) 0 (length (waits_for e.0 v)) ≡ length (waits_for x v) = cond-false (is_reached old e.0) 0 (length (waits_for e.0 v)) (subst (λ (u : TxnId). is_reached old u ≡ false) t n) ∙ ap (λ (u : TxnId). length (waits_for u v)) (sym t) in
    let c = weight_less v old new x s es in omega (arith, a, b, c))
    (λ i. let a = less_head (is_reached old e.0) (is_reached new e.0) (length (waits_for e.0 v)) (seen_still old new x s e.0) in
    let f : at_txn x es ≡ Some r = sym (ap (λ b. cond b (Some e.1) (at_txn x es)) (at_same x e.0 ∙ i)) ∙ h in
    let b = weight_found v old new x r s n es f in omega (arith, a, b))
    (cases_Bool (is_same_txn x e.0))

pub weight_follows : (v : Locks) (old new : BTreeSet TxnId) (x : TxnId) → IsSeenToo old new x → is_reached old x ≡ false → weight v new v.pending + length (waits_for x v) ≤ weight v old v.pending
weight_follows v old new x s n = by (pending_at x v) refl
  where
    by : (o : Option RecordId) → pending_at x v ≡ o → weight v new v.pending + length (waits_for x v) ≤ weight v old v.pending
    by None e = let a : length (waits_for x v) ≡ 0 = ap (λ o. length (option_map_or (λ r. Rattle.lock_table.specs.Locks.waited_for x (Rattle.lock_table.specs.Table.locks_at r v)) o [])) e in let b = weight_less v old new x s v.pending in omega (arith, a, b)
    by (Some r) e = weight_found v old new x r s n v.pending e

-- ---- a victim's edges go
pub edge_others : (u : TxnId) (edges : List (TxnId × TxnId)) (x y : TxnId) → is_edge (edges_without u edges) x y ≡ others u (is_edge edges) x y
edge_others u [] x y = sym (nothing (is_same_txn u x))
  where
    nothing : (b : Bool) → (not b && false) ≡ false
    nothing true = refl
    nothing false = refl
edge_others u (e ∷ es) x y = ⊎_elim
    (λ h. ap (λ ls. is_edge ls x y) (cond-false (not (is_from u e)) (e ∷ edges_without u es) (edges_without u es) (ap not h)) ∙ (edge_others u es x y ∙ hidden (is_same_txn u x) (is_pair x y e) (is_edge es x y) (λ n. not_pair h n)))
    (λ h. ap (λ ls. is_edge ls x y) (cond-true (not (is_from u e)) (e ∷ edges_without u es) (edges_without u es) (ap not h)) ∙ (ap (λ b. is_pair x y e || b) (edge_others u es x y) ∙ shown (is_same_txn u x) (is_pair x y e) (is_edge es x y) (λ k. pair_not h k)))
    (cases_Bool (is_from u e))
  where
    hidden : (s p r : Bool) → (s ≡ false → p ≡ false) → (not s && r) ≡ (not s && (p || r))
    hidden true p r k = refl
    hidden false p r k = rw (k refl) refl

    shown : (s p r : Bool) → (s ≡ true → p ≡ false) → (p || (not s && r)) ≡ (not s && (p || r))
    shown true p r k = rw (k refl) refl
    shown false p r k = refl

    not_pair : is_from u e ≡ true → is_same_txn u x ≡ false → is_pair x y e ≡ false
    not_pair h n = ap (λ b. b && is_same_txn y e.1) (same_either x e.0 ∙ subst (λ (w : TxnId). is_same_txn w x ≡ false) (same_is u e.0 h) n)

    pair_not : is_from u e ≡ false → is_same_txn u x ≡ true → is_pair x y e ≡ false
    pair_not h k = ap (λ b. b && is_same_txn y e.1) (subst (λ (w : TxnId). is_same_txn w e.0 ≡ false) (same_is u x k) h)

fewer_at_most : (u : TxnId) (edges : List (TxnId × TxnId)) → length (edges_without u edges) ≤ length edges
fewer_at_most u [] = omega arith
fewer_at_most u (e ∷ es) = let a = fewer_at_most u es in ⊎_elim (λ h. rw h (omega (arith, a))) (λ h. rw h (omega (arith, a))) (cases_Bool (is_from u e))

pub fewer : (u y : TxnId) (edges : List (TxnId × TxnId)) → is_edge edges u y ≡ true → length (edges_without u edges) < length edges
fewer u y [] h = absurd (false≢true h)
fewer u y (e ∷ es) h = ⊎_elim
    (λ i. let a = fewer_at_most u es in rw i (omega (arith, a)))
    (λ i. let n : is_pair u y e ≡ false = ap (λ b. b && is_same_txn y e.1) i in
    let k : is_edge es u y ≡ true = ⊎_elim (λ j. absurd (both_ways (is_pair u y e) n j)) (λ j. j) (or_cases (is_pair u y e) (is_edge es u y) h) in
    let a = fewer u y es k in rw i (omega (arith, a)))
    (cases_Bool (is_from u e))

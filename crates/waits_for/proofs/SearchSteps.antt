-- What one step of the search keeps.
use Rattle.std.proofs.Common.{◌≡◌, ℕ, ◌+◌, ◌<◌, Bool, true, false, cond, not, ◌&&◌, ◌||◌, List, [], ◌∷◌, ◌++◌, reverse, length, refl, ap, sym, ◌∙◌, arith, length-append, subst, ◌⊎◌, inl, inr, ⊎_elim, Result, Ok, Err, OnOk}
use Rattle.std.specs.List.{list_any, filter, AllByRecursion}
use Rattle.std.proofs.lemmas.List.{reverse-append, reverse-reverse, append-nil}
use Rattle.std.proofs.lemmas.List.Folds.{list_any-append}
use Rattle.std.proofs.lemmas.Bool.{cases_Bool, cond-false, cond-true, or_cases, or_left, or_right, and_right, both_ways, false≢true}
use Rattle.je_order.specs.declared.txn_id.TxnId.{TxnId}
use Rattle.je_order.specs.Transactions.{is_same_txn}
use Rattle.je_order.proofs.TxnIds.{same_is, same_itself, same_either}
use Rattle.je_order.proofs.Lists.{all_append, all_weaker, filter_all_pass}
use Rattle.waits_for.specs.Cycles.{is_pair, is_edge, is_from, is_in, comes_first, begins_with}
use Rattle.std.specs.Ordering.{is_eq}
use Rattle.std.specs.BTreeSet.{BTreeSet}
use Rattle.je_order.specs.Transactions.{txn_cmp}
use Rattle.waits_for.specs.Walk.{is_seen, AreRising, IsPath, back_to, AreAhead, NoneBefore, IsWalk, IsAtEdge, left}
use Rattle.waits_for.proofs.EdgeLists.{pair_is, any_row, row_real, length_reverse, reverse_cons}
use Rattle.waits_for.proofs.SearchPaths.{path_back, begins_back, in_back, first_back, ahead_each}
use Rattle.waits_for.proofs.SearchEnds.{first_more}

-- one more was seen
abbrev pub SeesToo : (TxnId → Bool) → (TxnId → Bool) → TxnId → Type 0
SeesToo S T y = (q : TxnId) → T q ≡ (is_same_txn y q || S q)

here : (S T : TxnId → Bool) (y : TxnId) → SeesToo S T y → (q : TxnId) → is_same_txn y q ≡ true → T q ≡ true
here S T y s q h = s q ∙ or_left (is_same_txn y q) (S q) h

more : (S T : TxnId → Bool) (y : TxnId) → SeesToo S T y → (q : TxnId) → S q ≡ true → T q ≡ true
more S T y s q h = s q ∙ or_right (is_same_txn y q) (S q) h

less : (S T : TxnId → Bool) (y : TxnId) → SeesToo S T y → (q : TxnId) → is_same_txn y q ≡ false → T q ≡ S q
less S T y s q e = s q ∙ ap (λ b. b || S q) e

-- ---- the next edge is followed

pub turned_to : (edges : List (TxnId × TxnId)) (from : TxnId) (S : TxnId → Bool) (ps : List TxnId) (todo : List (TxnId × TxnId)) (x y : TxnId) → IsWalk edges from S ps ((x, y) ∷ todo) → IsAtEdge edges from S (back_to x ps) todo x y
turned_to edges from S ps todo x y w = record {
  path = path_back edges from x ps w.ahead.0 w.path;
  last = begins_back x ps w.ahead.0;
  seen = λ z h. w.seen z (in_back z x ps h);
  edge = w.real.0;
  above = w.ahead.1;
  ahead = w.ahead.2;
  real = w.real.1;
  closed = λ a b e s. ⊎_elim (λ m. ⊎_elim inl (λ k. inr (inl k)) (or_cases (is_pair a b (x, y)) (list_any (is_pair a b) todo) m)) (λ n. inr (inr n)) (w.closed a b e s);
  first = λ other c b. first_back x ps (other ++ from ∷ []) (w.first other c b);
}

-- to one that was seen before
pub known : (edges : List (TxnId × TxnId)) (from : TxnId) (S : TxnId → Bool) (ps : List TxnId) (todo : List (TxnId × TxnId)) (x y : TxnId) → IsAtEdge edges from S ps todo x y → S y ≡ true → is_same_txn y from ≡ false → IsWalk edges from S ps todo
known edges from S ps todo x y t sy other = record {
  path = t.path;
  seen = t.seen;
  ahead = t.ahead;
  real = t.real;
  closed = λ a b e s. ⊎_elim (λ m. inr (subst (λ (q : TxnId). (S q ≡ true) × (is_same_txn q from ≡ false)) (sym (pair_is a b (x, y) m).1) (sy, other))) (λ k. k) (t.closed a b e s);
  first = t.first;
}

-- ---- to a new one

behind : (ps : List TxnId) (y : TxnId) (todo : List (TxnId × TxnId)) → is_in y ps ≡ false → AreAhead ps todo → AreAhead (y ∷ ps) todo
behind ps y [] n h = tt
behind ps y (e ∷ es) n h = (
  or_right (is_same_txn e.0 y) (is_in e.0 ps) h.0,
  h.1,
  subst (λ (q : List TxnId). AreAhead q es) (sym (cond-false (is_same_txn e.0 y) (y ∷ ps) (back_to e.0 ps) apart)) h.2,
)
  where
    apart : is_same_txn e.0 y ≡ false
    apart = ⊎_elim (λ k. absurd (both_ways (is_in y ps) n (subst (λ (t : TxnId). is_in t ps ≡ true) (same_is e.0 y k) h.0))) (λ k. k) (cases_Bool (is_same_txn e.0 y))

pub ahead_grown : (ps : List TxnId) (y : TxnId) (row todo : List (TxnId × TxnId)) → AllByRecursion (λ e. is_from y e ≡ true) row → AreRising row → is_in y ps ≡ false → AreAhead ps todo → AreAhead (y ∷ ps) (row ++ todo)
ahead_grown ps y [] todo its rising n h = behind ps y todo n h
ahead_grown ps y (e ∷ es) todo its rising n h = (
  or_left (is_same_txn e.0 y) (is_in e.0 ps) turned,
  all_append (λ f. is_same_txn e.0 f.0 ≡ true → e.1.0 < f.1.0) es todo
      (all_weaker (λ f. e.1.0 < f.1.0) (λ f. is_same_txn e.0 f.0 ≡ true → e.1.0 < f.1.0) (λ f k s. k) es rising.0)
      (all_weaker (λ f. is_in f.0 ps ≡ true) (λ f. is_same_txn e.0 f.0 ≡ true → e.1.0 < f.1.0) (λ f k s. absurd (both_ways (is_in y ps) n (subst (λ (t : TxnId). is_in t ps ≡ true) (sym (same_is e.0 f.0 s) ∙ same_is e.0 y turned) k))) todo (ahead_each ps todo h)),
  subst (λ (q : List TxnId). AreAhead q (es ++ todo)) (sym (cond-true (is_same_txn e.0 y) (y ∷ ps) (back_to e.0 ps) turned)) (ahead_grown ps y es todo its.1 rising.1 n h),
)
  where
    turned : is_same_txn e.0 y ≡ true
    turned = same_either e.0 y ∙ its.0

row_edges : (edges : List (TxnId × TxnId)) (y : TxnId) → AllByRecursion (λ v. is_edge edges v.0 v.1 ≡ true) (filter (is_from y) edges)
row_edges edges y = all_weaker (λ v. (is_edge edges v.0 v.1 ≡ true) × Unit {0}) (λ v. is_edge edges v.0 v.1 ≡ true) (λ v k. k.0) (filter (is_from y) edges) (row_real edges y (λ v. Unit {0}) edges (λ v h. h) (λ v h. tt))

-- its edges are followed next
row_there : (edges todo : List (TxnId × TxnId)) (y a b : TxnId) → is_same_txn y a ≡ true → is_edge edges a b ≡ true → list_any (is_pair a b) (filter (is_from y) edges ++ todo) ≡ true
row_there edges todo y a b i e =
    list_any-append (is_pair a b) (filter (is_from y) edges) todo
    ∙ or_left (list_any (is_pair a b) (filter (is_from y) edges)) (list_any (is_pair a b) todo) (subst (λ (t : TxnId). list_any (is_pair a b) (filter (is_from t) edges) ≡ true) (sym (same_is y a i)) (any_row a b edges ∙ e))

pub visited : (edges : List (TxnId × TxnId)) (from : TxnId) (S T : TxnId → Bool) (ps : List TxnId) (todo : List (TxnId × TxnId)) (x y : TxnId) → IsAtEdge edges from S ps todo x y → SeesToo S T y → S y ≡ false → is_same_txn y from ≡ false → AreRising (filter (is_from y) edges)
    → IsWalk edges from T (y ∷ ps) (filter (is_from y) edges ++ todo)
visited edges from S T ps todo x y t s n other rising = record {
  path = longer ps t.last t.path apart;
  seen = λ z h. ⊎_elim (λ k. here S T y s z (same_either y z ∙ k)) (λ k. more S T y s z (t.seen z k)) (or_cases (is_same_txn z y) (is_in z ps) h);
  ahead = ahead_grown ps y (filter (is_from y) edges) todo (filter_all_pass (is_from y) edges) rising apart t.ahead;
  real = all_append (λ e. is_edge edges e.0 e.1 ≡ true) (filter (is_from y) edges) todo (row_edges edges y) t.real;
  closed = λ a b e k. ⊎_elim
      (λ i. inl (row_there edges todo y a b i e))
      (λ i. ⊎_elim
      (λ m. inr (subst (λ (q : TxnId). (T q ≡ true) × (is_same_txn q from ≡ false)) (sym (pair_is a b (x, y) m).1) (here S T y s y (same_itself y), other)))
      (λ m. ⊎_elim
      (λ j. inl (list_any-append (is_pair a b) (filter (is_from y) edges) todo ∙ or_right (list_any (is_pair a b) (filter (is_from y) edges)) (list_any (is_pair a b) todo) j))
      (λ j. inr (more S T y s b j.0, j.1))
      m)
      (t.closed a b e (sym (less S T y s a i) ∙ k)))
      (cases_Bool (is_same_txn y a));
  first = λ o c b. ap (λ (l : List TxnId). comes_first l (o ++ from ∷ [])) (reverse_cons y ps) ∙ first_more edges from S ps todo x y t o c b;
}
  where
    apart : is_in y ps ≡ false
    apart = ⊎_elim (λ h. absurd (both_ways (S y) n (t.seen y h))) (λ h. h) (cases_Bool (is_in y ps))

    longer : (qs : List TxnId) → begins_with x qs ≡ true → IsPath edges from qs → is_in y qs ≡ false → IsPath edges from (y ∷ qs)
    longer [] b p m = absurd (false≢true b)
    longer (q ∷ qs) b p m = (subst (λ (u : TxnId). is_edge edges u y ≡ true) (same_is x q b) t.edge, m, p)

-- the search begins
pub begun : (edges : List (TxnId × TxnId)) (from : TxnId) (S T : TxnId → Bool) → ((q : TxnId) → S q ≡ false) → SeesToo S T from → AreRising (filter (is_from from) edges) → IsWalk edges from T (from ∷ []) (filter (is_from from) edges ++ [])
begun edges from S T none s rising = record {
  path = same_itself from;
  seen = λ z h. here S T from s z (same_either from z ∙ ⊎_elim (λ k. k) (λ k. absurd (false≢true k)) (or_cases (is_same_txn z from) false h));
  ahead = ahead_grown [] from (filter (is_from from) edges) [] (filter_all_pass (is_from from) edges) rising refl tt;
  real = all_append (λ e. is_edge edges e.0 e.1 ≡ true) (filter (is_from from) edges) [] (row_edges edges from) tt;
  closed = λ a b e k. ⊎_elim (λ i. inl (row_there edges [] from a b i e)) (λ i. absurd (both_ways (S a) (none a) (sym (less S T from s a i) ∙ k))) (cases_Bool (is_same_txn from a));
  first = first;
}
  where
    first : NoneBefore edges from (reverse (from ∷ []))
    first [] c b = absurd (false≢true b)
    first (o ∷ os) c b = or_right _ (is_same_txn from o && true) (ap (λ (p : Bool). p && true) b)

-- ---- the edges that may be followed are fewer by those that are to be followed now
fewer_step : {X : Type 0} (a b c : Bool) (x : X) (F G H : List X) → a ≡ (b || c) → (b && c) ≡ false → length F ≡ length G + length H → length (cond a (x ∷ F) F) ≡ length (cond b (x ∷ G) G) + length (cond c (x ∷ H) H)
fewer_step a true true x F G H i d k = absurd (both_ways true d refl)
fewer_step a true false x F G H i d k = rw i (omega arith)
fewer_step a false true x F G H i d k = rw i (omega arith)
fewer_step a false false x F G H i d k = rw i k

pub fewer : {X : Type 0} (p q r : X → Bool) → ((e : X) → p e ≡ (q e || r e)) → ((e : X) → (q e && r e) ≡ false) → (es : List X)
    → length (filter p es) ≡ length (filter q es) + length (filter r es)
fewer p q r h d [] = refl
fewer p q r h d (e ∷ es) = fewer_step (p e) (q e) (r e) e _ _ _ (h e) (d e) (fewer p q r h d es)

pub left_visited : (edges : List (TxnId × TxnId)) (S T : TxnId → Bool) (todo : List (TxnId × TxnId)) (y : TxnId) → SeesToo S T y → S y ≡ false → left edges T (todo ++ reverse (filter (is_from y) edges)) ≡ left edges S todo
left_visited edges S T todo y s n =
    let f = fewer (λ e. not (S e.0)) (λ e. not (T e.0)) (is_from y) split apart edges in
    omega (arith, length-append todo (reverse (filter (is_from y) edges)), length_reverse (filter (is_from y) edges), f)
  where
    split_step : (o n c : Bool) → n ≡ o → c ≡ false → not o ≡ (not n || c)
    split_step true n c i j = rw (i, j) refl
    split_step false n c i j = rw i refl

    split : (e : TxnId × TxnId) → not (S e.0) ≡ (not (T e.0) || is_from y e)
    split e = ⊎_elim (λ i. let o : S e.0 ≡ false = rw (← same_is y e.0 i) n in rw (i, o) (sym (or_right (not (T e.0)) true refl))) (λ i. split_step (S e.0) (T e.0) (is_from y e) (less S T y s e.0 i) i) (cases_Bool (is_same_txn y e.0))

    apart : (e : TxnId × TxnId) → (not (T e.0) && is_from y e) ≡ false
    apart e = ⊎_elim (λ i. let o : T e.0 ≡ true = here S T y s e.0 i in rw (i, o) refl) (λ i. rw i (and_right (not (T e.0)) false refl)) (cases_Bool (is_same_txn y e.0))

-- ---- as the vectors have them: the path from its beginning on, and the edges with the next one last

pub goes_further : {E : Type 0} (r : Result Unit E) (edges : List (TxnId × TxnId)) (from : TxnId) (S T : TxnId → Bool) (path path2 : List TxnId) (todo todo2 : List (TxnId × TxnId)) (x y : TxnId)
    → IsAtEdge edges from S (reverse path) (reverse todo) x y → is_same_txn y from ≡ false → S y ≡ false
    → OnOk r (SeesToo S T y) → OnOk r (path2 ≡ path ++ y ∷ []) → OnOk r (todo2 ≡ todo ++ reverse (filter (is_from y) edges)) → OnOk r (AreRising (filter (is_from y) edges))
    → OnOk r (IsWalk edges from T (reverse path2) (reverse todo2))
goes_further (Err e) edges from S T path path2 todo todo2 x y t other n sees p d rising = tt
goes_further (Ok u) edges from S T path path2 todo todo2 x y t other n sees p d rising =
    subst (λ (l : List TxnId). IsWalk edges from T l (reverse todo2)) (sym (ap reverse p ∙ reverse-append path (y ∷ [])))
    (subst (IsWalk edges from T (y ∷ reverse path)) (sym (row_first todo todo2 (filter (is_from y) edges) d)) (visited edges from S T (reverse path) (reverse todo) x y t sees n other rising))
  where
    row_first : (a b row : List (TxnId × TxnId)) → b ≡ a ++ reverse row → reverse b ≡ row ++ reverse a
    row_first a b row h = ap reverse h ∙ (reverse-append a (reverse row) ∙ ap (λ (l : List (TxnId × TxnId)). l ++ reverse a) (reverse-reverse row))

pub still_left : {E : Type 0} (r : Result Unit E) (edges : List (TxnId × TxnId)) (S T : TxnId → Bool) (todo todo2 : List (TxnId × TxnId)) (y : TxnId) → S y ≡ false
    → OnOk r (SeesToo S T y) → OnOk r (todo2 ≡ todo ++ reverse (filter (is_from y) edges)) → OnOk r (left edges T todo2 ≡ left edges S todo)
still_left (Err e) edges S T todo todo2 y n sees d = tt
still_left (Ok u) edges S T todo todo2 y n sees d = ap (left edges T) d ∙ left_visited edges S T todo y sees n

pub begins : (edges : List (TxnId × TxnId)) (from : TxnId) (S T : TxnId → Bool) (path path2 : List TxnId) (todo todo2 : List (TxnId × TxnId)) → ((q : TxnId) → S q ≡ false) → path ≡ [] → todo ≡ []
    → SeesToo S T from → path2 ≡ path ++ from ∷ [] → todo2 ≡ todo ++ reverse (filter (is_from from) edges) → AreRising (filter (is_from from) edges) → IsWalk edges from T (reverse path2) (reverse todo2)
begins edges from S T path path2 todo todo2 none p0 t0 sees p d rising =
    subst (λ (l : List TxnId). IsWalk edges from T l (reverse todo2)) (sym (ap reverse (p ∙ ap (λ (l : List TxnId). l ++ from ∷ []) p0)))
    (subst (IsWalk edges from T (from ∷ [])) (sym (ap reverse (d ∙ ap (λ (l : List (TxnId × TxnId)). l ++ reverse (filter (is_from from) edges)) t0) ∙ (reverse-reverse (filter (is_from from) edges) ∙ sym (append-nil (filter (is_from from) edges)))))
    (begun edges from S T none sees rising))

pub turn_after : (edges : List (TxnId × TxnId)) (from : TxnId) (S : TxnId → Bool) (path path2 : List TxnId) (todo rest : List (TxnId × TxnId)) (x y : TxnId) → IsWalk edges from S (reverse path) (reverse todo) → todo ≡ rest ++ (x, y) ∷ []
    → reverse path2 ≡ back_to x (reverse path) → IsAtEdge edges from S (reverse path2) (reverse rest) x y
turn_after edges from S path path2 todo rest x y w is back =
    subst (λ (l : List TxnId). IsAtEdge edges from S l (reverse rest) x y) (sym back)
    (turned_to edges from S (reverse path) (reverse rest) x y (subst (IsWalk edges from S (reverse path)) (ap reverse is ∙ reverse-append rest ((x, y) ∷ [])) w))

pub none_seen : (seen : BTreeSet TxnId) → seen.keys ≡ [] → (q : TxnId) → is_seen seen q ≡ false
none_seen seen e q = ap (λ (l : List TxnId). list_any (λ k. is_eq (txn_cmp q k)) l) e

-- The levels of a tree keep their form where one of them changes.
use Rattle.std.proofs.Common.{◌≡◌, ◌<◌, ◌≤◌, ◌-◌, ◌+◌, ◌⊎◌, ℕ, zero, suc, List, [], ◌∷◌, ◌++◌, Bool, true, false, cond, Option, None, Some, IsSome, length, take, get_or, refl, sym, subst, ◌∙◌, inl, inr, arith, is_eq, get_or-take, set}
use Rattle.std.proofs.lemmas.Bool.{true≢false, cases_eq, cases_lt}
use Rattle.std.proofs.lemmas.List.{get_or_append_left, get_or_push, get_or_past, get_or_default, get_or-set_same, get_or-set_other, length-set, length_push, length-take-le}
use Rattle.std.specs.List.Sorted.{IsStrictlySortedBy}
use Rattle.je_order.specs.Order.{name_cmp}
use Rattle.je_order.specs.declared.name.Name.{Name}
use Rattle.record_map.specs.Cells.{value_at, IsRising}
use Rattle.record_map.proofs.NameLaws.{same_or_other, other_stays, same_gets}
use Rattle.tree_nodes.specs.declared.node.Node.{Node}
use Rattle.tree_nodes.specs.Nodes.{NodeRow, least, HasPut, HasTaken}
use Rattle.tree_nodes.specs.Levels.{row_of, AreParts, HasPutAt, HasTakenAt}

some_is : {A : Type 0} (x : A) → IsSome (Some x)
some_is x = refl

none_is : {A : Type 0} (o : Option A) → o ≡ None → IsSome o → ⊥
none_is None e h = true≢false (sym h)
none_is (Some x) e h = cc

-- a level above the top has no nodes
above : (rows : List NodeRow) (k : ℕ) → length rows ≤ k → row_of rows k ≡ []
above rows k le = get_or_past rows k [] le

nothing_rises : IsRising {V = Node} []
unfolding IsStrictlySortedBy
nothing_rises = tt

-- a low stays where a node is put
adds : (old new : NodeRow) (low : Name) (n : Node) (x : Name) → HasPut old new low n → IsSome (value_at x old) → IsSome (value_at x new)
adds old new low n x has there = subst IsSome (sym (has x)) (by_test (is_eq (name_cmp low x)))
  where
    by_test : (t : Bool) → IsSome (cond t (Some n) (value_at x old))
    by_test true = refl
    by_test false = there

-- a low is the one of the node that was put in, or was there
was_there : (old new : NodeRow) (low : Name) (n : Node) (x : Name) → HasPut old new low n → IsSome (value_at x new) → (low ≡ x) ⊎ IsSome (value_at x old)
was_there old new low n x has there = by_name (same_or_other low x)
  where
    by_name : (low ≡ x) ⊎ (is_eq (name_cmp low x) ≡ false) → (low ≡ x) ⊎ IsSome (value_at x old)
    by_name (inl same) = inl same
    by_name (inr apart) = inr (subst IsSome (has x ∙ other_stays low x (Some n) (value_at x old) apart) there)

-- ---- a node is put in

pub parts_put : (old new : List NodeRow) (l : ℕ) (low : Name) (n : Node) → AreParts old → HasPutAt old new l low n → IsRising (row_of new l) →
    ((k : ℕ) → l ≡ suc k → IsSome (value_at low (row_of old k))) → AreParts new
parts_put old new l low n are has up under = record {
  some = subst (λ count. 0 < count) (sym has.height) are.some;
  parts = λ k h. stays k least (are.parts k (subst (λ count. k < count) has.height h));
  nested = λ k x h. stays k x (below k x (before (suc k) x h));
  rising = λ k. rises k (cases_eq k l);
}
  where
    stays : (k : ℕ) (x : Name) → IsSome (value_at x (row_of old k)) → IsSome (value_at x (row_of new k))
    stays k x there = by_level (cases_eq k l)
      where
        by_level : (k ≡ l) ⊎ (k ≡ l → ⊥) → IsSome (value_at x (row_of new k))
        by_level (inl same) =
            subst (λ j. IsSome (value_at x (row_of new j))) (sym same)
            (adds (row_of old l) (row_of new l) low n x has.here (subst (λ j. IsSome (value_at x (row_of old j))) same there))
        by_level (inr other) = subst (λ (row : NodeRow). IsSome (value_at x row)) (sym (has.others k other)) there

    before : (k : ℕ) (x : Name) → IsSome (value_at x (row_of new k)) → ((k ≡ l) × (low ≡ x)) ⊎ IsSome (value_at x (row_of old k))
    before k x there = by_level (cases_eq k l)
      where
        at_level : (k ≡ l) → (low ≡ x) ⊎ IsSome (value_at x (row_of old l)) → ((k ≡ l) × (low ≡ x)) ⊎ IsSome (value_at x (row_of old k))
        at_level same (inl is) = inl (same, is)
        at_level same (inr was) = inr (subst (λ j. IsSome (value_at x (row_of old j))) (sym same) was)

        by_level : (k ≡ l) ⊎ (k ≡ l → ⊥) → ((k ≡ l) × (low ≡ x)) ⊎ IsSome (value_at x (row_of old k))
        by_level (inl same) = at_level same (was_there (row_of old l) (row_of new l) low n x has.here (subst (λ j. IsSome (value_at x (row_of new j))) same there))
        by_level (inr other) = inr (subst (λ (row : NodeRow). IsSome (value_at x row)) (has.others k other) there)

    below : (k : ℕ) (x : Name) → ((suc k ≡ l) × (low ≡ x)) ⊎ IsSome (value_at x (row_of old (suc k))) → IsSome (value_at x (row_of old k))
    below k x (inl is) = subst (λ y. IsSome (value_at y (row_of old k))) is.1 (under k (sym is.0))
    below k x (inr was) = are.nested k x was

    rises : (k : ℕ) → (k ≡ l) ⊎ (k ≡ l → ⊥) → IsRising (row_of new k)
    rises k (inl same) = subst (λ j. IsRising (row_of new j)) (sym same) up
    rises k (inr other) = subst IsRising (sym (has.others k other)) (are.rising k)

-- a node takes the place of another one
pub parts_set : (old new : List NodeRow) (l : ℕ) (low : Name) (n : Node) → AreParts old → HasPutAt old new l low n → IsRising (row_of new l) →
    IsSome (value_at low (row_of old l)) → AreParts new
parts_set old new l low n are has up there =
    parts_put old new l low n are has up (λ k is. are.nested k low (subst (λ j. IsSome (value_at low (row_of old j))) is there))

-- ---- a node is taken out

pub parts_taken : (old new : List NodeRow) (l : ℕ) (low : Name) → AreParts old → HasTakenAt old new l low → IsRising (row_of new l) →
    value_at low (row_of old (suc l)) ≡ None → (low ≡ least → ⊥) → AreParts new
parts_taken old new l low are has up free apart = record {
  some = subst (λ count. 0 < count) (sym has.height) are.some;
  parts = λ k h. stays k least (λ is. apart is.1) (are.parts k (subst (λ count. k < count) has.height h));
  nested = λ k x h. stays k x (λ is. none_is (value_at low (row_of old (suc l))) free (was_above k x is h)) (are.nested k x (before (suc k) x h));
  rising = λ k. rises k (cases_eq k l);
}
  where
    stays : (k : ℕ) (x : Name) → ((k ≡ l) × (low ≡ x) → ⊥) → IsSome (value_at x (row_of old k)) → IsSome (value_at x (row_of new k))
    stays k x other there = by_level (cases_eq k l)
      where
        here : (k ≡ l) → (low ≡ x) ⊎ (is_eq (name_cmp low x) ≡ false) → IsSome (value_at x (row_of new l))
        here same (inl is) = absurd (other (same, is))
        here same (inr not_it) = subst IsSome (sym (has.here x ∙ other_stays low x None (value_at x (row_of old l)) not_it)) (subst (λ j. IsSome (value_at x (row_of old j))) same there)

        by_level : (k ≡ l) ⊎ (k ≡ l → ⊥) → IsSome (value_at x (row_of new k))
        by_level (inl same) = subst (λ j. IsSome (value_at x (row_of new j))) (sym same) (here same (same_or_other low x))
        by_level (inr apart_) = subst (λ (row : NodeRow). IsSome (value_at x row)) (sym (has.others k apart_)) there

    less : (x : Name) → IsSome (value_at x (row_of new l)) → IsSome (value_at x (row_of old l))
    less x there = by_test (is_eq (name_cmp low x)) (subst IsSome (has.here x) there)
      where
        by_test : (t : Bool) → IsSome (cond t None (value_at x (row_of old l))) → IsSome (value_at x (row_of old l))
        by_test true h = absurd (true≢false (sym h))
        by_test false h = h

    before : (k : ℕ) (x : Name) → IsSome (value_at x (row_of new k)) → IsSome (value_at x (row_of old k))
    before k x there = by_level (cases_eq k l)
      where
        by_level : (k ≡ l) ⊎ (k ≡ l → ⊥) → IsSome (value_at x (row_of old k))
        by_level (inl same) = subst (λ j. IsSome (value_at x (row_of old j))) (sym same) (less x (subst (λ j. IsSome (value_at x (row_of new j))) same there))
        by_level (inr other) = subst (λ (row : NodeRow). IsSome (value_at x row)) (has.others k other) there

    was_above : (k : ℕ) (x : Name) → (k ≡ l) × (low ≡ x) → IsSome (value_at x (row_of new (suc k))) → IsSome (value_at low (row_of old (suc l)))
    was_above k x is there =
        subst (λ y. IsSome (value_at y (row_of old (suc l)))) (sym is.1) (subst (λ j. IsSome (value_at x (row_of old (suc j)))) is.0 (before (suc k) x there))

    rises : (k : ℕ) → (k ≡ l) ⊎ (k ≡ l → ⊥) → IsRising (row_of new k)
    rises k (inl same) = subst (λ j. IsRising (row_of new j)) (sym same) up
    rises k (inr other) = subst IsRising (sym (has.others k other)) (are.rising k)

-- ---- a root above the top, and the top away

-- levels below a new top, and the top
below_top : (old : List NodeRow) (top : NodeRow) (k : ℕ) → k < length old → row_of (old ++ top ∷ []) k ≡ row_of old k
below_top old top k less = get_or_append_left old (top ∷ []) [] k less

is_root : (top : NodeRow) (root : Node) (x : Name) → HasPut [] top least root → IsSome (value_at x top) → least ≡ x
is_root top root x has there = by_name (was_there [] top least root x has there)
  where
    by_name : (least ≡ x) ⊎ IsSome (value_at {V = Node} x []) → least ≡ x
    by_name (inl same) = same
    by_name (inr none) = absurd (true≢false (sym none))

pub parts_raised : (old : List NodeRow) (top : NodeRow) (root : Node) → AreParts old → HasPut [] top least root → IsRising top → AreParts (old ++ top ∷ [])
parts_raised old top root are has up = record {
  some = omega (arith, length_push old top);
  parts = λ k h. parts k (cases_eq k (length old)) h;
  nested = λ k x h. nested k x (cases_eq (suc k) (length old)) h;
  rising = λ k. rises k (cases_eq k (length old));
}
  where
    at_top : row_of (old ++ top ∷ []) (length old) ≡ top
    at_top = get_or_push old top [] (length old) refl

    root_there : IsSome (value_at least top)
    root_there = subst IsSome (sym (has least ∙ same_gets least (Some root) None)) refl

    past : (k : ℕ) → (k ≡ length old → ⊥) → length old ≤ k → row_of (old ++ top ∷ []) k ≡ []
    past k other high = above (old ++ top ∷ []) k (let len : length (old ++ top ∷ []) ≡ length old + 1 = length_push old top in omega (arith, other))

    parts : (k : ℕ) → (k ≡ length old) ⊎ (k ≡ length old → ⊥) → k < length (old ++ top ∷ []) → IsSome (value_at least (row_of (old ++ top ∷ []) k))
    parts k (inl same) h = subst (λ j. IsSome (value_at least (row_of (old ++ top ∷ []) j))) (sym same) (subst (λ (row : NodeRow). IsSome (value_at least row)) (sym at_top) root_there)
    parts k (inr other) h =
        let less : k < length old = omega (arith, length_push old top) in
        subst (λ (row : NodeRow). IsSome (value_at least row)) (sym (below_top old top k less)) (are.parts k less)

    nested : (k : ℕ) (x : Name) → (suc k ≡ length old) ⊎ (suc k ≡ length old → ⊥) → IsSome (value_at x (row_of (old ++ top ∷ []) (suc k))) → IsSome (value_at x (row_of (old ++ top ∷ []) k))
    nested k x (inl same) h =
        let less : k < length old = omega arith in
        let is : least ≡ x = is_root top root x has (subst (λ (row : NodeRow). IsSome (value_at x row)) at_top (subst (λ j. IsSome (value_at x (row_of (old ++ top ∷ []) j))) same h)) in
        subst (λ y. IsSome (value_at y (row_of (old ++ top ∷ []) k))) is (subst (λ (row : NodeRow). IsSome (value_at least row)) (sym (below_top old top k less)) (are.parts k less))
    nested k x (inr other) h = by_height (cases_lt (suc k) (length old))
      where
        by_height : (suc k < length old) ⊎ (length old ≤ suc k) → IsSome (value_at x (row_of (old ++ top ∷ []) k))
        by_height (inl less) =
            let low : k < length old = omega arith in
            subst (λ (row : NodeRow). IsSome (value_at x row)) (sym (below_top old top k low))
            (are.nested k x (subst (λ (row : NodeRow). IsSome (value_at x row)) (below_top old top (suc k) less) h))
        by_height (inr more) = absurd (true≢false (sym (subst (λ (row : NodeRow). IsSome (value_at x row)) (past (suc k) other more) h)))

    rises : (k : ℕ) → (k ≡ length old) ⊎ (k ≡ length old → ⊥) → IsRising (row_of (old ++ top ∷ []) k)
    rises k (inl same) = subst (λ j. IsRising (row_of (old ++ top ∷ []) j)) (sym same) (subst IsRising (sym at_top) up)
    rises k (inr other) = by_height (cases_lt k (length old))
      where
        by_height : (k < length old) ⊎ (length old ≤ k) → IsRising (row_of (old ++ top ∷ []) k)
        by_height (inl less) = subst IsRising (sym (below_top old top k less)) (are.rising k)
        by_height (inr more) = subst IsRising (sym (past k other more)) nothing_rises

-- the top away
pub parts_lowered : (old : List NodeRow) → AreParts old → 1 < length old → AreParts (take (length old - 1) old)
parts_lowered old are more = record {
  some = let len : length (take (length old - 1) old) ≡ length old - 1 = length-take-le (length old - 1) old (omega arith) in omega arith;
  parts = λ k h.
      let less : k < length old - 1 = subst (λ count. k < count) (length-take-le (length old - 1) old (omega arith)) h in
      subst (λ (row : NodeRow). IsSome (value_at least row)) (sym (kept k less)) (are.parts k (omega arith));
  nested = λ k x h. nested k x (cases_lt (suc k) (length old - 1)) h;
  rising = λ k. rises k (cases_lt k (length old - 1));
}
  where
    kept : (k : ℕ) → k < length old - 1 → row_of (take (length old - 1) old) k ≡ row_of old k
    kept k less = get_or-take (length old - 1) old k [] less

    gone : (k : ℕ) → length old - 1 ≤ k → row_of (take (length old - 1) old) k ≡ []
    gone k high = above (take (length old - 1) old) k (let len : length (take (length old - 1) old) ≡ length old - 1 = length-take-le (length old - 1) old (omega arith) in omega arith)

    nested : (k : ℕ) (x : Name) → (suc k < length old - 1) ⊎ (length old - 1 ≤ suc k) → IsSome (value_at x (row_of (take (length old - 1) old) (suc k))) → IsSome (value_at x (row_of (take (length old - 1) old) k))
    nested k x (inl less) h =
        let low : k < length old - 1 = omega arith in
        subst (λ (row : NodeRow). IsSome (value_at x row)) (sym (kept k low)) (are.nested k x (subst (λ (row : NodeRow). IsSome (value_at x row)) (kept (suc k) less) h))
    nested k x (inr high) h = absurd (true≢false (sym (subst (λ (row : NodeRow). IsSome (value_at x row)) (gone (suc k) high) h)))

    rises : (k : ℕ) → (k < length old - 1) ⊎ (length old - 1 ≤ k) → IsRising (row_of (take (length old - 1) old) k)
    rises k (inl less) = subst IsRising (sym (kept k less)) (are.rising k)
    rises k (inr high) = subst IsRising (sym (gone k high)) nothing_rises

-- one level of one node
pub parts_new : (top : NodeRow) (root : Node) → HasPut [] top least root → IsRising top → AreParts (top ∷ [])
parts_new top root has up = record {
  some = omega arith;
  parts = λ k h. parts k h;
  nested = λ k x h. absurd (true≢false (sym h));
  rising = λ k. rises k;
}
  where
    parts : (k : ℕ) → k < length (top ∷ []) → IsSome (value_at least (row_of (top ∷ []) k))
    parts zero h = subst IsSome (sym (has least ∙ same_gets least (Some root) None)) refl
    parts (suc k) h = absurd (omega arith)

    rises : (k : ℕ) → IsRising (row_of (top ∷ []) k)
    rises zero = up
    rises (suc k) = nothing_rises

-- ---- one level takes the place of another one

-- a level that has nodes is one of the levels
pub is_level : (rows : List NodeRow) (l : ℕ) (x : Name) → IsSome (value_at x (row_of rows l)) → l < length rows
is_level rows l x there = by_height (cases_lt l (length rows))
  where
    by_height : (l < length rows) ⊎ (length rows ≤ l) → l < length rows
    by_height (inl less) = less
    by_height (inr high) = absurd (true≢false (sym (subst (λ (row : NodeRow). IsSome (value_at x row)) (above rows l high) there)))

pub put_at : (old : List NodeRow) (l : ℕ) (d now : NodeRow) (low : Name) (n : Node) → l < length old → HasPut (get_or old l d) now low n → HasPutAt old (set old l now) l low n
put_at old l d now low n less has = record {
  height = length-set old l now;
  here = subst (λ (row : NodeRow). HasPut (row_of old l) row low n) (sym (get_or-set_same old l now [] less))
      (subst (λ (row : NodeRow). HasPut row now low n) (get_or_default old l d [] less) has);
  others = λ k other. get_or-set_other old l k now [] other;
}

pub taken_at : (old : List NodeRow) (l : ℕ) (d now : NodeRow) (low : Name) → l < length old → HasTaken (get_or old l d) now low → HasTakenAt old (set old l now) l low
taken_at old l d now low less has = record {
  height = length-set old l now;
  here = subst (λ (row : NodeRow). HasTaken (row_of old l) row low) (sym (get_or-set_same old l now [] less))
      (subst (λ (row : NodeRow). HasTaken row now low) (get_or_default old l d [] less) has);
  others = λ k other. get_or-set_other old l k now [] other;
}

pub rises_at : (old : List NodeRow) (l : ℕ) (now : NodeRow) → l < length old → IsRising now → IsRising (row_of (set old l now) l)
rises_at old l now less up = subst IsRising (sym (get_or-set_same old l now [] less)) up

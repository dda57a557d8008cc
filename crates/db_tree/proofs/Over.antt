-- The node over a name.
use Rattle.std.proofs.Common.{◌≡◌, ◌⊎◌, [], ◌∷◌, Bool, true, false, cond, Some, IsSome, refl, sym, subst, ◌∙◌, inl, inr, Less, is_eq, is_gt}
use Rattle.std.specs.List.{AllByRecursion}
use Rattle.std.specs.List.Sorted.{IsStrictlySortedBy}
use Rattle.std.specs.Map.{keys_of}
use Rattle.std.proofs.lemmas.Bool.{true≢false}
use Rattle.std.proofs.lemmas.Option.{same_Some}
use Rattle.je_order.specs.Order.{name_cmp}
use Rattle.je_order.specs.declared.name.Name.{Name}
use Rattle.record_map.specs.Cells.{value_at, IsRising}
use Rattle.record_map.proofs.NameLaws.{same_or_other, other_stays, same_gets}
use Rattle.tree_nodes.specs.declared.node.Node.{Node}
use Rattle.tree_nodes.specs.Nodes.{NodeRow, least, IsUpTo, IsOver, HasPut}
use Rattle.db_tree.proofs.Order.{up_cases, less_up, same_up, less_not_up, up_trans, least_up, below_least}

pub there_is : (row : NodeRow) (x : Name) (n : Node) → value_at x row ≡ Some n → IsSome (value_at x row)
there_is row x n e = subst IsSome (sym e) refl

-- a low that was there is there where a node is put
pub stays : (old new : NodeRow) (at q : Name) (n : Node) → HasPut old new at n → IsSome (value_at q old) → IsSome (value_at q new)
stays old new at q n has there = subst IsSome (sym (has q)) (by_test (is_eq (name_cmp at q)))
  where
    by_test : (t : Bool) → IsSome (cond t (Some n) (value_at q old))
    by_test true = refl
    by_test false = there

-- where a node is put under a name, the node over a name is the new one, and the node over that name was
-- over this one, or it was over it before
pub over_put : (old new : NodeRow) (at low x : Name) (m n : Node) (e : Name × Node) → HasPut old new at n → IsOver old at (low, m) → IsOver new x e →
    ((e.1 ≡ n) × IsOver old x (low, m)) ⊎ IsOver old x e
over_put old new at low x m n e has under over = by_name (same_or_other at e.0)
  where
    up_to : (q : Name) → IsSome (value_at q old) → IsUpTo q x → IsUpTo q e.0
    up_to q there up = over.most q (stays old new at q n has there) up

    at_new : at ≡ e.0 → (e.1 ≡ n) × IsOver old x (low, m)
    at_new same = (
      same_Some e.1 n (sym over.there ∙ has e.0 ∙ subst (λ (y : Name). cond (is_eq (name_cmp at y)) (Some n) (value_at y old) ≡ Some n) same (same_gets at (Some n) (value_at at old))),
      record {
        there = under.there;
        below = up_trans low at x under.below (subst (λ (y : Name). IsUpTo y x) (sym same) over.below);
        most = λ q there up. under.most q there (subst (λ (y : Name). IsUpTo q y) (sym same) (up_to q there up));
      },
    )

    by_name : (at ≡ e.0) ⊎ (is_eq (name_cmp at e.0) ≡ false) → ((e.1 ≡ n) × IsOver old x (low, m)) ⊎ IsOver old x e
    by_name (inl same) = inl (at_new same)
    by_name (inr apart) = inr (record {
      there = sym (has e.0 ∙ other_stays at e.0 (Some n) (value_at e.0 old) apart) ∙ over.there;
      below = over.below;
      most = up_to;
    })

-- two nodes over a name have one low and are the same
pub over_once : (row : NodeRow) (x : Name) (e f : Name × Node) → IsOver row x e → IsOver row x f → e.0 ≡ f.0
over_once row x e f first second =
    by_order (up_cases e.0 f.0 (second.most e.0 (there_is row e.0 e.1 first.there) first.below)) (first.most f.0 (there_is row f.0 f.1 second.there) second.below)
  where
    by_order : (e.0 ≡ f.0) ⊎ (name_cmp e.0 f.0 ≡ Less) → IsUpTo f.0 e.0 → e.0 ≡ f.0
    by_order (inl same) up = same
    by_order (inr less) up = absurd (less_not_up e.0 f.0 less up)

-- the node over a low is the low's own
pub over_low : (row : NodeRow) (low : Name) (n : Node) → value_at low row ≡ Some n → IsOver row low (low, n)
over_low row low n there = record { there = there; below = same_up low low refl; most = λ q _ up. up }

-- ---- each name has a node over it

-- a name that is found is a key, or is behind one
pub found_behind : (low q : Name) (row : NodeRow) → AllByRecursion (λ y. name_cmp low y ≡ Less) (keys_of row) → IsSome (value_at q row) → name_cmp low q ≡ Less
found_behind low q [] all there = absurd (true≢false (sym there))
found_behind low q (e ∷ row) all there = by_name (same_or_other q e.0) (found_behind low q row all.1)
  where
    by_name : (q ≡ e.0) ⊎ (is_eq (name_cmp q e.0) ≡ false) → (IsSome (value_at q row) → name_cmp low q ≡ Less) → name_cmp low q ≡ Less
    by_name (inl same) rest = subst (λ (y : Name). name_cmp low y ≡ Less) (sym same) all.0
    by_name (inr apart) rest = rest (subst IsSome (other_stays q e.0 (Some e.1) (value_at q row) apart) there)

-- the first entry, and what is behind it
pub first_is : (e : Name × Node) (row : NodeRow) → value_at e.0 (e ∷ row) ≡ Some e.1
first_is e row = same_gets e.0 (Some e.1) (value_at e.0 row)

pub first_or_rest : (e : Name × Node) (row : NodeRow) (q : Name) → IsSome (value_at q (e ∷ row)) → (q ≡ e.0) ⊎ IsSome (value_at q row)
first_or_rest e row q there = by_name (same_or_other q e.0)
  where
    by_name : (q ≡ e.0) ⊎ (is_eq (name_cmp q e.0) ≡ false) → (q ≡ e.0) ⊎ IsSome (value_at q row)
    by_name (inl same) = inl same
    by_name (inr apart) = inr (subst IsSome (other_stays q e.0 (Some e.1) (value_at q row) apart) there)

-- the node over a name among those behind the first is over it among all
pub over_more : (e f : Name × Node) (row : NodeRow) (x : Name) (o : Name × Node) → IsStrictlySortedBy name_cmp (keys_of (e ∷ f ∷ row)) → IsOver (f ∷ row) x o → IsOver (e ∷ f ∷ row) x o
unfolding IsStrictlySortedBy
over_more e f row x o up over =
    let less : name_cmp e.0 o.0 ≡ Less = found_behind e.0 o.0 (f ∷ row) up.0 (there_is (f ∷ row) o.0 o.1 over.there) in
    record {
      there = apart_there less (same_or_other o.0 e.0);
      below = over.below;
      most = λ q there h. by_place less q (first_or_rest e (f ∷ row) q there) h;
    }
  where
    apart_there : name_cmp e.0 o.0 ≡ Less → (o.0 ≡ e.0) ⊎ (is_eq (name_cmp o.0 e.0) ≡ false) → value_at o.0 (e ∷ f ∷ row) ≡ Some o.1
    apart_there less (inl same) = absurd (less_not_up e.0 o.0 less (same_up o.0 e.0 same))
    apart_there less (inr apart) = other_stays o.0 e.0 (Some e.1) (value_at o.0 (f ∷ row)) apart ∙ over.there

    by_place : name_cmp e.0 o.0 ≡ Less → (q : Name) → (q ≡ e.0) ⊎ IsSome (value_at q (f ∷ row)) → IsUpTo q x → IsUpTo q o.0
    by_place less q (inl same) h = subst (λ (y : Name). IsUpTo y o.0) (sym same) (less_up e.0 o.0 less)
    by_place less q (inr there) h = over.most q there h

-- the first node is over a name that is below the second one's low
pub over_first : (e f : Name × Node) (row : NodeRow) (x : Name) → IsStrictlySortedBy name_cmp (keys_of (e ∷ f ∷ row)) → IsUpTo e.0 x → is_gt (name_cmp f.0 x) ≡ true → IsOver (e ∷ f ∷ row) x e
unfolding IsStrictlySortedBy
over_first e f row x up below more = record {
  there = first_is e (f ∷ row);
  below = below;
  most = λ q there h. none_behind q (first_or_rest e (f ∷ row) q there) h;
}
  where
    none_behind : (q : Name) → (q ≡ e.0) ⊎ IsSome (value_at q (f ∷ row)) → IsUpTo q x → IsUpTo q e.0
    none_behind q (inl same) h = same_up q e.0 same
    none_behind q (inr there) h = absurd (true≢false (sym more ∙ by_place (first_or_rest f row q there)))
      where
        by_place : (q ≡ f.0) ⊎ IsSome (value_at q row) → IsUpTo f.0 x
        by_place (inl same) = subst (λ (y : Name). IsUpTo y x) same h
        by_place (inr behind_) = up_trans f.0 q x (less_up f.0 q (found_behind f.0 q row up.1.0 behind_)) h

-- the only node is over each name from its low on
pub over_only : (e : Name × Node) (x : Name) → IsUpTo e.0 x → IsOver (e ∷ []) x e
over_only e x below = record { there = first_is e []; below = below; most = λ q there _. alone q (first_or_rest e [] q there) }
  where
    alone : (q : Name) → (q ≡ e.0) ⊎ IsSome (value_at {V = Node} q []) → IsUpTo q e.0
    alone q (inl same) = same_up q e.0 same
    alone q (inr none) = absurd (true≢false (sym none))

-- of rising lows, the first of which is up to a name, one is over it
over_from : (e : Name × Node) (row : NodeRow) (x : Name) → IsStrictlySortedBy name_cmp (keys_of (e ∷ row)) → IsUpTo e.0 x → (f : Name × Node) × IsOver (e ∷ row) x f
unfolding IsStrictlySortedBy
over_from e [] x up below = (e, over_only e x below)
over_from e (f ∷ row) x up below = by_test (is_gt (name_cmp f.0 x)) refl (λ h. over_from f row x up.1 h)
  where
    by_test : (t : Bool) → is_gt (name_cmp f.0 x) ≡ t → (IsUpTo f.0 x → (o : Name × Node) × IsOver (f ∷ row) x o) → (o : Name × Node) × IsOver (e ∷ f ∷ row) x o
    by_test true more rest = (e, over_first e f row x up below more)
    by_test false up_to rest = let found = rest up_to in (found.0, over_more e f row x found.0 up found.1)

pub is_over : (row : NodeRow) (x : Name) → IsRising row → IsSome (value_at least row) → (e : Name × Node) × IsOver row x e
unfolding IsStrictlySortedBy
is_over [] x up there = absurd (true≢false (sym there))
is_over (e ∷ row) x up there = over_from e row x up (by_place (first_or_rest e row least there))
  where
    by_place : (least ≡ e.0) ⊎ IsSome (value_at least row) → IsUpTo e.0 x
    by_place (inl same) = subst (λ (y : Name). IsUpTo y x) same (least_up x)
    by_place (inr behind) = absurd (below_least e.0 (found_behind e.0 least row up.0 behind))

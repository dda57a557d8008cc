-- A node is over the names from its low on and below the low behind it.
use Rattle.std.proofs.Common.{◌≡◌, ◌⊎◌, ◌&&◌, [], ◌∷◌, Bool, true, false, cond, not, Option, Some, IsSome, option_map, refl, ap, sym, subst, ◌∙◌, inl, inr, Ordering, Less, Equal, Greater, is_gt, is_ge, is_lt}
use Rattle.std.specs.List.Sorted.{IsStrictlySortedBy}
use Rattle.std.proofs.lemmas.Bool.{true≢false}
use Rattle.je_order.specs.Order.{name_cmp}
use Rattle.je_order.specs.Edges.{is_below, is_between}
use Rattle.je_order.specs.Edges.Edge.{At, Behind}
use Rattle.je_order.specs.declared.name.Name.{Name}
use Rattle.record_map.specs.Cells.{value_at, IsRising, first_of, from_edge, upper_edge}
use Rattle.record_map.proofs.NameLaws.{up_from_back}
use Rattle.tree_nodes.specs.declared.node.Node.{Node}
use Rattle.tree_nodes.specs.Nodes.{NodeRow, IsUpTo, IsOver, low_behind}
use Rattle.db_tree.proofs.Order.{less_up, same_up, up_trans}
use Rattle.db_tree.proofs.Over.{found_behind, first_or_rest}

ge_not_less : (o : Ordering) → is_ge o ≡ true → o ≡ Less → ⊥
ge_not_less o ge less = true≢false (sym ge ∙ ap is_ge less)

gt_up : (a b : Name) → is_gt (name_cmp a b) ≡ true → IsUpTo a b → ⊥
gt_up a b gt up = true≢false (sym gt ∙ up)

-- the first low above another one is up to each that is above it
pub first_least : (row : NodeRow) (low q : Name) → IsRising row → IsSome (value_at q row) → name_cmp low q ≡ Less → (h : Name) × (low_behind low row ≡ Some h) × IsUpTo h q
unfolding IsStrictlySortedBy
first_least [] low q up there less = absurd (true≢false (sym there))
first_least (e ∷ row) low q up there less = by_test (is_ge (name_cmp low e.0)) refl (first_or_rest e row q there) (λ rest. first_least row low q up.1 rest less)
  where
    at_first : (q ≡ e.0) ⊎ IsSome (value_at q row) → IsUpTo e.0 q
    at_first (inl same) = same_up e.0 q (sym same)
    at_first (inr rest) = less_up e.0 q (found_behind e.0 q row up.0 rest)

    by_test : (t : Bool) → is_ge (name_cmp low e.0) ≡ t → (q ≡ e.0) ⊎ IsSome (value_at q row) → (IsSome (value_at q row) → (h : Name) × (low_behind low row ≡ Some h) × IsUpTo h q) →
        (h : Name) × (low_behind low (e ∷ row) ≡ Some h) × IsUpTo h q
    by_test false above side more = (e.0, ap (λ (t : Bool). option_map (λ (f : Name × Node). f.0) (first_of (cond (not t && true) (e ∷ from_edge (Behind low) row) (from_edge (Behind low) row)))) above, at_first side)
    by_test true upto (inl same) more = absurd (ge_not_less (name_cmp low e.0) upto (subst (λ (y : Name). name_cmp low y ≡ Less) same less))
    by_test true upto (inr rest) more =
        let found = more rest in
        (found.0, ap (λ (t : Bool). option_map (λ (f : Name × Node). f.0) (first_of (cond (not t && true) (e ∷ from_edge (Behind low) row) (from_edge (Behind low) row)))) upto ∙ found.1, found.2)

not_true : (b c : Bool) → (not b && c) ≡ true → (b ≡ false) × (c ≡ true)
not_true true c h = absurd (true≢false (sym h))
not_true false c h = (refl, h)

pub over_within : (row : NodeRow) (x low : Name) (n : Node) → IsRising row → value_at low row ≡ Some n → is_between (At low) (upper_edge (low_behind low row)) x ≡ true → IsOver row x (low, n)
over_within row x low n up there inside = record {
  there = there;
  below = sides.0;
  most = λ q h at_most. by_order q h at_most (name_cmp low q) refl;
}
  where
    sides : (is_gt (name_cmp low x) ≡ false) × (is_below (upper_edge (low_behind low row)) x ≡ true)
    sides = not_true (is_gt (name_cmp low x)) (is_below (upper_edge (low_behind low row)) x) inside

    by_order : (q : Name) → IsSome (value_at q row) → IsUpTo q x → (o : Ordering) → name_cmp low q ≡ o → IsUpTo q low
    by_order q h at_most Less less =
        let first = first_least row low q up h less in
        let below : is_gt (name_cmp first.0 x) ≡ true = subst (λ (o : Option Name). is_below (upper_edge o) x ≡ true) first.1 sides.1 in
        absurd (gt_up first.0 x below (up_trans first.0 q x first.2 at_most))
    by_order q h at_most Equal equal = up_from_back low q (ap is_lt equal)
    by_order q h at_most Greater greater = up_from_back low q (ap is_lt greater)

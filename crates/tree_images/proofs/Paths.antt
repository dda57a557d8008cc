-- The nodes over a name, level by level.
use Rattle.std.proofs.Common.{◌≡◌, ◌≤◌, ◌<◌, ◌-◌, ◌||◌, ◌+◌, not, ℕ, zero, suc, List, [], ◌∷◌, Bool, true, false, Option, None, Some, IsSome, filter, length, refl, ap, sym, subst, ◌∙◌, arith, is_eq, is_ge, is_gt, unwrap_or, Ordering, Less, Equal, Greater}
use Rattle.std.specs.List.{slice_get, list_any, AllByRecursion}
use Rattle.std.specs.List.Sorted.{IsStrictlySortedBy}
use Rattle.std.specs.Map.{keys_of}
use Rattle.std.specs.Ordering.{ordering_reverse}
use Rattle.std.proofs.lemmas.Bool.{true≢false}
use Rattle.std.proofs.lemmas.List.Kept.{IsStrictlySortedBy-filter}
use Rattle.std.proofs.lemmas.Option.{none-some, same_Some, slice_get_within, get_or_from_slice_get}
use Rattle.je_order.specs.Order.{name_cmp}
use Rattle.je_order.specs.Edges.{is_below}
use Rattle.je_order.specs.Edges.Edge.{Behind}
use Rattle.je_order.specs.declared.name.Name.{Name}
use Rattle.je_order.proofs.Lists.{filter_all_pass}
use Rattle.node_core.proofs.NameOrder.{turned}
use Rattle.record_map.specs.declared.cell.Cell.{Cell}
use Rattle.record_map.specs.Cells.{value_at, IsRising, last_of}
use Rattle.record_map.proofs.NameLaws.{name_same}
use Rattle.tree_nodes.specs.declared.node.Node.{Node}
use Rattle.tree_nodes.specs.Nodes.{NodeRow, least, IsOver, IsUpTo, low_behind}
use Rattle.tree_nodes.specs.Levels.{row_of, AreParts}
use Rattle.tree_nodes.specs.Lows.{lows_of, low_up_to, low_after}
use Rattle.tree_nodes.proofs.LowLaws.{lows_at_is, low_after_is}
use Rattle.db_tree.specs.declared.node_split.NodeSplit.{NodeSplit}
use Rattle.db_tree.specs.Splits.{names_within, middle_name, split_at, split_over, splits_from}
use Rattle.db_tree.specs.Waiting.{is_same_name}
use Rattle.db_tree.proofs.Order.{less_up, same_up, up_trans, least_up}
use Rattle.db_tree.proofs.Over.{there_is}
use Rattle.tree_images.proofs.LogOrder.{IsIn, in_filter, in_keys, same_of}
use Rattle.tree_images.proofs.NodeSteps.{some_there}
use Rattle.tree_images.proofs.Splits.{last_holds, low_there, lows_height, IsFor, split_for}

-- ---- the greatest low up to a name

pub in_holds : (P : Name → Type 0) (q : Name) (names : List Name) → AllByRecursion P names → IsIn q names → P q
in_holds P q [] all h = absurd (true≢false (sym h))
in_holds P q (y ∷ names) all h = by_test (is_same_name y q) refl (in_holds P q names all.1) h
  where
    by_test : (t : Bool) → is_same_name y q ≡ t → (IsIn q names → P q) → (t || list_any (λ (z : Name). is_same_name z q) names) ≡ true → P q
    by_test true is rest h = subst P (same_of y q is) all.0
    by_test false is rest h = rest h

last_most : (names : List Name) (last : Name) → IsStrictlySortedBy name_cmp names → last_of names ≡ Some last → AllByRecursion (λ (y : Name). IsUpTo y last) names
unfolding IsStrictlySortedBy
last_most [] last up is = tt
last_most (y ∷ []) last up is = (same_up y last (same_Some y last is), tt)
last_most (y ∷ z ∷ names) last up is = let rest = last_most (z ∷ names) last up.1 is in (up_trans y z last (less_up y z up.0.0) rest.0, rest)

some_last : (q : Name) (names : List Name) → IsIn q names → last_of names ≡ None → ⊥
some_last q [] h none = true≢false (sym h)
some_last q (y ∷ []) h none = none-some y (sym none)
some_last q (y ∷ z ∷ names) h none = some_last z (z ∷ names) (ap (λ (t : Bool). t || list_any (λ (w : Name). is_same_name w z) names) (ap is_eq (name_same z))) none

ge_up : (x y : Name) → is_ge (name_cmp x y) ≡ not (is_gt (name_cmp y x))
ge_up x y = ap is_ge (turned y x (name_cmp y x) refl) ∙ by_order (name_cmp y x)
  where
    by_order : (o : Ordering) → is_ge (ordering_reverse o) ≡ not (is_gt o)
    by_order Less = refl
    by_order Equal = refl
    by_order Greater = refl

ge_from : (x y : Name) → IsUpTo y x → is_ge (name_cmp x y) ≡ true
ge_from x y up = ge_up x y ∙ ap not up

up_from : (x y : Name) → is_ge (name_cmp x y) ≡ true → IsUpTo y x
up_from x y ge = by_test (is_gt (name_cmp y x)) refl (sym (ge_up x y) ∙ ge)
  where
    by_test : (t : Bool) → is_gt (name_cmp y x) ≡ t → not t ≡ true → is_gt (name_cmp y x) ≡ false
    by_test true is h = absurd (true≢false (sym h))
    by_test false is h = is

-- it is that of the node over the name
pub low_is_over : (row : NodeRow) (x : Name) → IsRising row → IsSome (value_at least row) → (node : Node) × IsOver row x (low_up_to x (keys_of row), node)
low_is_over row x up some = by_last (last_of lows) refl
  where
    up_to : Name → Bool
    up_to low = is_below (Behind x) low

    lows : List Name
    lows = filter up_to (keys_of row)

    node : (node : Node) × (value_at (low_up_to x (keys_of row)) row ≡ Some node)
    node = some_there row (low_up_to x (keys_of row)) (low_there row x some)

    by_last : (o : Option Name) → last_of lows ≡ o → (node : Node) × IsOver row x (low_up_to x (keys_of row), node)
    by_last None is = absurd (some_last least lows (in_filter up_to least (keys_of row) (in_keys row least some) (ge_from x least (least_up x))) is)
    by_last (Some low) is = (
      node.0,
      record {
        there = node.1;
        below = subst (λ (y : Name). IsUpTo y x) (sym low_is) (up_from x low (last_holds (λ (y : Name). up_to y ≡ true) lows low (filter_all_pass up_to (keys_of row)) is));
        most = λ q there at_most.
            subst (IsUpTo q) (sym low_is)
            (in_holds (λ (y : Name). IsUpTo y low) q lows (last_most lows low (IsStrictlySortedBy-filter name_cmp up_to (keys_of row) up) is)
            (in_filter up_to q (keys_of row) (in_keys row q there) (ge_from x q at_most)));
      },
    )
      where
        low_is : low_up_to x (keys_of row) ≡ low
        low_is = ap (λ (o : Option Name). unwrap_or o least) is

-- ---- the splits for a name

-- a split is of the node over the name
pub record IsSplitFor (row : NodeRow) (x : Name) (split : NodeSplit) : Type 0 where
  pub node : Node
  pub over : IsOver row x (split.low, node)
  pub high : split.high ≡ low_behind split.low row

split_parts : (fanout : ℕ) (x : Name) (names : List Name) (row : NodeRow) (split : NodeSplit) → IsRising row → IsSome (value_at least row) → split_over fanout x names (keys_of row) ≡ Some split → IsSplitFor row x split
split_parts fanout x names row split up some is = by_middle (middle_name fanout (names_within x (keys_of row) names)) is
  where
    low : Name
    low = low_up_to x (keys_of row)

    by_middle : (o : Option Name) → split_at low (low_after low (keys_of row)) o ≡ Some split → IsSplitFor row x split
    by_middle None h = absurd (none-some split h)
    by_middle (Some middle) h =
        let over = low_is_over row x up some in
        subst (IsSplitFor row x) (same_Some (record { low = low; middle = middle; high = low_after low (keys_of row) }) split h)
        (record { node = over.0; over = over.1; high = sym (low_after_is low row) })

pub path_of : (fanout : ℕ) (x : Name) (cells : List (Name × Cell)) (rows : List NodeRow) → AreParts rows → (k : ℕ) (split : NodeSplit) → slice_get (splits_from fanout x (keys_of cells) (lows_of rows)) k ≡ Some split →
    IsSplitFor (row_of rows k) x split
path_of fanout x cells rows parts k split is = by_for (split_for fanout x (keys_of cells) (lows_of rows) k split is)
  where
    by_for : IsFor fanout x (lows_of rows) k split → IsSplitFor (row_of rows k) x split
    by_for f =
        let lt : k < length rows = subst (λ (n : ℕ). k < n) (lows_height rows) (slice_get_within (lows_of rows) k f.keys f.level) in
        let keys : f.keys ≡ keys_of (row_of rows k) = sym (get_or_from_slice_get (lows_of rows) k f.keys [] f.level) ∙ lows_at_is rows k in
        split_parts fanout x f.names (row_of rows k) split (parts.rising k) (parts.parts k lt) (ap (split_over fanout x f.names) (sym keys) ∙ f.made)

-- ---- levels one above another

nested_by : (rows : List NodeRow) (q : Name) → AreParts rows → (k more : ℕ) → IsSome (value_at q (row_of rows (k + more))) → IsSome (value_at q (row_of rows k))
nested_by rows q parts k zero h = subst (λ (i : ℕ). IsSome (value_at q (row_of rows i))) (let e : k + 0 ≡ k = omega arith in e) h
nested_by rows q parts k (suc more) h =
    nested_by rows q parts k more (parts.nested (k + more) q (subst (λ (i : ℕ). IsSome (value_at q (row_of rows i))) (let e : k + suc more ≡ suc (k + more) = omega arith in e) h))

nested_from : (rows : List NodeRow) (q : Name) (k j : ℕ) → AreParts rows → k ≤ j → IsSome (value_at q (row_of rows j)) → IsSome (value_at q (row_of rows k))
nested_from rows q k j parts le h = nested_by rows q parts k (j - k) (subst (λ (i : ℕ). IsSome (value_at q (row_of rows i))) (let e : j ≡ k + (j - k) = omega (arith, le) in e) h)

-- the node over a node that is over a name is over the name
pub up_over : (rows : List NodeRow) (k j : ℕ) (q : Name) (p e : Name × Node) → AreParts rows → k ≤ j → IsOver (row_of rows k) q p → IsOver (row_of rows j) p.0 e → IsOver (row_of rows j) q e
up_over rows k j q p e parts le lower upper = record {
  there = upper.there;
  below = up_trans e.0 p.0 q upper.below lower.below;
  most = λ r there at_most. upper.most r there (lower.most r (nested_from rows r k j parts le there) at_most);
}

-- and a node over a name is over the nodes below it that are over the name
pub down_over : (rows : List NodeRow) (k j : ℕ) (x : Name) (p e : Name × Node) → AreParts rows → k ≤ j → IsOver (row_of rows k) x p → IsOver (row_of rows j) x e → IsOver (row_of rows j) p.0 e
down_over rows k j x p e parts le lower upper = record {
  there = upper.there;
  below = lower.most e.0 (nested_from rows e.0 k j parts le (there_is (row_of rows j) e.0 e.1 upper.there)) upper.below;
  most = λ r there at_most. upper.most r there (up_trans r p.0 x at_most lower.below);
}

-- Splits are taken back.
use Rattle.std.proofs.Common.{◌≡◌, ◌<◌, ◌≤◌, ◌-◌, ◌+◌, ◌++◌, ◌∷◌, [], ℕ, zero, suc, List, true, false, None, IsSome, length, take, get_or, refl, ap, sym, subst, ◌∙◌, arith, is_eq, ◌⊎◌, inl, inr}
use Rattle.std.proofs.lemmas.Bool.{true≢false}
use Rattle.std.proofs.lemmas.List.{take_more, length-take-le}
use Rattle.je_order.specs.Order.{name_cmp}
use Rattle.je_order.specs.declared.name.Name.{Name}
use Rattle.record_map.specs.Cells.{value_at}
use Rattle.record_map.proofs.NameLaws.{same_or_other}
use Rattle.tree_nodes.specs.declared.node.Node.{Node}
use Rattle.tree_nodes.specs.Nodes.{NodeRow, least}
use Rattle.tree_nodes.specs.Levels.{row_of, AreParts, HasPutAt}
use Rattle.db_tree.specs.declared.node_split.NodeSplit.{NodeSplit}
use Rattle.db_tree.specs.Splitting.{AreSameByName, IsSplitAt, AreSplit}
use Rattle.tree_nodes.proofs.RisingLists.{same_lists}

-- ---- levels that are the same

each_same : (a b : List NodeRow) → length a ≡ length b → ((k : ℕ) → get_or a k [] ≡ get_or b k []) → a ≡ b
each_same [] [] same rows = refl
each_same [] (y ∷ ys) same rows = absurd (omega (arith, same))
each_same (x ∷ xs) [] same rows = absurd (omega (arith, same))
each_same (x ∷ xs) (y ∷ ys) same rows =
    let rest : length xs ≡ length ys = omega (arith, same) in
    ap (λ (row : NodeRow). row ∷ xs) (rows 0) ∙ ap (λ (l : List NodeRow). y ∷ l) (each_same xs ys rest (λ k. rows (suc k)))

-- levels with the same nodes under the same lows are the same
pub same_levels : (before new : List NodeRow) → AreParts before → AreParts new → length new ≡ length before → AreSameByName before new → new ≡ before
same_levels before new was are height same = each_same new before height (λ k. same_lists (row_of new k) (row_of before k) (are.rising k) (was.rising k) (λ x. same k x))

-- ---- one split

pub split_there : (before now : List NodeRow) (level : ℕ) (middle : Name) → IsSplitAt before now level middle → level < length now
split_there before now level middle is = subst (λ (n : ℕ). level < n) (sym is.put.height) is.there

none_some : (row : NodeRow) (x : Name) → value_at x row ≡ None → IsSome (value_at x row) → ⊥
none_some row x none some = true≢false (sym (subst IsSome none some))

pub split_not_least : (before now : List NodeRow) (level : ℕ) (middle : Name) → IsSplitAt before now level middle → is_eq (name_cmp middle least) ≡ true → ⊥
split_not_least before now level middle is equal = by_name (same_or_other middle least)
  where
    by_name : (middle ≡ least) ⊎ (is_eq (name_cmp middle least) ≡ false) → ⊥
    by_name (inl same) = none_some (row_of before level) least (subst (λ (y : Name). value_at y (row_of before level) ≡ None) same is.free) (is.parts.parts level is.there)
    by_name (inr apart) = true≢false (sym equal ∙ apart)

pub split_none_above : (before now : List NodeRow) (level : ℕ) (middle : Name) → IsSplitAt before now level middle → IsSome (value_at middle (row_of now (suc level))) → ⊥
split_none_above before now level middle is some =
    none_some (row_of before level) middle is.free
    (is.parts.nested level middle (subst (λ (row : NodeRow). IsSome (value_at middle row)) (is.put.others (suc level) (λ (h : suc level ≡ level). absurd (omega (arith, h)))) some))

pub split_back : (before now new : List NodeRow) (level : ℕ) (middle : Name) → IsSplitAt before now level middle → AreParts new → length new ≡ length now →
    ((old : List NodeRow) (node : Node) → value_at middle (row_of old level) ≡ None → HasPutAt old now level middle node → AreSameByName old new) → new ≡ before
split_back before now new level middle is are height back = same_levels before new is.parts are (height ∙ is.put.height) (back before is.node is.free is.put)

-- ---- several

pub splits_last : (level : ℕ) (xs : List NodeSplit) (s : NodeSplit) (old new : List NodeRow) → AreSplit level (xs ++ s ∷ []) old new →
    (mid : List NodeRow) × AreSplit level xs old mid × IsSplitAt mid new (level + length xs) s.middle
splits_last level [] s old new are =
    let here : level ≡ level + length {A = NodeSplit} [] = omega arith in
    (old, refl, subst (λ (l : ℕ). IsSplitAt old new l s.middle) here (subst (λ (rows : List NodeRow). IsSplitAt old rows level s.middle) (sym are.2) are.1))
splits_last level (x ∷ xs) s old new are =
    let rest = splits_last (suc level) xs s are.0 new are.2 in
    let here : suc level + length xs ≡ level + length (x ∷ xs) = omega arith in
    (rest.0, (are.0, are.1, rest.1), subst (λ (l : ℕ). IsSplitAt rest.0 new l s.middle) here rest.2)

pub splits_more : (level : ℕ) (xs : List NodeSplit) (s : NodeSplit) (old mid new : List NodeRow) → AreSplit level xs old mid → IsSplitAt mid new (level + length xs) s.middle → AreSplit level (xs ++ s ∷ []) old new
splits_more level [] s old mid new are is =
    let here : level + length {A = NodeSplit} [] ≡ level = omega arith in
    (new, subst (λ (l : ℕ). IsSplitAt old new l s.middle) here (subst (λ (rows : List NodeRow). IsSplitAt rows new (level + 0) s.middle) are is), refl)
splits_more level (x ∷ xs) s old mid new are is =
    let here : level + length (x ∷ xs) ≡ suc level + length xs = omega arith in
    (are.0, are.1, splits_more (suc level) xs s are.0 mid new are.2 (subst (λ (l : ℕ). IsSplitAt mid new l s.middle) here is))

at_zero : (splits : List NodeSplit) (level : ℕ) → level ≤ length splits → level ≡ 0 + length (take level splits)
at_zero splits level at_most = let same : length (take level splits) ≡ level = length-take-le level splits at_most in omega (arith, same)

-- one level more was split
pub split_level : (splits : List NodeSplit) (level : ℕ) (other : NodeSplit) (old mid new : List NodeRow) → level < length splits →
    AreSplit 0 (take level splits) old mid → IsSplitAt mid new level (get_or splits level other).middle → AreSplit 0 (take (level + 1) splits) old new
split_level splits level other old mid new within are last =
    let at_most : level ≤ length splits = omega (arith, within) in
    let here : level ≡ 0 + length (take level splits) = at_zero splits level at_most in
    subst (λ (l : List NodeSplit). AreSplit 0 l old new) (sym (take_more splits level other within))
    (splits_more 0 (take level splits) (get_or splits level other) old mid new are (subst (λ (l : ℕ). IsSplitAt mid new l (get_or splits level other).middle) here last))

-- the last level of some was joined
pub join_level : (splits : List NodeSplit) (count i level : ℕ) (other : NodeSplit) (before now new : List NodeRow) → count ≤ length splits → i < count → level ≡ count - 1 - i →
    ((mid : List NodeRow) → IsSplitAt mid now level (get_or splits level other).middle → new ≡ mid) → AreSplit 0 (take (count - i) splits) before now → AreSplit 0 (take (count - (i + 1)) splits) before new
join_level splits count i level other before now new most within at back are =
    subst (λ (n : ℕ). AreSplit 0 (take n splits) before new) rest
    (subst (AreSplit 0 (take level splits) before) (sym (back found.0 (subst (λ (l : ℕ). IsSplitAt found.0 now l (get_or splits level other).middle) (sym here) found.2))) found.1)
  where
    rest : level ≡ count - (i + 1)
    rest = omega (arith, within, at)

    less : level < length splits
    less = omega (arith, within, at, most)

    more : count - i ≡ level + 1
    more = omega (arith, within, at)

    here : level ≡ 0 + length (take level splits)
    here = let at_most : level ≤ length splits = omega (arith, less) in at_zero splits level at_most

    found : (mid : List NodeRow) × AreSplit 0 (take level splits) before mid × IsSplitAt mid now (0 + length (take level splits)) (get_or splits level other).middle
    found = splits_last 0 (take level splits) (get_or splits level other) before now
        (subst (λ (l : List NodeSplit). AreSplit 0 l before now) (ap (λ (n : ℕ). take n splits) more ∙ take_more splits level other less) are)

-- all levels of some were joined
pub join_end : (splits : List NodeSplit) (count i : ℕ) (before now : List NodeRow) → count ≤ i → AreSplit 0 (take (count - i) splits) before now → now ≡ before
join_end splits count i before now past are =
    let none : count - i ≡ 0 = omega (arith, past) in
    by_take splits (subst (λ (n : ℕ). AreSplit 0 (take n splits) before now) none are)
  where
    by_take : (l : List NodeSplit) → AreSplit 0 (take 0 l) before now → now ≡ before
    by_take [] h = h
    by_take (s ∷ l) h = h

pub take_whole : (splits : List NodeSplit) (n : ℕ) → length splits ≤ n → take n splits ≡ splits
take_whole [] zero past = refl
take_whole [] (suc n) past = refl
take_whole (s ∷ splits) zero past = absurd (omega (arith, past))
take_whole (s ∷ splits) (suc n) past = let less : length splits ≤ n = omega (arith, past) in ap (λ (l : List NodeSplit). s ∷ l) (take_whole splits n less)

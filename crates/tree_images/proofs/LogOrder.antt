-- The nodes that are logged for a name's slot: each behind its children.
use Rattle.std.proofs.Common.{◌≡◌, ◌==◌, ◌&&◌, ◌||◌, ◌≤◌, ◌<◌, ◌⊎◌, ◌+◌, ℕ, zero, suc, List, [], ◌∷◌, Bool, true, false, cond, Some, IsSome, filter, refl, ap, ap₂, sym, subst, ◌∙◌, inl, inr, arith, is_eq}
use Rattle.std.specs.List.{slice_get, list_any, AllByRecursion}
use Rattle.std.specs.Map.{keys_of}
use Rattle.std.proofs.lemmas.Bool.{true≢false, ne_eqb, eq-eqb}
use Rattle.std.proofs.lemmas.Option.{none-some, same_Some}
use Rattle.std.proofs.Math.Nat.{le_refl}
use Rattle.je_order.specs.Order.{name_cmp}
use Rattle.je_order.specs.declared.name.Name.{Name}
use Rattle.je_order.proofs.Lists.{all_weaker, all_append}
use Rattle.je_order.proofs.Orderings.{equal_from_test}
use Rattle.record_map.specs.Cells.{value_at}
use Rattle.record_map.proofs.NameLaws.{name_exact, name_same, same_or_other, other_stays}
use Rattle.tree_nodes.specs.declared.node.Node.{Node}
use Rattle.tree_nodes.specs.Nodes.{NodeRow}
use Rattle.tree_nodes.specs.Levels.{row_of}
use Rattle.tree_nodes.specs.Lows.{lows_at}
use Rattle.db_tree.specs.declared.node_at.NodeAt.{NodeAt}
use Rattle.db_tree.specs.declared.node_split.NodeSplit.{NodeSplit}
use Rattle.db_tree.specs.Waiting.{is_same_name, is_forced, waits_in, waiting_in, waiting_of, at_level, is_logged_before, waiting_below, halves_of, is_among}
use Rattle.db_tree.proofs.Over.{there_is}
use Rattle.tree_images.proofs.Grown.{among_front, among_back}

-- ---- names among some

abbrev pub IsIn : Name → List Name → Type 0
IsIn q names = list_any (λ (y : Name). is_same_name y q) names ≡ true

pub same_of : (y q : Name) → is_same_name y q ≡ true → y ≡ q
same_of y q h = name_exact y q (equal_from_test (name_cmp y q) h)

pub in_filter : (p : Name → Bool) (q : Name) (names : List Name) → IsIn q names → p q ≡ true → IsIn q (filter p names)
in_filter p q [] h pass = h
in_filter p q (y ∷ names) h pass = by_test (is_same_name y q) refl (λ k. in_filter p q names k pass) h
  where
    by_pass : (t : Bool) → p y ≡ t → (IsIn q names → IsIn q (filter p names)) → IsIn q names → IsIn q (cond t (y ∷ filter p names) (filter p names))
    by_pass true is rest h = by_same (is_same_name y q)
      where
        by_same : (s : Bool) → (s || list_any (λ (z : Name). is_same_name z q) (filter p names)) ≡ true
        by_same true = refl
        by_same false = rest h
    by_pass false is rest h = rest h

    by_test : (t : Bool) → is_same_name y q ≡ t → (IsIn q names → IsIn q (filter p names)) → (t || list_any (λ (z : Name). is_same_name z q) names) ≡ true → IsIn q (cond (p y) (y ∷ filter p names) (filter p names))
    by_test true is rest h =
        let passes : p y ≡ true = ap p (same_of y q is) ∙ pass in
        subst (λ (t : Bool). IsIn q (cond t (y ∷ filter p names) (filter p names))) (sym passes) (ap (λ (s : Bool). s || list_any (λ (z : Name). is_same_name z q) (filter p names)) is)
    by_test false is rest h = by_pass (p y) refl rest h

pub in_keys : (row : NodeRow) (q : Name) → IsSome (value_at q row) → IsIn q (keys_of row)
in_keys [] q h = absurd (true≢false (sym h))
in_keys (e ∷ row) q h = by_name (same_or_other q e.0) (λ k. in_keys row q k)
  where
    by_name : (q ≡ e.0) ⊎ (is_eq (name_cmp q e.0) ≡ false) → (IsSome (value_at q row) → IsIn q (keys_of row)) → IsIn q (e.0 ∷ keys_of row)
    by_name (inl same) rest = ap (λ (s : Bool). s || list_any (λ (z : Name). is_same_name z q) (keys_of row)) (subst (λ (y : Name). is_same_name e.0 y ≡ true) (sym same) (ap is_eq (name_same e.0)))
    by_name (inr apart) rest = by_same (is_same_name e.0 q)
      where
        by_same : (s : Bool) → (s || list_any (λ (z : Name). is_same_name z q) (keys_of row)) ≡ true
        by_same true = refl
        by_same false = rest (subst IsSome (other_stays q e.0 (Some e.1) (value_at q row) apart) h)

among_level : (level : ℕ) (q : Name) (names : List Name) → IsIn q names → is_among (at_level level names) level q ≡ true
among_level level q [] h = h
among_level level q (y ∷ names) h = by_test (is_same_name y q) (among_level level q names) h
  where
    by_test : (t : Bool) → (IsIn q names → is_among (at_level level names) level q ≡ true) → (t || list_any (λ (z : Name). is_same_name z q) names) ≡ true → (((level == level) && t) || is_among (at_level level names) level q) ≡ true
    by_test true rest h = ap (λ (s : Bool). (s && true) || is_among (at_level level names) level q) (eq-eqb level level refl)
    by_test false rest h = ap (λ (s : Bool). s || is_among (at_level level names) level q) (and_false (level == level)) ∙ rest h
      where
        and_false : (s : Bool) → (s && false) ≡ false
        and_false true = refl
        and_false false = refl

-- ---- nodes from a level on

abbrev pub AreFrom : ℕ → List NodeAt → Type 0
AreFrom k due = AllByRecursion (λ (n : NodeAt). k ≤ n.level) due

pub not_among : (k j : ℕ) (q : Name) (due : List NodeAt) → j < k → AreFrom k due → is_among due j q ≡ false
not_among k j q [] lt all = refl
not_among k j q (n ∷ due) lt all =
    let le = all.0 in
    ap (λ (t : Bool). (t && is_same_name n.low q) || is_among due j q) (ne_eqb n.level j (λ (e : n.level ≡ j). absurd (omega (arith, e, le, lt)))) ∙ not_among k j q due lt all.1

pub at_level_from : (level : ℕ) (names : List Name) → AreFrom level (at_level level names)
at_level_from level [] = tt
at_level_from level (y ∷ names) = (le_refl level, at_level_from level names)

pub from_lower : (k j : ℕ) (due : List NodeAt) → k ≤ j → AreFrom j due → AreFrom k due
from_lower k j due le all = all_weaker (λ (n : NodeAt). j ≤ n.level) (λ n. k ≤ n.level) (λ n h. omega (arith, h, le)) due all

pub halves_from : (level : ℕ) (splits : List NodeSplit) → AreFrom level (halves_of level splits)
halves_from level [] = tt
halves_from level (s ∷ splits) = (le_refl level, (le_refl level, from_lower level (suc level) (halves_of (suc level) splits) (omega arith) (halves_from (suc level) splits)))

pub below_from : (level : ℕ) (top : NodeSplit) (splits : List NodeSplit) (waiting : List (List Name)) → AreFrom level (waiting_below level top splits waiting)
below_from level top [] waiting = tt
below_from level top (s ∷ splits) waiting =
    all_append (λ (n : NodeAt). level ≤ n.level) (at_level level (filter (is_logged_before top s) (lows_at waiting level))) (waiting_below (suc level) top splits waiting)
    (at_level_from level (filter (is_logged_before top s) (lows_at waiting level))) (from_lower level (suc level) (waiting_below (suc level) top splits waiting) (omega arith) (below_from (suc level) top splits waiting))

-- ---- nodes that wait are among those that are logged first

pub waiting_at_is : (rows : List NodeRow) (level : ℕ) → lows_at (waiting_of rows) level ≡ waiting_in (row_of rows level)
waiting_at_is [] level = refl
waiting_at_is (row ∷ rows) zero = refl
waiting_at_is (row ∷ rows) (suc level) = waiting_at_is rows level

pub is_waiting : (row : NodeRow) (q : Name) (c : Node) → value_at q row ≡ Some c → c.forced ≡ true → IsIn q (waiting_in row)
is_waiting row q c there waits = in_filter (waits_in row) q (keys_of row) (in_keys row q (there_is row q c there)) (ap is_forced there ∙ waits)

pub among_below : (level : ℕ) (top : NodeSplit) (splits : List NodeSplit) (waiting : List (List Name)) (k : ℕ) (split : NodeSplit) (q : Name) → slice_get splits k ≡ Some split → IsIn q (lows_at waiting (level + k)) →
    is_logged_before top split q ≡ true → is_among (waiting_below level top splits waiting) (level + k) q ≡ true
among_below level top [] waiting k split q is here pass = absurd (none-some split is)
among_below level top (s ∷ splits) waiting zero split q is here pass =
    let e : level + 0 ≡ level = omega arith in
    subst (λ (i : ℕ). is_among (waiting_below level top (s ∷ splits) waiting) i q ≡ true) (sym e)
    (among_front (at_level level (filter (is_logged_before top s) (lows_at waiting level))) (waiting_below (suc level) top splits waiting) level q
    (among_level level q (filter (is_logged_before top s) (lows_at waiting level))
    (in_filter (is_logged_before top s) q (lows_at waiting level) (subst (λ (i : ℕ). IsIn q (lows_at waiting i)) e here) (ap (λ (t : NodeSplit). is_logged_before top t q) (same_Some s split is) ∙ pass))))
among_below level top (s ∷ splits) waiting (suc k) split q is here pass =
    let e : level + suc k ≡ suc level + k = omega arith in
    among_back (at_level level (filter (is_logged_before top s) (lows_at waiting level))) (waiting_below (suc level) top splits waiting) (level + suc k) q
    (subst (λ (i : ℕ). is_among (waiting_below (suc level) top splits waiting) i q ≡ true) (sym e)
    (among_below (suc level) top splits waiting k split q is (subst (λ (i : ℕ). IsIn q (lows_at waiting i)) e here) pass))

-- a node that is no half is not among the halves
pub halves_not : (level : ℕ) (splits : List NodeSplit) (k : ℕ) (split : NodeSplit) (q : Name) → slice_get splits k ≡ Some split → is_same_name split.low q ≡ false → is_same_name split.middle q ≡ false →
    is_among (halves_of level splits) (level + k) q ≡ false
halves_not level [] k split q is low middle = refl
halves_not level (s ∷ splits) zero split q is low middle =
    let same = same_Some s split is in
    let e : level + 0 ≡ level = omega arith in
    ap₂ (λ (a b : Bool). ((level == level + 0) && a) || (((level == level + 0) && b) || is_among (halves_of (suc level) splits) (level + 0) q)) (ap (λ (t : NodeSplit). is_same_name t.low q) same ∙ low) (ap (λ (t : NodeSplit). is_same_name t.middle q) same ∙ middle)
    ∙ flat (level == level + 0) (is_among (halves_of (suc level) splits) (level + 0) q)
    (not_among (suc level) (level + 0) q (halves_of (suc level) splits) (omega arith) (halves_from (suc level) splits))
  where
    flat : (t r : Bool) → r ≡ false → ((t && false) || ((t && false) || r)) ≡ false
    flat true r h = h
    flat false r h = h
halves_not level (s ∷ splits) (suc k) split q is low middle =
    let e : level + suc k ≡ suc level + k = omega arith in
    let other : (level == level + suc k) ≡ false = ne_eqb level (level + suc k) (λ (h : level ≡ level + suc k). absurd (omega (arith, h))) in
    ap (λ (t : Bool). (t && is_same_name s.low q) || ((t && is_same_name s.middle q) || is_among (halves_of (suc level) splits) (level + suc k) q)) other
    ∙ ap (λ (i : ℕ). is_among (halves_of (suc level) splits) i q) e ∙ halves_not (suc level) splits k split q is low middle

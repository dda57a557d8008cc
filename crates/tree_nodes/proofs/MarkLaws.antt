-- From which LSN on images of nodes lack something.
use Rattle.std.proofs.Common.{◌≡◌, ◌≤◌, ◌<◌, ◌+◌, ◌⊎◌, inl, inr, ℕ, List, [], Bool, false, Option, None, Some, option_map, length, refl, ap, sym, subst, ◌∙◌, arith}
use Rattle.std.proofs.lemmas.Bool.{cases_eq, cases_lt, ltb-false, le-ltb}
use Rattle.std.proofs.lemmas.List.{get_or_past}
use Rattle.std.proofs.lemmas.Option.{none-some}
use Rattle.je_order.specs.declared.name.Name.{Name}
use Rattle.record_map.specs.Cells.{value_at}
use Rattle.tree_nodes.specs.declared.node.Node.{Node}
use Rattle.tree_nodes.specs.Nodes.{NodeRow, node_at, placed}
use Rattle.tree_nodes.specs.Levels.{row_of}
use Rattle.tree_nodes.specs.Due.{AreDueKept, name_in}
use Rattle.tree_nodes.specs.Marks.{AllFrom, AllSince, IsFromRow, IsMarkOr, IsMarkOrAt, IsMarkOrOfRow, IsSinceRow, before_at, before_of, is_before, is_marked_before, mark_at, mark_of}
use Rattle.tree_nodes.proofs.Places.{value_placed}
use Rattle.tree_nodes.proofs.DuePlaces.{place_is}

-- a mark that is not before an LSN is not before a lesser one
pub marked_less : (from : Option ℕ) (a b : ℕ) → b ≤ a → is_marked_before from a ≡ false → is_marked_before from b ≡ false
marked_less None a b le none = refl
marked_less (Some f) a b le none = let up : a ≤ f = ltb-false f a none in le-ltb f b (omega (arith, le, up))

-- ---- one place after another

pub one_more : (P : ℕ → Type 0) (k : ℕ) → ((i : ℕ) → i < k → P i) → P k → (i : ℕ) → i < k + 1 → P i
one_more P k below here i less = by_place (cases_eq i k)
  where
    by_place : (i ≡ k) ⊎ (i ≡ k → ⊥) → P i
    by_place (inl same) = subst P (sym same) here
    by_place (inr other) = below i (omega (arith, less, other))

pub none_before : (since : ℕ) (names : List (Option Name)) (nodes : List Node) (k : ℕ) → length names ≤ k → ((i : ℕ) → i < k → before_at since names nodes i ≡ false) → (i : ℕ) → before_at since names nodes i ≡ false
none_before since names nodes k past below i = by_place (cases_lt i k)
  where
    by_place : (i < k) ⊎ (k ≤ i) → before_at since names nodes i ≡ false
    by_place (inl less) = below i less
    by_place (inr le) = ap (λ (o : Option Name). before_of since o (node_at nodes i)) (get_or_past names i None (omega (arith, past, le)))

pub none_marked : (least : ℕ) (names : List (Option Name)) (nodes : List Node) (k : ℕ) → length names ≤ k → ((i : ℕ) → i < k → is_marked_before (mark_at names nodes i) least ≡ false) → (i : ℕ) →
    is_marked_before (mark_at names nodes i) least ≡ false
none_marked least names nodes k past below i = by_place (cases_lt i k)
  where
    by_place : (i < k) ⊎ (k ≤ i) → is_marked_before (mark_at names nodes i) least ≡ false
    by_place (inl less) = below i less
    by_place (inr le) = ap (λ (o : Option Name). is_marked_before (mark_of o (node_at nodes i)) least) (get_or_past names i None (omega (arith, past, le)))

pub marked_more : (names : List (Option Name)) (nodes : List Node) (k a b : ℕ) → b ≤ a → is_marked_before (mark_at names nodes k) b ≡ false → ((i : ℕ) → i < k → is_marked_before (mark_at names nodes i) a ≡ false) →
    (i : ℕ) → i < k + 1 → is_marked_before (mark_at names nodes i) b ≡ false
marked_more names nodes k a b le here below = one_more (λ i. is_marked_before (mark_at names nodes i) b ≡ false) k (λ i less. marked_less (mark_at names nodes i) a b le (below i less)) here

pub mark_more : (bound : ℕ) (names : List (Option Name)) (nodes : List Node) (k a b : ℕ) → (b ≡ a) ⊎ (mark_at names nodes k ≡ Some b) → IsMarkOrAt bound names nodes a → IsMarkOrAt bound names nodes b
mark_more bound names nodes k a b (inl same) h = subst (IsMarkOrAt bound names nodes) (sym same) h
mark_more bound names nodes k a b (inr is) h = inr (k, is)

-- ---- a level

pub since_row : (since : ℕ) (lows : List (Name × ℕ)) (nodes : List Node) (names : List (Option Name)) (due : List (Option ℕ)) → AreDueKept lows nodes names due → ((i : ℕ) → before_at since names nodes i ≡ false) →
    IsSinceRow since (placed lows nodes)
since_row since lows nodes names due are none low n there =
    let p = place_is lows nodes low n there in
    subst (λ (m : Node). is_before since m ≡ false) p.2 (ap (λ (o : Option Name). before_of since o (node_at nodes p.0)) (sym (are.named low p.0 p.1)) ∙ none p.0)

pub from_row : (least : ℕ) (lows : List (Name × ℕ)) (nodes : List Node) (names : List (Option Name)) (due : List (Option ℕ)) → AreDueKept lows nodes names due → ((i : ℕ) → is_marked_before (mark_at names nodes i) least ≡ false) →
    IsFromRow least (placed lows nodes)
from_row least lows nodes names due are none low n there =
    let p = place_is lows nodes low n there in
    subst (λ (m : Node). is_marked_before m.from least ≡ false) p.2 (ap (λ (o : Option Name). is_marked_before (mark_of o (node_at nodes p.0)) least) (sym (are.named low p.0 p.1)) ∙ none p.0)

pub mark_row : (bound : ℕ) (lows : List (Name × ℕ)) (nodes : List Node) (names : List (Option Name)) (due : List (Option ℕ)) (lsn : ℕ) → AreDueKept lows nodes names due → IsMarkOrAt bound names nodes lsn →
    IsMarkOrOfRow bound (placed lows nodes) lsn
mark_row bound lows nodes names due lsn are (inl same) = inl same
mark_row bound lows nodes names due lsn are (inr (i, is)) = by_name (name_in names i) refl is
  where
    by_name : (o : Option Name) → name_in names i ≡ o → mark_of o (node_at nodes i) ≡ Some lsn → IsMarkOrOfRow bound (placed lows nodes) lsn
    by_name None named h = absurd (none-some lsn h)
    by_name (Some x) named h = inr (record { low = x; node = node_at nodes i; there = value_placed x lows nodes ∙ ap (option_map (node_at nodes)) (are.here x i named); from = h })

-- ---- the levels of a tree

pub from_more : (rows : List NodeRow) (k a b : ℕ) (row : NodeRow) → row ≡ row_of rows k → b ≤ a → IsFromRow b row → ((i : ℕ) → i < k → IsFromRow a (row_of rows i)) → (i : ℕ) → i < k + 1 → IsFromRow b (row_of rows i)
from_more rows k a b row is le here below = one_more (λ i. IsFromRow b (row_of rows i)) k (λ i less low n there. marked_less n.from a b le (below i less low n there)) (subst (IsFromRow b) is here)

pub marks_more : (bound : ℕ) (rows : List NodeRow) (k a b : ℕ) (row : NodeRow) → row ≡ row_of rows k → IsMarkOrOfRow a row b → IsMarkOr bound rows a → IsMarkOr bound rows b
marks_more bound rows k a b row is (inl same) h = subst (IsMarkOr bound rows) (sym same) h
marks_more bound rows k a b row is (inr m) h = inr (record { level = k; low = m.low; node = m.node; there = ap (λ (r : NodeRow). value_at m.low r) (sym is) ∙ m.there; from = m.from })

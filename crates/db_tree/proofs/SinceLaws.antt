-- Nodes that are not noted, and have no mark before an LSN: so are those that are split off, put above, or wait.
use Rattle.std.proofs.Common.{◌≡◌, ◌≤◌, ◌<◌, ◌⊎◌, inl, inr, ℕ, suc, zero, List, [], ◌∷◌, Bool, true, false, cond, Option, None, Some, Result, Ok, Err, OnOk, length, refl, ap, sym, subst, ◌∙◌, is_eq, arith}
use Rattle.std.specs.Prelude.{IfSome}
use Rattle.std.specs.declared.alloc.AllocError.{AllocError}
use Rattle.std.proofs.lemmas.Bool.{cases_order}
use Rattle.std.proofs.lemmas.Option.{none-some, same_Some}
use Rattle.je_order.specs.Order.{name_cmp}
use Rattle.je_order.specs.declared.name.Name.{Name}
use Rattle.record_map.specs.Cells.{value_at}
use Rattle.tree_nodes.specs.declared.node.Node.{Node}
use Rattle.tree_nodes.specs.Nodes.{NodeRow, earlier, least}
use Rattle.tree_nodes.specs.Levels.{row_of, HasPutAt, HasRaised}
use Rattle.db_tree.specs.declared.node_split.NodeSplit.{NodeSplit}
use Rattle.db_tree.specs.Notes.{IsUnnotedSince, AreUnnotedSince, is_noted_at, is_noted_one}
use Rattle.db_tree.specs.Splitting.{AreSplit, IsSplitAt}
use Rattle.db_tree.proofs.NodeSteps.{IsElsewhere, place_of, put_elsewhere, put_here}
use Rattle.db_tree.proofs.Over.{is_over}

-- a node is put
pub put_since : (from : ℕ) (old new : List NodeRow) (level : ℕ) (low : Name) (node : Node) → HasPutAt old new level low node → IsUnnotedSince from node → AreUnnotedSince from old → AreUnnotedSince from new
put_since from old new level low node put since all k x n there = by_place (place_of level low k x)
  where
    by_place : ((level ≡ k) × (low ≡ x)) ⊎ IsElsewhere level low k x → IsUnnotedSince from n
    by_place (inl h) =
        let here : value_at x (row_of new k) ≡ Some node =
        subst (λ (i : ℕ). value_at x (row_of new i) ≡ Some node) h.0 (subst (λ (y : Name). value_at y (row_of new level) ≡ Some node) h.1 (put_here old new level low node put)) in
        subst (IsUnnotedSince from) (same_Some node n (sym here ∙ there)) since
    by_place (inr other) = all k x n (sym (put_elsewhere old new level low node k x put other) ∙ there)

-- a node is split
split_since : (from : ℕ) (old new : List NodeRow) (level : ℕ) (middle : Name) → IsSplitAt old new level middle → AreUnnotedSince from old → AreUnnotedSince from new
split_since from old new level middle s all =
    let over = is_over (row_of old level) middle (s.parts.rising level) (s.parts.parts level s.there) in
    let since = all level over.0.0 over.0.1 over.1.there in
    put_since from old new level middle s.node s.put (s.noted over.0 over.1 ∙ since.0, subst (λ (o : Option ℕ). IfSome o (λ lsn. from ≤ lsn)) (sym (s.from over.0 over.1)) since.1) all

pub splits_since : (from level : ℕ) (splits : List NodeSplit) (old new : List NodeRow) → AreSplit level splits old new → AreUnnotedSince from old → AreUnnotedSince from new
splits_since from level [] old new same all = subst (AreUnnotedSince from) (sym same) all
splits_since from level (split ∷ splits) old new s all = splits_since from (suc level) splits s.0 new s.2 (split_since from old s.0 level split.middle s.1 all)

-- a root is put above the top
above : (rows : List NodeRow) (k : ℕ) → length rows ≤ k → row_of rows k ≡ []
above [] zero le = refl
above [] (suc k) le = refl
above (row ∷ rows) zero le = absurd (omega (arith, le))
above (row ∷ rows) (suc k) le = above rows k (omega (arith, le))

raise_since : (from : ℕ) (old new : List NodeRow) (root : Node) → HasRaised old new root → IsUnnotedSince from root → AreUnnotedSince from old → AreUnnotedSince from new
raise_since from old new root has since all k x n there = by_level (cases_order k (length old))
  where
    top : (o : Bool) → cond o (Some root) None ≡ Some n → IsUnnotedSince from n
    top true is = subst (IsUnnotedSince from) (same_Some root n is) since
    top false is = absurd (none-some n is)

    by_level : (k ≡ length old) ⊎ ((k < length old) ⊎ (length old < k)) → IsUnnotedSince from n
    by_level (inr (inl below)) = all k x n (sym (ap (value_at x) (has.below k below)) ∙ there)
    by_level (inl is) = top (is_eq (name_cmp least x)) (sym (has.top x) ∙ sym (ap (λ (i : ℕ). value_at x (row_of new i)) is) ∙ there)
    by_level (inr (inr past)) = absurd (none-some n (sym (ap (value_at x) (above new k (let height = has.height in omega (arith, height, past)))) ∙ there))

unnoted_top : (from : ℕ) (rows : List NodeRow) (level : ℕ) (low : Name) → AreUnnotedSince from rows → is_noted_at rows level low ≡ false
unnoted_top from rows level low all = by_node (value_at low (row_of rows level)) refl
  where
    by_node : (o : Option Node) → value_at low (row_of rows level) ≡ o → is_noted_one o ≡ false
    by_node None is = refl
    by_node (Some n) is = (all level low n is).0

pub raised_since : (r : Result (Unit {0}) AllocError) (old new : List NodeRow) (root : Node) (mark level : ℕ) (low : Name) → root.from ≡ Some mark → root.noted ≡ is_noted_at old level low → OnOk r (HasRaised old new root) →
    OnOk r (AreUnnotedSince mark old → AreUnnotedSince mark new)
raised_since (Ok x) old new root mark level low from noted has = λ all.
    raise_since mark old new root has (noted ∙ unnoted_top mark old level low all, subst (λ (o : Option ℕ). IfSome o (λ lsn. mark ≤ lsn)) (sym from) (omega arith)) all
raised_since (Err e) old new root mark level low from noted has = tt

-- a node waits
pub waits_since : (old new : List NodeRow) (level : ℕ) (low : Name) (was node : Node) (mark : ℕ) → value_at low (row_of old level) ≡ Some was → HasPutAt old new level low node → node.noted ≡ was.noted → node.from ≡ Some (earlier was.from mark) →
    AreUnnotedSince mark old → AreUnnotedSince mark new
waits_since old new level low was node mark there put noted from all =
    let since = all level low was there in
    put_since mark old new level low node put (noted ∙ since.0, subst (λ (o : Option ℕ). IfSome o (λ lsn. mark ≤ lsn)) (sym from) (later was.from since.1)) all
  where
    later : (o : Option ℕ) → IfSome o (λ lsn. mark ≤ lsn) → mark ≤ earlier o mark
    later None h = omega arith
    later (Some own) h = omega (arith, h)

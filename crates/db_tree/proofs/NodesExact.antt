-- Which BINs are dirty, where nodes change.
use Rattle.std.proofs.Common.{◌≡◌, ◌≤◌, ◌⊎◌, ◌==◌, ◌&&◌, ◌||◌, not, ℕ, suc, Bool, true, false, List, ◌∷◌, Option, Some, is_some, filter, refl, ap, ap₂, sym, subst, ◌∙◌, inl, inr, arith}
use Rattle.std.specs.List.{list_all}
use Rattle.std.proofs.lemmas.Bool.{ne_eqb, true≢false}
use Rattle.std.proofs.lemmas.Option.{same_Some}
use Rattle.je_order.specs.Edges.{is_between}
use Rattle.je_order.specs.Edges.Edge.{At}
use Rattle.je_order.specs.declared.name.Name.{Name}
use Rattle.record_map.specs.declared.cell.Cell.{Cell}
use Rattle.record_map.specs.Cells.{value_at, between_edges, upper_edge, IsRising}
use Rattle.tree_nodes.specs.declared.node.Node.{Node}
use Rattle.tree_nodes.specs.Nodes.{NodeRow, is_dirty, logged, low_behind}
use Rattle.tree_nodes.specs.Levels.{row_of, AreParts, HasPutAt}
use Rattle.tree_nodes.specs.Lows.{lows_of}
use Rattle.db_tree.specs.declared.node_at.NodeAt.{NodeAt}
use Rattle.db_tree.specs.Content.{NameState, kept_by, shown_held}
use Rattle.db_tree.specs.Dirty.{AreExact, are_as_shown, is_as_imaged}
use Rattle.record_map.specs.Cells.{is_as_shown}
use Rattle.db_tree.specs.Images.{Placed}
use Rattle.db_tree.specs.Trees.{IsImageOf}
use Rattle.db_tree.specs.Waiting.{is_among, is_same_name}
use Rattle.db_tree.proofs.Contents.{passed_found}
use Rattle.db_tree.proofs.DirtyCells.{fits, found_all, passes, passes_held}
use Rattle.db_tree.proofs.DirtyExact.{behind_same, passed_none, passed_rises}
use Rattle.db_tree.proofs.DirtyLaws.{is_same}
use Rattle.db_tree.proofs.NodeSteps.{IsElsewhere, moved, place_of, put_elsewhere, put_here}
use Rattle.db_tree.proofs.Says.{shown_behind}
use Rattle.db_tree.proofs.Within.{over_within}

-- ---- one BIN

-- a BIN that waits to be logged
pub forced_exact : (row : NodeRow) (cells : List (Name × Cell)) (low : Name) (n : Node) → n.forced ≡ true → is_dirty n ≡ not (is_as_imaged row cells (low, n))
forced_exact row cells low n forced =
    ap (λ (t : Bool). t || not (is_some n.last) || is_some n.from) forced
    ∙ sym (ap (λ (t : Bool). not (not t && (is_some n.last && are_as_shown n.last low row cells))) forced)

-- the same BIN, where no low changed
pub imaged_same : (old new : List NodeRow) (cells : List (Name × Cell)) (low : Name) (n : Node) → lows_of new ≡ lows_of old → is_as_imaged (row_of new 0) cells (low, n) ≡ is_as_imaged (row_of old 0) cells (low, n)
imaged_same old new cells low n same =
    ap (λ (h : Option Name). not n.forced && (is_some n.last && list_all (λ e. is_as_shown n.last e.1) (between_edges (At low) (upper_edge h) cells))) (behind_same old new low same)

-- an image says of a BIN's cells what is committed that was committed before it
pub shown_as_logged : (row : NodeRow) (cells : List (Name × Cell)) (low : Name) (at : ℕ) → IsRising cells → ((x : Name) → is_between (At low) (upper_edge (low_behind low row)) x ≡ true → (kept_by cells x).touched ≤ at) →
    are_as_shown (Some at) low row cells ≡ true
shown_as_logged row cells low at up before =
    found_all (is_as_shown (Some at)) (between_edges (At low) (upper_edge (low_behind low row)) cells) (passed_rises inside cells up) (λ x. by_test x (inside x) refl)
  where
    inside : Name → Bool
    inside = is_between (At low) (upper_edge (low_behind low row))

    behind : (h : NameState) → h.touched ≤ at → fits (Some at) h ≡ true
    behind h le = is_same (shown_held at h) h.version (shown_behind at h le)

    by_test : (x : Name) (t : Bool) → inside x ≡ t → passes (is_as_shown (Some at)) (value_at x (filter (λ (e : Name × Cell). inside e.0) cells)) ≡ true
    by_test x false is = ap (λ (o : Option Cell). passes (is_as_shown (Some at)) o) (passed_none inside cells x is)
    by_test x true is = ap (λ (o : Option Cell). passes (is_as_shown (Some at)) o) (passed_found inside cells x is) ∙ passes_held (Some at) (value_at x cells) ∙ behind (kept_by cells x) (before x is)

-- a BIN that was logged
pub logged_exact : (es : Placed) (old new : List NodeRow) (cells : List (Name × Cell)) (low : Name) (n : Node) (at : ℕ) → AreParts old → IsRising cells → lows_of new ≡ lows_of old → value_at low (row_of old 0) ≡ Some n →
    IsImageOf es old (kept_by cells) 0 (low, n) at → is_dirty (logged at n) ≡ not (is_as_imaged (row_of new 0) cells (low, logged at n))
logged_exact es old new cells low n at parts up lows there image =
    sym (ap not (imaged_same old new cells low (logged at n) lows
    ∙ shown_as_logged (row_of old 0) cells low at up (λ x inside. (image.shows x (over_within (row_of old 0) x low n (parts.rising 0) there inside)).1)))

-- ---- all BINs

-- more may be still to be logged
pub exact_more : (due more : List NodeAt) (rows : List NodeRow) (cells : List (Name × Cell)) → ((low : Name) → is_among due 0 low ≡ true → is_among more 0 low ≡ true) → AreExact due rows cells → AreExact more rows cells
exact_more due more rows cells within exact low n there out = exact low n there (by_test (is_among due 0 low) refl)
  where
    by_test : (t : Bool) → is_among due 0 low ≡ t → is_among due 0 low ≡ false
    by_test false is = is
    by_test true is = absurd (true≢false (sym (within low is) ∙ out))

pub exact_row : (due : List NodeAt) (old new : List NodeRow) (cells : List (Name × Cell)) → row_of new 0 ≡ row_of old 0 → AreExact due old cells → AreExact due new cells
exact_row due old new cells same exact low n there out =
    subst (λ (row : NodeRow). is_dirty n ≡ not (is_as_imaged row cells (low, n))) (sym same) (exact low n (ap (value_at low) (sym same) ∙ there) out)

among_elsewhere : (level : ℕ) (low x : Name) (due : List NodeAt) → IsElsewhere level low 0 x → is_among due 0 x ≡ false → is_among (record { level = level; low = low } ∷ due) 0 x ≡ false
among_elsewhere level low x due away out = ap₂ (λ (a b : Bool). a || b) (by_away away) out
  where
    by_level : (b : Bool) → is_same_name low x ≡ false → (b && is_same_name low x) ≡ false
    by_level true h = h
    by_level false h = refl

    by_away : IsElsewhere level low 0 x → ((level == 0) && is_same_name low x) ≡ false
    by_away (inl other) = ap (λ (t : Bool). t && is_same_name low x) (ne_eqb level 0 (λ (e : level ≡ 0). other (sym e)))
    by_away (inr apart) = by_level (level == 0) apart

-- a node was put in the place of one
pub put_exact : (due : List NodeAt) (old new : List NodeRow) (cells : List (Name × Cell)) (level : ℕ) (low : Name) (n : Node) → lows_of new ≡ lows_of old → HasPutAt old new level low n →
    (level ≡ 0 → is_dirty n ≡ not (is_as_imaged (row_of new 0) cells (low, n))) → AreExact (record { level = level; low = low } ∷ due) old cells → AreExact due new cells
put_exact due old new cells level low n lows put here exact x m there out = by_place (place_of level low 0 x)
  where
    by_place : ((level ≡ 0) × (low ≡ x)) ⊎ IsElsewhere level low 0 x → is_dirty m ≡ not (is_as_imaged (row_of new 0) cells (x, m))
    by_place (inl h) =
        subst (λ (k : Node). is_dirty k ≡ not (is_as_imaged (row_of new 0) cells (x, k))) (same_Some n m (sym (put_here old new level low n put) ∙ moved new level low 0 x m h.0 h.1 there))
        (subst (λ (y : Name). is_dirty n ≡ not (is_as_imaged (row_of new 0) cells (y, n))) h.1 (here h.0))
    by_place (inr away) =
        exact x m (sym (put_elsewhere old new level low n 0 x put away) ∙ there) (among_elsewhere level low x due away out)
        ∙ sym (ap not (imaged_same old new cells x m lows))

-- none was there
pub none_exact : (due : List NodeAt) (rows : List NodeRow) (cells : List (Name × Cell)) (level : ℕ) (low : Name) → ((m : Node) → value_at low (row_of rows level) ≡ Some m → ⊥) →
    AreExact (record { level = level; low = low } ∷ due) rows cells → AreExact due rows cells
none_exact due rows cells level low none exact x m there out = by_place (place_of level low 0 x)
  where
    by_place : ((level ≡ 0) × (low ≡ x)) ⊎ IsElsewhere level low 0 x → is_dirty m ≡ not (is_as_imaged (row_of rows 0) cells (x, m))
    by_place (inl h) = absurd (none m (moved rows level low 0 x m h.0 h.1 there))
    by_place (inr away) = exact x m there (among_elsewhere level low x due away out)

-- a node was logged
pub noted_exact : (es : Placed) (due : List NodeAt) (old mid new : List NodeRow) (cells : List (Name × Cell)) (level : ℕ) (low : Name) (n : Node) (at : ℕ) → AreParts old → IsRising cells → lows_of mid ≡ lows_of old → lows_of new ≡ lows_of old →
    ((k : ℕ) → (k ≡ suc level → ⊥) → row_of mid k ≡ row_of old k) → value_at low (row_of old level) ≡ Some n → HasPutAt mid new level low (logged at n) → IsImageOf es old (kept_by cells) level (low, n) at →
    AreExact (record { level = level; low = low } ∷ due) old cells → AreExact due new cells
noted_exact es due old mid new cells level low n at parts up lows_mid lows others there put image exact =
    put_exact due mid new cells level low (logged at n) (lows ∙ sym lows_mid) put
    (λ is. logged_exact es old new cells low n at parts up lows (subst (λ (k : ℕ). value_at low (row_of old k) ≡ Some n) is there) (subst (λ (k : ℕ). IsImageOf es old (kept_by cells) k (low, n) at) is image))
    (exact_row (record { level = level; low = low } ∷ due) old mid cells (others 0 (λ (h : 0 ≡ suc level). absurd (omega (arith, h)))) exact)

-- Changes of cells that leave which BINs have their last images' content.
use Rattle.std.proofs.Common.{◌≡◌, ◌⊎◌, ◌&&◌, not, ℕ, Bool, true, false, cond, List, [], ◌∷◌, Option, None, Some, is_some, filter, refl, ap, ap₂, sym, subst, ◌∙◌, inl, inr, is_eq}
use Rattle.std.specs.Prelude.{nat_lt}
use Rattle.std.specs.List.{list_all}
use Rattle.std.specs.List.Sorted.{IsStrictlySortedBy}
use Rattle.std.specs.Map.{keys_of}
use Rattle.je_order.specs.Order.{name_cmp}
use Rattle.je_order.specs.Edges.{is_between}
use Rattle.je_order.specs.Edges.Edge.{At}
use Rattle.je_order.specs.declared.name.Name.{Name}
use Rattle.node_core.specs.declared.slot.Version.{Version}
use Rattle.node_core.specs.declared.slot.Version.TheVariants.{Unset}
use Rattle.record_map.specs.declared.cell.Cell.{Cell}
use Rattle.record_map.specs.Cells.{value_at, upper_edge, IsRising}
use Rattle.record_map.proofs.NameLaws.{same_or_other, other_stays, same_gets}
use Rattle.tree_nodes.specs.Nodes.{NodeRow, low_behind}
use Rattle.tree_nodes.specs.Levels.{row_of}
use Rattle.tree_nodes.proofs.RisingLists.{none_behind}
use Rattle.db_tree.specs.declared.node_at.NodeAt.{NodeAt}
use Rattle.db_tree.specs.Content.{NameState, held_under, kept_by, shown_held}
use Rattle.db_tree.specs.Dirty.{AreExact}
use Rattle.record_map.specs.Cells.{is_as_shown, is_same_version}
use Rattle.db_tree.proofs.Contents.{passed_found}
use Rattle.db_tree.proofs.DirtyExact.{passed_none, passed_rises}
use Rattle.db_tree.proofs.DirtyLaws.{all_pass}

-- ---- lists

abbrev pub passes : (Cell → Bool) → Option Cell → Bool
passes p None = true
passes p (Some cell) = p cell

bool_same : (a b : Bool) → (a ≡ true → b ≡ true) → (b ≡ true → a ≡ true) → a ≡ b
bool_same true b to back = sym (to refl)
bool_same false true to back = back refl
bool_same false false to back = refl

pub all_found : (p : Cell → Bool) (cells : List (Name × Cell)) → list_all (λ e. p e.1) cells ≡ true → (x : Name) → passes p (value_at x cells) ≡ true
all_found p cells all x = by_cell (value_at x cells) refl
  where
    by_cell : (o : Option Cell) → value_at x cells ≡ o → passes p o ≡ true
    by_cell None there = refl
    by_cell (Some cell) there = all_pass p cells x cell all there

pub found_all : (p : Cell → Bool) (cells : List (Name × Cell)) → IsStrictlySortedBy name_cmp (keys_of cells) → ((x : Name) → passes p (value_at x cells) ≡ true) → list_all (λ e. p e.1) cells ≡ true
unfolding IsStrictlySortedBy
found_all p [] up found = refl
found_all p (e ∷ cells) up found = ap₂ (λ (a b : Bool). a && b) first (found_all p cells up.1 rest)
  where
    first : p e.1 ≡ true
    first = sym (ap (λ (o : Option Cell). passes p o) (same_gets e.0 (Some e.1) (value_at e.0 cells))) ∙ found e.0

    rest : (x : Name) → passes p (value_at x cells) ≡ true
    rest x = by_name (same_or_other x e.0)
      where
        by_name : (x ≡ e.0) ⊎ (is_eq (name_cmp x e.0) ≡ false) → passes p (value_at x cells) ≡ true
        by_name (inl same) = ap (λ (o : Option Cell). passes p o) (subst (λ (y : Name). value_at y cells ≡ None) (sym same) (none_behind e.0 cells up.0))
        by_name (inr apart) = sym (ap (λ (o : Option Cell). passes p o) (other_stays x e.0 (Some e.1) (value_at x cells) apart)) ∙ found x

-- those between two edges all pass where each name finds one that passes as before
pub all_same : (p : Cell → Bool) (q : Name → Bool) (old new : List (Name × Cell)) → IsRising old → IsRising new → ((x : Name) → passes p (value_at x new) ≡ passes p (value_at x old)) →
    list_all (λ e. p e.1) (filter (λ e. q e.0) new) ≡ list_all (λ e. p e.1) (filter (λ e. q e.0) old)
all_same p q old new up_old up_new same =
    bool_same (list_all (λ e. p e.1) (filter (λ e. q e.0) new)) (list_all (λ e. p e.1) (filter (λ e. q e.0) old))
    (λ h. found_all p (filter (λ e. q e.0) old) (passed_rises q old up_old) (λ x. sym (within x (q x) refl) ∙ all_found p (filter (λ e. q e.0) new) h x))
    (λ h. found_all p (filter (λ e. q e.0) new) (passed_rises q new up_new) (λ x. within x (q x) refl ∙ all_found p (filter (λ e. q e.0) old) h x))
  where
    within : (x : Name) (t : Bool) → q x ≡ t → passes p (value_at x (filter (λ (e : Name × Cell). q e.0) new)) ≡ passes p (value_at x (filter (λ (e : Name × Cell). q e.0) old))
    within x true is = ap (λ (o : Option Cell). passes p o) (passed_found q new x is) ∙ same x ∙ sym (ap (λ (o : Option Cell). passes p o) (passed_found q old x is))
    within x false is = ap (λ (o : Option Cell). passes p o) (passed_none q new x is ∙ sym (passed_none q old x is))

-- ---- what is held

abbrev pub says_of : Option ℕ → NameState → Version
says_of None h = h.shown
says_of (Some at) h = shown_held at h

abbrev pub fits : Option ℕ → NameState → Bool
fits last h = is_same_version (says_of last h) h.version

pub passes_held : (last : Option ℕ) (o : Option Cell) → passes (is_as_shown last) o ≡ fits last (held_under o)
passes_held None None = refl
passes_held (Some at) None = by_test (nat_lt at 0)
  where
    by_test : (t : Bool) → true ≡ is_same_version (cond t Unset Unset) Unset
    by_test true = refl
    by_test false = refl
passes_held None (Some cell) = refl
passes_held (Some at) (Some cell) = refl

-- BINs are dirty as before where what is held stays
pub exact_held : (due : List NodeAt) (rows : List NodeRow) (old new : List (Name × Cell)) → IsRising old → IsRising new → ((x : Name) → kept_by new x ≡ kept_by old x) → AreExact due rows old → AreExact due rows new
exact_held due rows old new up_old up_new same exact low n there out =
    exact low n there out
    ∙ sym (ap (λ (t : Bool). not (not n.forced && (is_some n.last && t)))
    (all_same (is_as_shown n.last) (is_between (At low) (upper_edge (low_behind low (row_of rows 0)))) old new up_old up_new
    (λ x. passes_held n.last (value_at x new) ∙ ap (fits n.last) (same x) ∙ sym (passes_held n.last (value_at x old)))))

-- The image of an IN that is made of its children shows what their images show.
use Rattle.std.proofs.Common.{◌≡◌, ◌⊎◌, ◌++◌, ℕ, suc, List, [], ◌∷◌, Bool, true, false, cond, not, Option, None, Some, IsSome, filter, refl, ap, sym, subst, ◌∙◌, inl, inr, Ordering, Less, Equal, Greater, is_eq, is_gt}
use Rattle.std.specs.Ordering.{is_le}
use Rattle.std.specs.List.Sorted.{IsStrictlySortedBy}
use Rattle.std.specs.Map.{keys_of}
use Rattle.std.specs.Option.{option_and_then}
use Rattle.std.proofs.lemmas.Bool.{true≢false}
use Rattle.std.proofs.lemmas.Option.{same_Some}
use Rattle.std.proofs.lemmas.List.Kept.{IsStrictlySortedBy-filter}
use Rattle.je_order.specs.Order.{name_cmp}
use Rattle.je_order.specs.Edges.{is_between}
use Rattle.je_order.specs.Edges.Edge.{At}
use Rattle.je_order.specs.declared.name.Name.{Name}
use Rattle.log_entry.specs.declared.entry.Entry.{Entry}
use Rattle.record_map.specs.Cells.{value_at, upper_edge}
use Rattle.record_map.proofs.NameLaws.{same_or_other, other_stays}
use Rattle.tree_nodes.specs.declared.node.Node.{Node}
use Rattle.tree_nodes.specs.Nodes.{NodeRow, IsUpTo, IsOver, low_behind}
use Rattle.tree_nodes.specs.Levels.{row_of}
use Rattle.db_tree.specs.Images.{Placed, entry_at, child_in, child_over, child_behind, shows, shown, IsRead}
use Rattle.db_tree.specs.Content.{child_slot_for, child_slots}
use Rattle.db_tree.specs.Laws.{InImagesShowChildren}
use Rattle.db_tree.proofs.Order.{less_up, same_up, less_not_up, up_trans}
use Rattle.db_tree.proofs.Over.{there_is, over_once, over_low, over_more, over_first, over_only, found_behind, first_is, first_or_rest}
use Rattle.db_tree.proofs.Contents.{within, between_before, passed_found, passed_is}
use Rattle.db_tree.proofs.Logging.{child_is_over}
use Rattle.db_tree.proofs.Within.{over_within}

keys_passed : {V : Type 0} (p : Name → Bool) (row : List (Name × V)) → keys_of (filter (λ e. p e.0) row) ≡ filter p (keys_of row)
keys_passed p [] = refl
keys_passed {V} p (e ∷ row) = by_test (p e.0) (keys_passed p row)
  where
    by_test : (t : Bool) → keys_of (filter (λ (f : Name × V). p f.0) row) ≡ filter p (keys_of row) →
        keys_of (cond t (e ∷ filter (λ (f : Name × V). p f.0) row) (filter (λ (f : Name × V). p f.0) row)) ≡ cond t (e.0 ∷ filter p (keys_of row)) (filter p (keys_of row))
    by_test true rest = ap (λ (names : List Name). e.0 ∷ names) rest
    by_test false rest = rest

-- a name that is found among those that pass a test passes it
passed_true : {V : Type 0} (p : Name → Bool) (row : List (Name × V)) (x : Name) → IsSome (value_at x (filter (λ e. p e.0) row)) → p x ≡ true
passed_true p [] x h = absurd (true≢false (sym h))
passed_true {V} p (e ∷ row) x h = by_test (p e.0) refl (passed_true p row x) h
  where
    by_name : (x ≡ e.0) ⊎ (is_eq (name_cmp x e.0) ≡ false) → p e.0 ≡ true → (IsSome (value_at x (filter (λ (f : Name × V). p f.0) row)) → p x ≡ true) →
        IsSome (value_at x (e ∷ filter (λ (f : Name × V). p f.0) row)) → p x ≡ true
    by_name (inl same) is rest there = ap p same ∙ is
    by_name (inr apart) is rest there = rest (subst IsSome (other_stays x e.0 (Some e.1) (value_at x (filter (λ (f : Name × V). p f.0) row)) apart) there)

    by_test : (t : Bool) → p e.0 ≡ t → (IsSome (value_at x (filter (λ (f : Name × V). p f.0) row)) → p x ≡ true) →
        IsSome (value_at x (cond t (e ∷ filter (λ (f : Name × V). p f.0) row) (filter (λ (f : Name × V). p f.0) row))) → p x ≡ true
    by_test true is rest there = by_name (same_or_other x e.0) is rest there
    by_test false is rest there = rest there

-- each node of a level has an image
abbrev HaveImages : NodeRow → Type 0
HaveImages row = (f : Name × Node) → value_at f.0 row ≡ Some f.1 → (lsn : ℕ) × (f.1.last ≡ Some lsn)

le_from_gt : (o : Ordering) → is_le o ≡ not (is_gt o)
le_from_gt Less = refl
le_from_gt Equal = refl
le_from_gt Greater = refl

-- the child that is found from the first one on is that of the node over the name
child_is : (e : Name × Node) (row : NodeRow) (x : Name) (lsn : ℕ) → IsStrictlySortedBy name_cmp (keys_of (e ∷ row)) → IsUpTo e.0 x → HaveImages (e ∷ row) → e.1.last ≡ Some lsn →
    (f : Name × Node) × IsOver (e ∷ row) x f × (Some (child_behind x lsn (child_slots row)) ≡ f.1.last)
unfolding IsStrictlySortedBy
child_is e [] x lsn up below images is = (e, over_only e x below, sym is)
child_is e (f ∷ row) x lsn up below images is =
    let next = images f (next_there (same_or_other f.0 e.0)) in
    by_test next (is_gt (name_cmp f.0 x)) refl (λ h. child_is f row x next.0 up.1 h later next.1)
  where
    next_there : (f.0 ≡ e.0) ⊎ (is_eq (name_cmp f.0 e.0) ≡ false) → value_at f.0 (e ∷ f ∷ row) ≡ Some f.1
    next_there (inl same) = absurd (less_not_up e.0 f.0 up.0.0 (same_up f.0 e.0 same))
    next_there (inr apart) = other_stays f.0 e.0 (Some e.1) (value_at f.0 (f ∷ row)) apart ∙ first_is f row

    later : HaveImages (f ∷ row)
    later g there = by_name (same_or_other g.0 e.0)
      where
        by_name : (g.0 ≡ e.0) ⊎ (is_eq (name_cmp g.0 e.0) ≡ false) → (k : ℕ) × (g.1.last ≡ Some k)
        by_name (inl same) = absurd (less_not_up e.0 g.0 (found_behind e.0 g.0 (f ∷ row) up.0 (there_is (f ∷ row) g.0 g.1 there)) (same_up g.0 e.0 same))
        by_name (inr apart) = images g (other_stays g.0 e.0 (Some e.1) (value_at g.0 (f ∷ row)) apart ∙ there)

    step : (k : ℕ) → f.1.last ≡ Some k → child_behind x lsn (child_slots (f ∷ row)) ≡ cond (is_le (name_cmp f.0 x)) (child_behind x k (child_slots row)) lsn
    step k at = ap (λ (o : Option ℕ). child_behind x lsn (child_slot_for f.0 o ++ child_slots row)) at

    by_test : (next : (k : ℕ) × (f.1.last ≡ Some k)) → (t : Bool) → is_gt (name_cmp f.0 x) ≡ t →
        (IsUpTo f.0 x → (o : Name × Node) × IsOver (f ∷ row) x o × (Some (child_behind x next.0 (child_slots row)) ≡ o.1.last)) →
        (o : Name × Node) × IsOver (e ∷ f ∷ row) x o × (Some (child_behind x lsn (child_slots (f ∷ row))) ≡ o.1.last)
    by_test next true more rest = (
      e,
      over_first e f row x up below more,
      ap Some (step next.0 next.1 ∙ ap (λ (t : Bool). cond t (child_behind x next.0 (child_slots row)) lsn) (le_from_gt (name_cmp f.0 x) ∙ ap not more)) ∙ sym is,
    )
    by_test next false up_to rest =
        let found = rest up_to in (
          found.0,
          over_more e f row x found.0 up found.1,
          ap Some (step next.0 next.1 ∙ ap (λ (t : Bool). cond t (child_behind x next.0 (child_slots row)) lsn) (le_from_gt (name_cmp f.0 x) ∙ ap not up_to)) ∙ found.2,
        )

-- the child that the slots of a level show for a name is that of the node over it
child_found : (row : NodeRow) (x low : Name) (c : Name × Node) → IsStrictlySortedBy name_cmp (keys_of row) → IsSome (value_at low row) → IsUpTo low x → HaveImages row → IsOver row x c →
    child_over x (child_slots row) ≡ c.1.last
unfolding IsStrictlySortedBy
child_found [] x low c up there below images over = absurd (true≢false (sym there))
child_found (e ∷ row) x low c up there below images over =
    let first = images e (first_is e row) in
    let found = child_is e row x first.0 up (first_up (first_or_rest e row low there)) images first.1 in
    ap (λ (o : Option ℕ). child_over x (child_slot_for e.0 o ++ child_slots row)) first.1
    ∙ found.2
    ∙ ap (λ (n : Node). n.last) (same_node found.0 found.1)
  where
    first_up : (low ≡ e.0) ⊎ IsSome (value_at low row) → IsUpTo e.0 x
    first_up (inl same) = subst (λ (y : Name). IsUpTo y x) same below
    first_up (inr behind) = up_trans e.0 low x (less_up e.0 low (found_behind e.0 low row up.0 behind)) below

    same_node : (f : Name × Node) → IsOver (e ∷ row) x f → f.1 ≡ c.1
    same_node f other =
        let names : f.0 ≡ c.0 = over_once (e ∷ row) x f c other over in
        same_Some f.1 c.1 (sym other.there ∙ ap (λ (y : Name). value_at y (e ∷ row)) names ∙ over.there)

-- so it is among the nodes that pass a test, as do a low up to the name and the node over it
among_passed : (p : Name → Bool) (row : NodeRow) (x low : Name) (c : Name × Node) → IsStrictlySortedBy name_cmp (keys_of row) → p low ≡ true → IsSome (value_at low row) → IsUpTo low x →
    p c.0 ≡ true → ((f : Name × Node) → p f.0 ≡ true → value_at f.0 row ≡ Some f.1 → (lsn : ℕ) × (f.1.last ≡ Some lsn)) → IsOver row x c → child_over x (child_slots (filter (λ e. p e.0) row)) ≡ c.1.last
among_passed p row x low c up low_passes there below c_passes images over =
    child_found (filter (λ (e : Name × Node). p e.0) row) x low c
    (subst (IsStrictlySortedBy name_cmp) (sym (keys_passed p row)) (IsStrictlySortedBy-filter name_cmp p (keys_of row) up))
    (subst IsSome (sym (passed_found p row low low_passes)) there)
    below
    (λ f is. let passes = passed_true p row f.0 (there_is (filter (λ (e : Name × Node). p e.0) row) f.0 f.1 is) in images f passes (sym (passed_found p row f.0 passes) ∙ is))
    (record {
      there = passed_found p row c.0 c_passes ∙ over.there;
      below = over.below;
      most = λ q h. over.most q (passed_is p row q h);
    })

then_shown : (es : Placed) (level : ℕ) (x : Name) (o : Option ℕ) → option_and_then (λ child. shows es level child x) o ≡ shown es level o x
then_shown es level x None = refl
then_shown es level x (Some at) = refl

pub ins_show : InImagesShowChildren
ins_show es rows held db number of_level level at low n are there imaged is = record {
  reads = λ x over. reads x over (child_is_over rows level x low are (there_is (row_of rows (suc level)) low n there));
  shows = λ x over c lower. ap (option_and_then (λ child. shows es level child x)) (found x over c lower) ∙ then_shown es level x c.1.last;
  names = found;
}
  where
    found : (x : Name) → IsOver (row_of rows (suc level)) x (low, n) → (c : Name × Node) → IsOver (row_of rows level) x c → child_in (entry_at es at) x ≡ c.1.last
    found x over c lower =
        let upto = upper_edge (low_behind low (row_of rows (suc level))) in
        let x_passes : is_between (At low) upto x ≡ true = within (row_of rows (suc level)) x (low, n) over in
        let low_there : IsSome (value_at low (row_of rows level)) = are.nested level low (there_is (row_of rows (suc level)) low n there) in
        let low_up : IsUpTo low c.0 = lower.most low low_there over.below in
        ap (λ (o : Option Entry). child_in o x) is
        ∙ among_passed (is_between (At low) upto) (row_of rows level) x low c (are.rising level)
        (between_before low x low upto (same_up low low refl) over.below x_passes) low_there over.below
        (between_before low x c.0 upto low_up lower.below x_passes)
        (λ f passes at_f. let image = imaged f.0 f (over_within (row_of rows (suc level)) f.0 low n (are.rising (suc level)) there passes) (over_low (row_of rows level) f.0 f.1 at_f) in (image.0, image.1))
        lower

    reads : (x : Name) → IsOver (row_of rows (suc level)) x (low, n) → (c : Name × Node) × IsOver (row_of rows level) x c → IsRead es (suc level) at x
    reads x over child =
        let image = imaged x child.0 over child.1 in
        (image.0, found x over child.0 child.1 ∙ image.1, image.2)

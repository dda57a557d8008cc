-- Images that are made of a node's content show it.
use Rattle.std.proofs.Common.{◌≡◌, ◌⊎◌, List, [], ◌∷◌, ◌++◌, Bool, true, false, cond, not, ◌&&◌, Option, None, Some, IsSome, filter, option_map, find, refl, ap, ap₂, sym, subst, ◌∙◌, inl, inr, Ordering, Less, Equal, Greater, is_eq, is_gt, Bor, IfSome, option_copied}
use Rattle.std.specs.Ordering.{is_ge}
use Rattle.std.specs.List.Sorted.{IsStrictlySortedBy}
use Rattle.std.specs.Map.{keys_of}
use Rattle.std.proofs.lemmas.Bool.{true≢false}
use Rattle.std.proofs.lemmas.Option.{none-some, same_Some}
use Rattle.je_order.specs.Order.{name_cmp}
use Rattle.je_order.specs.Edges.{Edge, is_below, is_between}
use Rattle.je_order.specs.Edges.Edge.{At, Behind, End}
use Rattle.je_order.specs.declared.name.Name.{Name}
use Rattle.log_entry.specs.declared.record_slot.RecordSlot.{RecordSlot}
use Rattle.log_entry.specs.declared.entry.Entry.{Entry}
use Rattle.node_core.specs.declared.slot.Version.{Version}
use Rattle.node_core.specs.declared.slot.Version.TheVariants.{There, Deleted, Unset}
use Rattle.record_map.specs.declared.cell.Cell.{Cell}
use Rattle.record_map.specs.Held.{names_are_ordered}
use Rattle.record_map.specs.Cells.{value_at, first_of, from_edge, upper_edge}
use Rattle.record_map.proofs.NameLaws.{same_or_other, name_same, other_stays, same_gets}
use Rattle.tree_nodes.specs.declared.node.Node.{Node}
use Rattle.tree_nodes.specs.Nodes.{NodeRow, IsUpTo, IsOver, low_behind}
use Rattle.tree_nodes.specs.Levels.{row_of}
use Rattle.tree_nodes.proofs.RisingLists.{none_behind}
use Rattle.db_tree.specs.Images.{slot_version, version_imaged, IsBin}
use Rattle.db_tree.specs.Content.{held_under, kept_by, slot_for, record_slots}
use Rattle.db_tree.specs.Laws.{BinImagesShowCells}
use Rattle.db_tree.proofs.Order.{up_cases, less_not_up, up_trans}

-- ---- what lies between a low and the one behind it

less_from_ge : (o : Ordering) → (not (is_ge o) && true) ≡ true → o ≡ Less
less_from_ge Less h = refl
less_from_ge Equal h = cc
less_from_ge Greater h = cc

-- the first that passes a test is among all, and passes it
first_passes : {V : Type 0} (p : Name → Bool) (row : List (Name × V)) (e : Name × V) → first_of (filter (λ f. p f.0) row) ≡ Some e → (p e.0 ≡ true) × IsSome (value_at e.0 row)
first_passes p [] e h = absurd (none-some e h)
first_passes {V} p (f ∷ row) e h = by_test (p f.0) refl (first_passes p row e) h
  where
    by_name : (e.0 ≡ f.0) ⊎ (is_eq (name_cmp e.0 f.0) ≡ false) → IsSome (value_at e.0 row) → IsSome (cond (is_eq (name_cmp e.0 f.0)) (Some f.1) (value_at e.0 row))
    by_name (inl same) there = subst (λ (y : Name). IsSome (cond (is_eq (name_cmp e.0 y)) (Some f.1) (value_at e.0 row))) same (subst IsSome (sym (same_gets e.0 (Some f.1) (value_at e.0 row))) refl)
    by_name (inr apart) there = subst IsSome (sym (other_stays e.0 f.0 (Some f.1) (value_at e.0 row) apart)) there

    by_test : (t : Bool) → p f.0 ≡ t → (first_of (filter (λ g. p g.0) row) ≡ Some e → (p e.0 ≡ true) × IsSome (value_at e.0 row)) →
        first_of (cond t (f ∷ filter (λ g. p g.0) row) (filter (λ g. p g.0) row)) ≡ Some e → (p e.0 ≡ true) × IsSome (value_at e.0 (f ∷ row))
    by_test true is rest h =
        let same : f ≡ e = same_Some f e h in
        (subst (λ (g : Name × V). p g.0 ≡ true) same is, subst (λ (g : Name × V). IsSome (value_at g.0 (f ∷ row))) same (subst IsSome (sym (same_gets f.0 (Some f.1) (value_at f.0 row))) refl))
    by_test false is rest h = let found = rest h in (found.0, by_name (same_or_other e.0 f.0) found.1)

-- the low behind one is above it
pub above_low : (low high : Name) (row : NodeRow) → low_behind low row ≡ Some high → name_cmp low high ≡ Less
above_low low high row is = by_first (first_of (from_edge (Behind low) row)) refl is
  where
    by_first : (o : Option (Name × Node)) → first_of (from_edge (Behind low) row) ≡ o → option_map (λ (f : Name × Node). f.0) o ≡ Some high → name_cmp low high ≡ Less
    by_first None first h = absurd (none-some high h)
    by_first (Some f) first h =
        subst (λ (y : Name). name_cmp low y ≡ Less) (same_Some f.0 high h) (less_from_ge (name_cmp low f.0) (first_passes (is_between (Behind low) End) row f first).0)

pub above_if_some : (o : Option (Bor Name)) (low : Name) (row : NodeRow) → option_copied o ≡ low_behind low row → IfSome o (λ h. name_cmp low h.now ≡ Less)
above_if_some None low row is = tt
above_if_some (Some h) low row is = above_low low h.now row (sym is)

-- a name that a node is over is between the node's low and the one behind
pub within : (row : NodeRow) (x : Name) (e : Name × Node) → IsOver row x e → is_between (At e.0) (upper_edge (low_behind e.0 row)) x ≡ true
within row x e over = ap₂ (λ (a b : Bool). not a && b) over.below (by_high (first_of (from_edge (Behind e.0) row)) refl)
  where
    by_high : (o : Option (Name × Node)) → first_of (from_edge (Behind e.0) row) ≡ o → is_below (upper_edge (option_map (λ (f : Name × Node). f.0) o)) x ≡ true
    by_high None is = refl
    by_high (Some f) is = by_test (is_gt (name_cmp f.0 x)) refl
      where
        found : (is_between (Behind e.0) End f.0 ≡ true) × IsSome (value_at f.0 row)
        found = first_passes (is_between (Behind e.0) End) row f is

        by_test : (t : Bool) → is_gt (name_cmp f.0 x) ≡ t → is_gt (name_cmp f.0 x) ≡ true
        by_test true h = h
        by_test false h = absurd (less_not_up e.0 f.0 (less_from_ge (name_cmp e.0 f.0) found.0) (over.most f.0 found.1 h))

-- a name before one that is within is within too, from the low on
pub between_before : (low x y : Name) (upto : Edge) → IsUpTo low y → IsUpTo y x → is_between (At low) upto x ≡ true → is_between (At low) upto y ≡ true
between_before low x y upto from up h = ap₂ (λ (a b : Bool). not a && b) from (by_edge upto (second (not (is_gt (name_cmp low x))) (is_below upto x) h))
  where
    second : (a b : Bool) → (a && b) ≡ true → b ≡ true
    second true b e = e
    second false b e = absurd (true≢false (sym e))

    by_edge : (edge : Edge) → is_below edge x ≡ true → is_below edge y ≡ true
    by_edge Edge.First e = e
    by_edge (At h) e = by_test (is_gt (name_cmp h y)) refl
      where
        by_test : (t : Bool) → is_gt (name_cmp h y) ≡ t → is_gt (name_cmp h y) ≡ true
        by_test true is = is
        by_test false is = absurd (true≢false (sym e ∙ up_trans h y x is up))
    by_edge (Behind h) e = by_test (is_ge (name_cmp h y)) refl
      where
        by_test : (t : Bool) → is_ge (name_cmp h y) ≡ t → is_ge (name_cmp h y) ≡ true
        by_test true is = is
        by_test false is = absurd (true≢false (sym e ∙ not_ge (name_cmp h x) (less_on (name_cmp h y) refl is)))
          where
            less_on : (o : Ordering) → name_cmp h y ≡ o → is_ge o ≡ false → name_cmp h x ≡ Less
            less_on Less at k = by_up (up_cases y x up)
              where
                by_up : (y ≡ x) ⊎ (name_cmp y x ≡ Less) → name_cmp h x ≡ Less
                by_up (inl same) = subst (λ (z : Name). name_cmp h z ≡ Less) same at
                by_up (inr less) = names_are_ordered.trans h y x at less
            less_on Equal at k = absurd (true≢false k)
            less_on Greater at k = absurd (true≢false k)

            not_ge : (o : Ordering) → o ≡ Less → is_ge o ≡ false
            not_ge o is_less = ap is_ge is_less
    by_edge End e = refl

-- what is found among those that pass a test
pub passed_found : {V : Type 0} (p : Name → Bool) (row : List (Name × V)) (x : Name) → p x ≡ true → value_at x (filter (λ e. p e.0) row) ≡ value_at x row
passed_found p [] x h = refl
passed_found {V} p (e ∷ row) x h = by_test (p e.0) refl (passed_found p row x h) (same_or_other x e.0)
  where
    by_test : (t : Bool) → p e.0 ≡ t → value_at x (filter (λ (f : Name × V). p f.0) row) ≡ value_at x row → (x ≡ e.0) ⊎ (is_eq (name_cmp x e.0) ≡ false) →
        value_at x (cond t (e ∷ filter (λ (f : Name × V). p f.0) row) (filter (λ (f : Name × V). p f.0) row)) ≡ value_at x (e ∷ row)
    by_test true is rest side = ap (cond (is_eq (name_cmp x e.0)) (Some e.1)) rest
    by_test false is rest (inl same) = absurd (true≢false (sym h ∙ ap p same ∙ is))
    by_test false is rest (inr apart) = rest ∙ sym (other_stays x e.0 (Some e.1) (value_at x row) apart)

pub passed_is : {V : Type 0} (p : Name → Bool) (row : List (Name × V)) (x : Name) → IsSome (value_at x (filter (λ e. p e.0) row)) → IsSome (value_at x row)
passed_is p [] x h = h
passed_is {V} p (e ∷ row) x h = by_test (p e.0) (passed_is p row x) h
  where
    more : (t : Bool) → IsSome (value_at x row) → IsSome (cond t (Some e.1) (value_at x row))
    more true there = refl
    more false there = there

    kept : (t : Bool) → (IsSome (value_at x (filter (λ (f : Name × V). p f.0) row)) → IsSome (value_at x row)) → IsSome (cond t (Some e.1) (value_at x (filter (λ (f : Name × V). p f.0) row))) → IsSome (cond t (Some e.1) (value_at x row))
    kept true rest there = refl
    kept false rest there = rest there

    by_test : (t : Bool) → (IsSome (value_at x (filter (λ (f : Name × V). p f.0) row)) → IsSome (value_at x row)) →
        IsSome (value_at x (cond t (e ∷ filter (λ (f : Name × V). p f.0) row) (filter (λ (f : Name × V). p f.0) row))) → IsSome (value_at x (e ∷ row))
    by_test true rest there = kept (is_eq (name_cmp x e.0)) rest there
    by_test false rest there = more (is_eq (name_cmp x e.0)) (rest there)

-- ---- BINs

-- the slots of cells that pass a test show what is held under a name that passes it
shows_held : (p : Name → Bool) (cells : List (Name × Cell)) (x : Name) → IsStrictlySortedBy name_cmp (keys_of cells) → p x ≡ true →
    slot_version (find (λ (slot : RecordSlot). is_eq (name_cmp x slot.name)) (record_slots (filter (λ e. p e.0) cells))) ≡ (kept_by cells x).version
unfolding IsStrictlySortedBy
shows_held p [] x up h = refl
shows_held p (e ∷ cells) x up h = by_name (same_or_other x e.0) (shows_held p cells x up.1 h)
  where
    -- a cell of another name is passed over
    over_slots : (v : Version) → is_eq (name_cmp x e.0) ≡ false → slot_version (find (λ (slot : RecordSlot). is_eq (name_cmp x slot.name)) (slot_for e.0 v ++ record_slots (filter (λ (f : Name × Cell). p f.0) cells))) ≡ slot_version (find (λ (slot : RecordSlot). is_eq (name_cmp x slot.name)) (record_slots (filter (λ (f : Name × Cell). p f.0) cells)))
    over_slots (There lsn) apart = ap slot_version (other_stays x e.0 (Some (record { name = e.0; lsn = Some lsn })) (find (λ (slot : RecordSlot). is_eq (name_cmp x slot.name)) (record_slots (filter (λ (f : Name × Cell). p f.0) cells))) apart)
    over_slots Deleted apart = ap slot_version (other_stays x e.0 (Some (record { name = e.0; lsn = None })) (find (λ (slot : RecordSlot). is_eq (name_cmp x slot.name)) (record_slots (filter (λ (f : Name × Cell). p f.0) cells))) apart)
    over_slots Unset apart = refl

    -- a cell of the name shows what it holds, and is the only one
    at_slots : (v : Version) → is_eq (name_cmp x e.0) ≡ true → value_at x cells ≡ None → slot_version (find (λ (slot : RecordSlot). is_eq (name_cmp x slot.name)) (record_slots (filter (λ (f : Name × Cell). p f.0) cells))) ≡ (kept_by cells x).version →
        slot_version (find (λ (slot : RecordSlot). is_eq (name_cmp x slot.name)) (slot_for e.0 v ++ record_slots (filter (λ (f : Name × Cell). p f.0) cells))) ≡ v
    at_slots (There lsn) same none rest = ap (λ (t : Bool). slot_version (cond t (Some (record { name = e.0; lsn = Some lsn })) (find (λ (slot : RecordSlot). is_eq (name_cmp x slot.name)) (record_slots (filter (λ (f : Name × Cell). p f.0) cells))))) same
    at_slots Deleted same none rest = ap (λ (t : Bool). slot_version (cond t (Some (record { name = e.0; lsn = None })) (find (λ (slot : RecordSlot). is_eq (name_cmp x slot.name)) (record_slots (filter (λ (f : Name × Cell). p f.0) cells))))) same
    at_slots Unset same none rest = rest ∙ ap (λ (o : Option Cell). (held_under o).version) none

    by_name : (x ≡ e.0) ⊎ (is_eq (name_cmp x e.0) ≡ false) → slot_version (find (λ (slot : RecordSlot). is_eq (name_cmp x slot.name)) (record_slots (filter (λ (f : Name × Cell). p f.0) cells))) ≡ (kept_by cells x).version →
        slot_version (find (λ (slot : RecordSlot). is_eq (name_cmp x slot.name)) (record_slots (filter (λ (f : Name × Cell). p f.0) (e ∷ cells)))) ≡ (kept_by (e ∷ cells) x).version
    by_name (inl same) rest =
        let equal : is_eq (name_cmp x e.0) ≡ true = subst (λ (y : Name). is_eq (name_cmp x y) ≡ true) same (ap is_eq (name_same x)) in
        let none : value_at x cells ≡ None = subst (λ (y : Name). value_at y cells ≡ None) (sym same) (none_behind e.0 cells up.0) in
        ap (λ (t : Bool). slot_version (find (λ (slot : RecordSlot). is_eq (name_cmp x slot.name)) (record_slots (cond t (e ∷ filter (λ (f : Name × Cell). p f.0) cells) (filter (λ (f : Name × Cell). p f.0) cells))))) (ap p (sym same) ∙ h)
        ∙ at_slots e.1.version equal none rest
        ∙ sym (ap (λ (t : Bool). (held_under (cond t (Some e.1) (value_at x cells))).version) equal)
    by_name (inr apart) rest =
        by_test (p e.0) ∙ rest ∙ sym (ap (λ (o : Option Cell). (held_under o).version) (other_stays x e.0 (Some e.1) (value_at x cells) apart))
      where
        by_test : (t : Bool) → slot_version (find (λ (slot : RecordSlot). is_eq (name_cmp x slot.name)) (record_slots (cond t (e ∷ filter (λ (f : Name × Cell). p f.0) cells) (filter (λ (f : Name × Cell). p f.0) cells)))) ≡ slot_version (find (λ (slot : RecordSlot). is_eq (name_cmp x slot.name)) (record_slots (filter (λ (f : Name × Cell). p f.0) cells)))
        by_test true = over_slots e.1.version apart
        by_test false = refl

pub bins_show : BinImagesShowCells
bins_show es rows cells db number at low n up touched is = record {
  reads = λ x over. subst IsBin (sym is) tt;
  shows = λ x over. (ap (λ (o : Option Entry). version_imaged o x) is ∙ shows_held (is_between (At low) (upper_edge (low_behind low (row_of rows 0)))) cells x up (within (row_of rows 0) x (low, n) over), touched x);
  names = λ x over. tt;
}

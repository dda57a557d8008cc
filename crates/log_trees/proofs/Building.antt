-- Images that are logged: when they are right, and what they show.
use Rattle.std.proofs.Common.{◌≡◌, ℕ, suc, ◌<◌, nat_lt, Bool, true, false, cond, List, [], ◌∷◌, ◌++◌, Option, None, Some, map, is_eq, refl, sym, ap, subst, ◌∙◌}
use Rattle.std.specs.Prelude.{IfSome, find}
use Rattle.std.specs.Option.{option_and_then}
use Rattle.std.proofs.lemmas.Bool.{lt-ltb}
use Rattle.std.specs.List.{AllByRecursion, flat_map}
use Rattle.je_order.specs.Order.{name_cmp}
use Rattle.je_order.specs.declared.name.Name.{Name}
use Rattle.log_entry.specs.declared.entry.Entry.TheVariants.{In, Bin}
use Rattle.log_entry.specs.declared.child_slot.ChildSlot.{ChildSlot}
use Rattle.log_entry.specs.declared.record_slot.RecordSlot.{RecordSlot}
use Rattle.node_core.specs.declared.slot.Marked.{Marked}
use Rattle.node_core.specs.declared.node.Node.{Node}
use Rattle.node_core.specs.Sorted.{AllAbove, Rises}
use Rattle.node_core.proofs.NameOrder.{same}
use Rattle.je_order.proofs.Orderings.{equal_from_test}
use Rattle.node_log.specs.Slots.{lsn_in, shown_version, slot_of_record, slot_of_child, fresh}
use Rattle.node_log.specs.Images.{bin_of}
use Rattle.log_entry.specs.Body.{IsEntry}
use Rattle.log_trees.specs.Placed.{Placed, entry_at}
use Rattle.log_trees.specs.Images.{NamedLsn, named, slot_shown, slots_shown, node_in, node_at, image}
use Rattle.log_trees.specs.Trees.{found, child_over, shows}
use Rattle.log_trees.specs.Bounds.{is_within, Child, children}
use Rattle.log_trees.specs.Sound.{AreUp, IsRecordAt, IsTreeAt, at_home}
use Rattle.log_trees.specs.Building.{child_shown, BinsAreRight, InsAreRight, BinsShow, InsShow}
use Rattle.log_trees.proofs.Names.{up_shown, whole_up}
use Rattle.je_order.proofs.Lists.{all_weaker}
use Rattle.log_replay.proofs.ListLaws.{filter-all}
use Rattle.log_trees.proofs.Cut.{found_kept, all_in, cut_slots, children_cut, children_lower, over_kept}
use Rattle.log_trees.proofs.Shown.{image_kept}

-- ---- slots of an entry as a node has them

abbrev of_record : RecordSlot → Marked
of_record r = fresh (slot_of_record r)

abbrev of_child : ChildSlot → Marked
of_child c = fresh (slot_of_child c)

abbrev in_of : ℕ → ℕ → ℕ → List ChildSlot → Node
in_of d number level slots = record { db = d; number = number; level = level; full = None; slots = map of_child slots }

children_shown : (slots : List ChildSlot) → flat_map slot_shown (map of_child slots) ≡ map child_shown slots
children_shown [] = refl
children_shown (c ∷ slots) = ap (λ (l : List NamedLsn). child_shown c ∷ l) (children_shown slots)

-- what holds of each slot that has an LSN and whose name passes a test
records_in : (p : Name → Bool) (P : NamedLsn → Type 0) (slots : List RecordSlot) → AllByRecursion (λ s. p s.name ≡ true → IfSome s.lsn (λ lsn. P (s.name, lsn))) slots →
    AllByRecursion (λ s. p s.0 ≡ true → P s) (flat_map slot_shown (map of_record slots))
records_in p P [] all = tt
records_in p P (r ∷ slots) all = one r.lsn all.0 (records_in p P slots all.1)
  where
    one : (o : Option ℕ) → (p r.name ≡ true → IfSome o (λ lsn. P (r.name, lsn))) → AllByRecursion (λ s. p s.0 ≡ true → P s) (flat_map slot_shown (map of_record slots)) →
        AllByRecursion (λ s. p s.0 ≡ true → P s) (named r.name (lsn_in (shown_version o)) ++ flat_map slot_shown (map of_record slots))
    one None h rest = rest
    one (Some lsn) h rest = (h, rest)

bin_image : (es : List Placed) (d number : ℕ) (slots : List RecordSlot) (at : ℕ) → entry_at es at ≡ Some (Bin d number slots) → node_at es at ≡ Some (bin_of d number slots)
bin_image es d number slots at is = ap (option_and_then (node_in es at)) is

in_image : (es : List Placed) (d number level : ℕ) (slots : List ChildSlot) (at : ℕ) → entry_at es at ≡ Some (In d number level slots) → node_at es at ≡ Some (in_of d number level slots)
in_image es d number level slots at is = ap (option_and_then (node_in es at)) is

-- ---- right images

pub bins_are_right : BinsAreRight
bins_are_right es home d number slots low high at is entry own records =
    let n : Node = bin_of d number slots in
    record {
      node = n;
      image = bin_image es d number slots at is;
      db = refl;
      level_is = refl;
      up = up_shown n.slots (whole_up (Bin d number slots) n entry refl);
      home = own;
      right = all_in (IsRecordAt es d at) low high (slots_shown n) (records_in (is_within low high) (IsRecordAt es d at) slots records);
    }

pub ins_are_right : InsAreRight
ins_are_right es home d number above slots low high at is entry own trees =
    let n : Node = in_of d number (suc (suc above)) slots in
    record {
      node = n;
      image = in_image es d number (suc (suc above)) slots at is;
      db = refl;
      level_is = refl;
      up = up_shown n.slots (whole_up (In d number (suc (suc above)) slots) n entry refl);
      home = own;
      right = subst (λ (l : List NamedLsn). AllByRecursion (λ (c : Child). (c.at < at) × IsTreeAt es (at_home home d) d above c.low c.high c.at) (children low high l)) (sym (children_shown slots)) trees;
    }

-- the names of an IN's slots rise
pub in_up : (d number level : ℕ) (slots : List ChildSlot) → IsEntry (In d number level slots) → AreUp (map child_shown slots)
in_up d number level slots entry = subst AreUp (children_shown slots) (up_shown (map of_child slots) (whole_up (In d number level slots) (in_of d number level slots) entry refl))

-- ---- what they show

-- a name below all slots is not among them
below_none : (x : Name) (slots : List RecordSlot) → AllAbove x (map of_record slots) → found x (flat_map slot_shown (map of_record slots)) ≡ None
below_none x [] above = refl
below_none x (r ∷ slots) above = one r.lsn (below_none x slots above.1)
  where
    one : (o : Option ℕ) → found x (flat_map slot_shown (map of_record slots)) ≡ None → found x (named r.name (lsn_in (shown_version o)) ++ flat_map slot_shown (map of_record slots)) ≡ None
    one None rest = rest
    one (Some lsn) rest = let other : is_eq (name_cmp x r.name) ≡ false = ap is_eq above.0 in rw other rest

-- the LSN of a name is that of its slot
found_slot : (x : Name) (slots : List RecordSlot) → Rises (map of_record slots) →
    found x (flat_map slot_shown (map of_record slots)) ≡ option_and_then (λ s. s.lsn) (find (λ s. is_eq (name_cmp x s.name)) slots)
found_slot x [] up = refl
found_slot x (r ∷ slots) up = by_test (is_eq (name_cmp x r.name)) r.lsn refl (found_slot x slots up.1)
  where
    by_test : (b : Bool) (o : Option ℕ) → is_eq (name_cmp x r.name) ≡ b →
        found x (flat_map slot_shown (map of_record slots)) ≡ option_and_then (λ (s : RecordSlot). s.lsn) (find (λ (s : RecordSlot). is_eq (name_cmp x s.name)) slots) →
        found x (named r.name (lsn_in (shown_version o)) ++ flat_map slot_shown (map of_record slots))
        ≡ option_and_then (λ (s : RecordSlot). s.lsn) (cond b (Some (record { name = r.name; lsn = o })) (find (λ (s : RecordSlot). is_eq (name_cmp x s.name)) slots))
    by_test true None is rest =
        let at : x ≡ r.name = same x r.name (equal_from_test _ is) in
        subst (λ (y : Name). found y (flat_map slot_shown (map of_record slots)) ≡ None) (sym at) (below_none r.name slots up.0)
    by_test true (Some lsn) is rest = rw is refl
    by_test false None is rest = rest
    by_test false (Some lsn) is rest = rw is rest

pub bins_show : BinsShow
bins_show es d number slots low high at x is entry lower x_in =
    let n : Node = bin_of d number slots in
    ap (found x) (image_kept es 1 at n (bin_image es d number slots at is) refl)
    ∙ found_kept (λ (s : NamedLsn). nat_lt s.1 at) x (slots_shown n)
    (all_weaker (λ (s : NamedLsn). is_within low high s.0 ≡ true → s.1 < at) (λ s. is_eq (name_cmp x s.0) ≡ true → nat_lt s.1 at ≡ true)
    (λ s h e. lt-ltb s.1 at (h (ap (is_within low high) (sym (same x s.0 (equal_from_test _ e))) ∙ x_in))) (slots_shown n) (records_in (is_within low high) (λ s. s.1 < at) slots lower))
    ∙ found_slot x slots (whole_up (Bin d number slots) n entry refl)

pub ins_show : InsShow
ins_show es d number above slots low high at x is entry lower x_in =
    let n : Node = in_of d number (suc (suc above)) slots in
    let up : AreUp (slots_shown n) = up_shown n.slots (whole_up (In d number (suc (suc above)) slots) n entry refl) in
    let below : AllByRecursion (λ (s : NamedLsn). s.1 < at) (cut_slots low high (slots_shown n)) =
    children_lower (λ (m : ℕ). m < at) low high (cut_slots low high (slots_shown n))
    (subst (AllByRecursion (λ (c : Child). c.at < at)) (children_cut low high (slots_shown n) up)
    (subst (λ (l : List NamedLsn). AllByRecursion (λ (c : Child). c.at < at) (children low high l)) (sym (children_shown slots)) lower)) in
    ap (option_and_then (λ c. shows es above c x))
    (ap (child_over x) (image_kept es (suc (suc above)) at n (in_image es d number (suc (suc above)) slots at is) refl)
    ∙ over_kept (λ (m : ℕ). nat_lt m at) x low high (slots_shown n) x_in up (all_weaker (λ (s : NamedLsn). s.1 < at) (λ s. nat_lt s.1 at ≡ true) (λ s h. lt-ltb s.1 at h) (cut_slots low high (slots_shown n)) below)
    ∙ sym (over_kept (λ (m : ℕ). true) x low high (slots_shown n) x_in up (all_true (cut_slots low high (slots_shown n))))
    ∙ ap (child_over x) (filter-all (λ (s : NamedLsn). true) (slots_shown n) (all_true (slots_shown n)))
    ∙ ap (child_over x) (children_shown slots))
  where
    all_true : (l : List NamedLsn) → AllByRecursion (λ (s : NamedLsn). true ≡ true) l
    all_true [] = tt
    all_true (s ∷ l) = (refl, all_true l)

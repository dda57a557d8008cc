-- What is read of names: the slots of records that were deleted are those that the last images of their BINs have.
use Rattle.std.proofs.Common.{◌≡◌, ◌≤◌, ◌<◌, ◌+◌, ◌==◌, ◌⊎◌, ◌&&◌, ◌||◌, not, ℕ, zero, suc, Bool, true, false, cond, List, [], ◌∷◌, Option, None, Some, IsSome, find, map, refl, ap, sym, subst, ◌∙◌, inl, inr, arith, is_eq, Less}
use Rattle.std.specs.Prelude.{option_map}
use Rattle.std.specs.Option.{option_and_then}
use Rattle.std.specs.List.{AllByRecursion}
use Rattle.std.proofs.lemmas.Bool.{true≢false, and_parts, and_from, eq-eqb, eqb-true}
use Rattle.std.proofs.lemmas.Option.{none-some, same_Some}
use Rattle.je_order.specs.Order.{name_cmp}
use Rattle.je_order.specs.declared.name.Name.{Name}
use Rattle.je_order.proofs.Lists.{all_weaker}
use Rattle.je_order.proofs.Orderings.{equal_from_test}
use Rattle.log_entry.specs.Body.{IsEntry}
use Rattle.log_entry.specs.Items.{record_before, rises, rises_from}
use Rattle.log_entry.specs.declared.child_slot.ChildSlot.{ChildSlot}
use Rattle.log_entry.specs.declared.record_slot.RecordSlot.{RecordSlot}
use Rattle.log_entry.specs.declared.entry.Entry.{Entry}
use Rattle.log_entry.specs.declared.root.Root.{Root}
use Rattle.node_core.proofs.NameOrder.{itself, same, total}
use Rattle.node_core.specs.declared.node.Node.{Node as Shown}
use Rattle.node_core.specs.declared.slot.Marked.{Marked}
use Rattle.node_core.specs.declared.slot.Version.{Version}
use Rattle.node_core.specs.declared.slot.Version.TheVariants.{There, Deleted, Unset}
use Rattle.node_log.specs.Slots.{fresh, shown_version, slot_of_child, slot_of_record}
use Rattle.record_map.specs.Cells.{value_at}
use Rattle.record_map.specs.declared.cell.Cell.{Cell}
use Rattle.node_core.specs.Changes.{is_committed}
use Rattle.record_tree.specs.LoadedNodes.{least}
use Rattle.record_tree.specs.LoadedSlots.{ReadSlot, has_committed_slot, is_deletion, is_inside, shows_deletion, shows_deletion_inside, slot_gone, slot_put}
use Rattle.tree_nodes.specs.declared.node.Node.{Node}
use Rattle.tree_nodes.specs.Nodes.{NodeRow, IsOver, low_behind}
use Rattle.tree_nodes.specs.Levels.{row_of, AreParts}
use Rattle.log_trees.specs.Bounds.{is_within, Child, children}
use Rattle.log_trees.specs.Images.{NamedLsn, slots_shown, node_at, level_at, level_of}
use Rattle.log_trees.specs.Sound.{Home, at_home, IsRootAt, IsTreeAt, least_name}
use Rattle.log_trees.specs.Trees.{data_in, root_of}
use Rattle.log_trees.proofs.Bounds.{less_of}
use Rattle.log_trees.proofs.Cut.{side_by_side, children_cut}
use Rattle.log_trees.proofs.Rooted.{RiseFrom}
use Rattle.log_trees.proofs.Shown.{child_slots_of}
use Rattle.log_meaning.specs.ReadNodes.{is_delta, Loaded, AreLoadedEach, AreRecordsPut, IsLoadedBelow, IsNodeLoaded, IsRootLoaded}
use Rattle.db_tree.specs.Content.{held_under, lsn_of, lsn_under}
use Rattle.db_tree.specs.Loading.{slot_read}
use Rattle.db_tree.specs.Images.{Placed, entry_at, slot_version, version_imaged, version_of_slot}
use Rattle.db_tree.proofs.Over.{over_once}
use Rattle.db_tree.proofs.Within.{over_within}
use Rattle.tree_images.specs.Fits.{AreRecorded}
use Rattle.tree_images.specs.ReadLaws.{AreAsRead}
use Rattle.tree_images.proofs.Neighbours.{same_within}
use Rattle.tree_images.proofs.ReadImages.{IsBinEntry, IsInEntry, bin_entry, image_entry, in_entry}
use Rattle.tree_images.proofs.ReadTrees.{IsFound, behind, children_found, find_child, last_is, low_there, some_child}

-- ---- slots of one image

-- a rising list has the names above its first one behind it
rises_above : (last : RecordSlot) (slots : List RecordSlot) → rises_from record_before last slots ≡ true → AllByRecursion (λ s. name_cmp last.name s.name ≡ Less) slots
rises_above last [] up = tt
rises_above last (s ∷ slots) up =
    let both = and_parts (record_before last s) (rises_from record_before s slots) up in
    let less : name_cmp last.name s.name ≡ Less = less_of (name_cmp last.name s.name) both.0 in
    (less, all_weaker (λ (t : RecordSlot). name_cmp s.name t.name ≡ Less) (λ (t : RecordSlot). name_cmp last.name t.name ≡ Less) (λ t more. total.trans last.name s.name t.name less more) slots (rises_above s slots both.1))

rises_rest : (s : RecordSlot) (slots : List RecordSlot) → rises_from record_before s slots ≡ true → rises record_before slots ≡ true
rises_rest s [] up = refl
rises_rest s (t ∷ slots) up = (and_parts (record_before s t) (rises_from record_before t slots) up).1

-- the slots of a BIN's image, as they are read
abbrev marked_of : List RecordSlot → List Marked
marked_of slots = map (λ r. fresh (slot_of_record r)) slots

or_parts : (a b : Bool) → (a || b) ≡ true → (a ≡ true) ⊎ (b ≡ true)
or_parts true b h = inl refl
or_parts false b h = inr h

or_back : (a : Bool) → (a || true) ≡ true
or_back true = refl
or_back false = refl

name_is : (a b : Name) → is_eq (name_cmp a b) ≡ true → a ≡ b
name_is a b e = same a b (equal_from_test (name_cmp a b) e)

eq_itself : (a b : Name) → a ≡ b → is_eq (name_cmp a b) ≡ true
eq_itself a b e = sym (ap (λ (y : Name). is_eq (name_cmp a y)) e) ∙ ap is_eq (itself a)

-- a version that is read of a slot is a deletion where its LSN is none
gone_version : (o : Option ℕ) → is_deletion (shown_version o) ≡ true → version_of_slot o ≡ Deleted
gone_version None h = refl
gone_version (Some lsn) h = absurd (true≢false (sym h))

version_gone : (o : Option ℕ) → version_of_slot o ≡ Deleted → is_deletion (shown_version o) ≡ true
version_gone None h = refl
version_gone (Some lsn) h = ap is_deletion h

-- names behind a slot's do not have its name
none_shown : (x : Name) (slots : List RecordSlot) → AllByRecursion (λ s. name_cmp x s.name ≡ Less) slots → shows_deletion (marked_of slots) x ≡ true → ⊥
none_shown x [] above h = true≢false (sym h)
none_shown x (s ∷ slots) above h = by_side (or_parts (is_deletion (shown_version s.lsn) && is_eq (name_cmp s.name x)) (shows_deletion (marked_of slots) x) h) (none_shown x slots above.1)
  where
    by_side : ((is_deletion (shown_version s.lsn) && is_eq (name_cmp s.name x)) ≡ true) ⊎ (shows_deletion (marked_of slots) x ≡ true) → (shows_deletion (marked_of slots) x ≡ true → ⊥) → ⊥
    by_side (inl here) none =
        let e : s.name ≡ x = name_is s.name x (and_parts (is_deletion (shown_version s.lsn)) (is_eq (name_cmp s.name x)) here).1 in
        true≢false (sym (eq_itself x s.name (sym e)) ∙ ap is_eq above.0)
    by_side (inr rest) none = none rest

-- a name's slot is that of a record that was deleted where one of its slots is
deletion_found : (x : Name) (slots : List RecordSlot) → rises record_before slots ≡ true → shows_deletion (marked_of slots) x ≡ true → slot_version (find (λ s. is_eq (name_cmp x s.name)) slots) ≡ Deleted
deletion_found x [] up h = absurd (true≢false (sym h))
deletion_found x (s ∷ slots) up h =
    by_test (is_eq (name_cmp x s.name)) refl (or_parts (is_deletion (shown_version s.lsn) && is_eq (name_cmp s.name x)) (shows_deletion (marked_of slots) x) h) (deletion_found x slots (rises_rest s slots up))
  where
    step : (t : Bool) → is_eq (name_cmp x s.name) ≡ t → slot_version (find (λ (r : RecordSlot). is_eq (name_cmp x r.name)) (s ∷ slots)) ≡ slot_version (cond t (Some s) (find (λ (r : RecordSlot). is_eq (name_cmp x r.name)) slots))
    step t is = ap (λ (b : Bool). slot_version (cond b (Some s) (find (λ (r : RecordSlot). is_eq (name_cmp x r.name)) slots))) is

    by_test : (t : Bool) → is_eq (name_cmp x s.name) ≡ t → ((is_deletion (shown_version s.lsn) && is_eq (name_cmp s.name x)) ≡ true) ⊎ (shows_deletion (marked_of slots) x ≡ true) →
        (shows_deletion (marked_of slots) x ≡ true → slot_version (find (λ (r : RecordSlot). is_eq (name_cmp x r.name)) slots) ≡ Deleted) → slot_version (find (λ (r : RecordSlot). is_eq (name_cmp x r.name)) (s ∷ slots)) ≡ Deleted
    by_test true is (inl here) rest = step true is ∙ gone_version s.lsn (and_parts (is_deletion (shown_version s.lsn)) (is_eq (name_cmp s.name x)) here).0
    by_test true is (inr more) rest =
        absurd (none_shown x slots (subst (λ (y : Name). AllByRecursion (λ (r : RecordSlot). name_cmp y r.name ≡ Less) slots) (sym (name_is x s.name is)) (rises_above s slots up)) more)
    by_test false is (inl here) rest =
        absurd (true≢false (sym (eq_itself x s.name (sym (name_is s.name x (and_parts (is_deletion (shown_version s.lsn)) (is_eq (name_cmp s.name x)) here).1))) ∙ is))
    by_test false is (inr more) rest = step false is ∙ rest more

-- and the other way round
deletion_shown : (x : Name) (slots : List RecordSlot) → slot_version (find (λ s. is_eq (name_cmp x s.name)) slots) ≡ Deleted → shows_deletion (marked_of slots) x ≡ true
deletion_shown x [] h = ap is_deletion h
deletion_shown x (s ∷ slots) h = by_test (is_eq (name_cmp x s.name)) refl h (deletion_shown x slots)
  where
    by_test : (t : Bool) → is_eq (name_cmp x s.name) ≡ t → slot_version (cond t (Some s) (find (λ (r : RecordSlot). is_eq (name_cmp x r.name)) slots)) ≡ Deleted →
        (slot_version (find (λ (r : RecordSlot). is_eq (name_cmp x r.name)) slots) ≡ Deleted → shows_deletion (marked_of slots) x ≡ true) →
        ((is_deletion (shown_version s.lsn) && is_eq (name_cmp s.name x)) || shows_deletion (marked_of slots) x) ≡ true
    by_test true is here rest =
        ap (λ (b : Bool). b || shows_deletion (marked_of slots) x)
        (and_from (is_deletion (shown_version s.lsn)) (is_eq (name_cmp s.name x)) (version_gone s.lsn here) (eq_itself s.name x (sym (name_is x s.name is))))
    by_test false is more rest = ap (λ (b : Bool). (is_deletion (shown_version s.lsn) && is_eq (name_cmp s.name x)) || b) (rest more) ∙ or_back (is_deletion (shown_version s.lsn) && is_eq (name_cmp s.name x))

-- an IN's image has no such slot
children_stay : (x : Name) (slots : List ChildSlot) → shows_deletion (map (λ c. fresh (slot_of_child c)) slots) x ≡ false
children_stay x [] = refl
children_stay x (s ∷ slots) = children_stay x slots

-- bounds are the same ones
inside_within : (low : Name) (high : Option Name) (x : Name) → is_inside low high x ≡ is_within low high x
inside_within low None x = refl
inside_within low (Some high) x = refl

-- ---- what is read of a name changes

abbrev AnyOf : {A : Type 0} → (A → Type 0) → List A → Type 0
AnyOf P [] = ⊥
AnyOf P (a ∷ l) = P a ⊎ AnyOf P l

any_both : {A : Type 0} (P Q : A → Type 0) (l : List A) → AllByRecursion P l → AnyOf Q l → (a : A) × P a × Q a
any_both P Q [] all h = absurd h
any_both P Q (a ∷ l) all (inl h) = (a, all.0, h)
any_both P Q (a ∷ l) all (inr h) = any_both P Q l all.1 h

-- each of a list is one of it
any_each : {A : Type 0} (P Q : A → Type 0) (l : List A) → AllByRecursion P l → AllByRecursion (λ a. P a × (Q a → AnyOf Q l)) l
any_each P Q [] all = tt
any_each {A} P Q (a ∷ l) all = ((all.0, λ h. inl h), all_weaker (λ (b : A). P b × (Q b → AnyOf Q l)) (λ (b : A). P b × (Q b → AnyOf Q (a ∷ l))) (λ b h. (h.0, λ q. inr (h.1 q))) l (any_each P Q l all.1))

module _ (es : Placed) where
  -- what is read of a name is as before, or a record, or that its record was deleted, as an image says
  abbrev pub IsReadAs : Option ReadSlot → Option ReadSlot → Type 0 → Type 0
  IsReadAs old new Gone = (new ≡ old) ⊎ (((lsn : ℕ) × (new ≡ Some (slot_put lsn))) ⊎ ((at : ℕ) × (new ≡ Some (slot_gone at)) × IsSome (entry_at es at) × Gone))

  read_then : (a b c : Option ReadSlot) (Gone : Type 0) → IsReadAs a b Gone → IsReadAs b c Gone → IsReadAs a c Gone
  read_then a b c Gone (inl was) (inl is) = inl (is ∙ was)
  read_then a b c Gone (inr (inl put)) (inl is) = inr (inl (put.0, is ∙ put.1))
  read_then a b c Gone (inr (inr gone)) (inl is) = inr (inr (gone.0, is ∙ gone.1, gone.2, gone.3))
  read_then a b c Gone first (inr h) = inr h

  read_so : (a b : Option ReadSlot) (G H : Type 0) → (G → H) → IsReadAs a b G → IsReadAs a b H
  read_so a b G H so (inl is) = inl is
  read_so a b G H so (inr (inl put)) = inr (inl put)
  read_so a b G H so (inr (inr gone)) = inr (inr (gone.0, gone.1, gone.2, so gone.3))

  -- a slot stays
  slot_stays : (a b : Option ReadSlot) (G : Type 0) → IsReadAs a b G → has_committed_slot a ≡ true → has_committed_slot b ≡ true
  slot_stays a b G (inl is) some = ap has_committed_slot is ∙ some
  slot_stays a b G (inr (inl put)) some = ap has_committed_slot put.1
  slot_stays a b G (inr (inr gone)) some = ap has_committed_slot gone.1

  records_read : (old new : Loaded) (b : ℕ) (x : Name) (G : Type 0) → AreRecordsPut old new → IsReadAs (old.slots b x) (new.slots b x) G
  records_read old new b x G put = by_side (put.slots b x)
    where
      by_side : (new.slots b x ≡ old.slots b x) ⊎ ((lsn : ℕ) × (new.slots b x ≡ Some (slot_put lsn))) → IsReadAs (old.slots b x) (new.slots b x) G
      by_side (inl is) = inl is
      by_side (inr h) = inr (inl h)

  -- ---- trees of images

  -- the image of a BIN below one, within whose bounds a name is, says that the name's record was deleted
  abbrev pub IsGone : ℕ → Name → Option Name → ℕ → Name → Type 0
  IsGone zero low high at x = (node : Shown) × (node_at es at ≡ Some node) × (shows_deletion_inside low high node.slots x ≡ true)
  IsGone (suc k) low high at x = (node : Shown) × (node_at es at ≡ Some node) × AnyOf (λ (c : Child). IsGone k c.low c.high c.at x) (children low high (slots_shown node))

  module _ (keeps : Bool) (most d : ℕ) where
    node_read_as : (k : ℕ) (low : Name) (high : Option Name) (at : ℕ) (node : Shown) (old new : Loaded) (b : ℕ) (x : Name) → IsNodeLoaded es keeps most d k low high at node old new →
        IsReadAs (old.slots b x) (new.slots b x) ((b ≡ d) × (shows_deletion_inside low high node.slots x ≡ true))
    node_read_as k low high at node old new b x put = by_tests (d == b) (shows_deletion_inside low high node.slots x) (has_committed_slot (old.slots b x)) refl refl (put.slots b x)
      where
        entry : IsSome (entry_at es at)
        entry = let found = image_entry es at node put.put.image in subst IsSome (sym found.1) refl

        by_tests : (s t h : Bool) → (d == b) ≡ s → shows_deletion_inside low high node.slots x ≡ t → new.slots b x ≡ cond (s && (t && not h)) (Some (slot_gone at)) (old.slots b x) →
            IsReadAs (old.slots b x) (new.slots b x) ((b ≡ d) × (shows_deletion_inside low high node.slots x ≡ true))
        by_tests true true false db shows is = inr (inr (at, is, entry, (sym (eqb-true d b db), shows)))
        by_tests true true true db shows is = inl is
        by_tests true false h db shows is = inl is
        by_tests false t h db shows is = inl is

    -- the name of such a slot has one then
    node_got : (k : ℕ) (low : Name) (high : Option Name) (at : ℕ) (node : Shown) (old new : Loaded) (x : Name) → IsNodeLoaded es keeps most d k low high at node old new → shows_deletion_inside low high node.slots x ≡ true →
        has_committed_slot (new.slots d x) ≡ true
    node_got k low high at node old new x put shows =
        by_test (has_committed_slot (old.slots d x)) refl (put.slots d x
        ∙ ap (λ (t : Bool). cond (t && (shows_deletion_inside low high node.slots x && not (has_committed_slot (old.slots d x)))) (Some (slot_gone at)) (old.slots d x)) (eq-eqb d d refl)
        ∙ ap (λ (t : Bool). cond (t && not (has_committed_slot (old.slots d x))) (Some (slot_gone at)) (old.slots d x)) shows)
      where
        by_test : (h : Bool) → has_committed_slot (old.slots d x) ≡ h → new.slots d x ≡ cond (not (has_committed_slot (old.slots d x))) (Some (slot_gone at)) (old.slots d x) → has_committed_slot (new.slots d x) ≡ true
        by_test true has is = ap has_committed_slot (is ∙ ap (λ (t : Bool). cond (not t) (Some (slot_gone at)) (old.slots d x)) has) ∙ has
        by_test false has is = ap has_committed_slot (is ∙ ap (λ (t : Bool). cond (not t) (Some (slot_gone at)) (old.slots d x)) has)

    module _ (home : ℕ → ℕ → Name → Type 0) (entries : AllByRecursion (λ p. IsEntry p.1) es) where
      -- ---- the tree below an image is put

      abbrev Reads : ℕ → Type 0
      Reads k = (low : Name) (high : Option Name) (at : ℕ) (old new : Loaded) (b : ℕ) (x : Name) → IsLoadedBelow es keeps most d k low high at old new → IsTreeAt es home d k low high at →
          IsReadAs (old.slots b x) (new.slots b x) ((b ≡ d) × IsGone k low high at x)

      each_read : (k top : ℕ) → Reads k → (cs : List Child) (old new : Loaded) (b : ℕ) (x : Name) → AreLoadedEach (λ (c : Child). IsLoadedBelow es keeps most d k c.low c.high c.at) cs old new →
          AllByRecursion (λ (c : Child). (c.at < top) × IsTreeAt es home d k c.low c.high c.at) cs → IsReadAs (old.slots b x) (new.slots b x) ((b ≡ d) × AnyOf (λ (c : Child). IsGone k c.low c.high c.at x) cs)
      each_read k top reads [] old new b x put trees = inl (put.slots b x)
      each_read k top reads (c ∷ cs) old new b x put trees =
          let mid : Loaded = put.0 in
          read_then (old.slots b x) (mid.slots b x) (new.slots b x) ((b ≡ d) × AnyOf (λ (e : Child). IsGone k e.low e.high e.at x) (c ∷ cs))
          (read_so (old.slots b x) (mid.slots b x) ((b ≡ d) × IsGone k c.low c.high c.at x) ((b ≡ d) × AnyOf (λ (e : Child). IsGone k e.low e.high e.at x) (c ∷ cs)) (λ g. (g.0, inl g.1)) (reads c.low c.high c.at old mid b x put.1 trees.0.1))
          (read_so (mid.slots b x) (new.slots b x) ((b ≡ d) × AnyOf (λ (e : Child). IsGone k e.low e.high e.at x) cs) ((b ≡ d) × AnyOf (λ (e : Child). IsGone k e.low e.high e.at x) (c ∷ cs)) (λ g. (g.0, inr g.1)) (each_read k top reads cs mid new b x put.2 trees.1))

      -- the trees of a node's children
      trees_of : (k : ℕ) (low : Name) (high : Option Name) (at : ℕ) (node : Shown) → node_at es at ≡ Some node → IsTreeAt es home d (suc k) low high at →
          AllByRecursion (λ (c : Child). (c.at < at) × IsTreeAt es home d k c.low c.high c.at) (children low high (slots_shown node))
      trees_of k low high at node image tree =
          subst (λ (n : Shown). AllByRecursion (λ (c : Child). (c.at < at) × IsTreeAt es home d k c.low c.high c.at) (children low high (slots_shown n))) (same_Some tree.node node (sym tree.image ∙ image)) tree.right

      in_stays : (k : ℕ) (low : Name) (high : Option Name) (at : ℕ) (node : Shown) (x : Name) → node_at es at ≡ Some node → IsTreeAt es home d (suc k) low high at → shows_deletion_inside low high node.slots x ≡ true → ⊥
      in_stays k low high at node x image tree shows =
          let is : tree.node ≡ node = same_Some tree.node node (sym tree.image ∙ image) in
          let e : IsInEntry es at (suc (suc k)) tree.node = in_entry es at k tree.node entries tree.image tree.level_is in
          true≢false (sym (and_parts (is_inside low high x) (shows_deletion node.slots x) shows).1
          ∙ ap (λ (n : Shown). shows_deletion n.slots x) (sym is)
          ∙ ap (λ (l : List Marked). shows_deletion l x) e.slots_are
          ∙ children_stay x e.slots)

      pub below_read : (k : ℕ) → Reads k
      below_read zero low high at old new b x put tree =
          let node : Shown = put.0 in
          let mid : Loaded = put.1 in
          read_then (old.slots b x) (mid.slots b x) (new.slots b x) ((b ≡ d) × IsGone 0 low high at x)
          (read_so (old.slots b x) (mid.slots b x) ((b ≡ d) × (shows_deletion_inside low high node.slots x ≡ true)) ((b ≡ d) × IsGone 0 low high at x) (λ g. (g.0, (node, put.2.put.image, g.1)))
          (node_read_as 0 low high at node old mid b x put.2))
          (records_read mid new b x ((b ≡ d) × IsGone 0 low high at x) put.3)
      below_read (suc k) low high at old new b x put tree =
          let node : Shown = put.0 in
          let mid : Loaded = put.1 in
          read_then (old.slots b x) (mid.slots b x) (new.slots b x) ((b ≡ d) × IsGone (suc k) low high at x)
          (read_so (old.slots b x) (mid.slots b x) ((b ≡ d) × (shows_deletion_inside low high node.slots x ≡ true)) ((b ≡ d) × IsGone (suc k) low high at x)
          (λ g. absurd (in_stays k low high at node x put.2.put.image tree g.1)) (node_read_as (suc k) low high at node old mid b x put.2))
          (read_so (mid.slots b x) (new.slots b x) ((b ≡ d) × AnyOf (λ (c : Child). IsGone k c.low c.high c.at x) (children low high (slots_shown node))) ((b ≡ d) × IsGone (suc k) low high at x)
          (λ g. (g.0, (node, put.2.put.image, g.1)))
          (each_read k at (below_read k) (children low high (slots_shown node)) mid new b x put.3 (trees_of k low high at node put.2.put.image tree)))

      -- each name that an image below says is deleted has a slot

      abbrev Gets : ℕ → Type 0
      Gets k = (low : Name) (high : Option Name) (at : ℕ) (old new : Loaded) (x : Name) → IsLoadedBelow es keeps most d k low high at old new → IsTreeAt es home d k low high at → IsGone k low high at x → has_committed_slot (new.slots d x) ≡ true

      each_got : (k top : ℕ) → Gets k → (cs : List Child) (old new : Loaded) (x : Name) → AreLoadedEach (λ (c : Child). IsLoadedBelow es keeps most d k c.low c.high c.at) cs old new →
          AllByRecursion (λ (c : Child). (c.at < top) × IsTreeAt es home d k c.low c.high c.at) cs → AnyOf (λ (c : Child). IsGone k c.low c.high c.at x) cs → has_committed_slot (new.slots d x) ≡ true
      each_got k top gets [] old new x put trees any = absurd any
      each_got k top gets (c ∷ cs) old new x put trees (inl gone) =
          let mid : Loaded = put.0 in
          slot_stays (mid.slots d x) (new.slots d x) ((d ≡ d) × AnyOf (λ (e : Child). IsGone k e.low e.high e.at x) cs) (each_read k top (below_read k) cs mid new d x put.2 trees.1) (gets c.low c.high c.at old mid x put.1 trees.0.1 gone)
      each_got k top gets (c ∷ cs) old new x put trees (inr more) = each_got k top gets cs put.0 new x put.2 trees.1 more

      pub below_got : (k : ℕ) → Gets k
      below_got zero low high at old new x put tree gone =
          let node : Shown = put.0 in
          let mid : Loaded = put.1 in
          let is : gone.0 ≡ node = same_Some gone.0 node (sym gone.1 ∙ put.2.put.image) in
          slot_stays (mid.slots d x) (new.slots d x) (Unit {0}) (records_read mid new d x (Unit {0}) put.3)
          (node_got 0 low high at node old mid x put.2 (subst (λ (n : Shown). shows_deletion_inside low high n.slots x ≡ true) is gone.2))
      below_got (suc k) low high at old new x put tree gone =
          let node : Shown = put.0 in
          let is : gone.0 ≡ node = same_Some gone.0 node (sym gone.1 ∙ put.2.put.image) in
          each_got k at (below_got k) (children low high (slots_shown node)) put.1 new x put.3 (trees_of k low high at node put.2.put.image tree)
          (subst (λ (n : Shown). AnyOf (λ (c : Child). IsGone k c.low c.high c.at x) (children low high (slots_shown n))) is gone.2)

-- ---- one tree

module _ (es : Placed) (keeps : Bool) (most : ℕ) (home : ℕ → Home) (d : ℕ) (rows : List NodeRow) (parts : AreParts rows) (entries : AllByRecursion (λ p. IsEntry p.1) es) where
  -- a BIN that was found
  record IsLeaf (x : Name) (Whole : Type 0) : Type 0 where
    low : Name
    high : Option Name
    at : ℕ
    found : IsFound es keeps most home d rows parts entries 0 low high at
    within : is_within low high x ≡ true
    gone : IsGone es 0 low high at x → Whole

  gone_inside : (k : ℕ) (low : Name) (high : Option Name) (at : ℕ) (x : Name) → k ≡ 0 → IsGone es k low high at x → is_within low high x ≡ true
  gone_inside zero low high at x is gone = sym (inside_within low high x) ∙ (and_parts (is_inside low high x) (shows_deletion gone.0.slots x) gone.2).0
  gone_inside (suc k) low high at x is gone = absurd (omega (arith, is))

  -- a name whose record an image below a node says is deleted lies in a BIN whose image says so
  record SaysGone (x : Name) : Type 0 where
    low : Name
    high : Option Name
    at : ℕ
    found : IsFound es keeps most home d rows parts entries 0 low high at
    gone : IsGone es 0 low high at x

  leaf_gone : (k : ℕ) (low : Name) (high : Option Name) (at : ℕ) (x : Name) → IsFound es keeps most home d rows parts entries k low high at → IsGone es k low high at x → SaysGone x
  leaf_gone zero low high at x f gone = record { low = low; high = high; at = at; found = f; gone = gone }
  leaf_gone (suc k) low high at x f gone =
      let is : gone.0 ≡ f.tree.node = same_Some gone.0 f.tree.node (sym gone.1 ∙ f.tree.image) in
      let any = subst (AnyOf (λ (c : Child). IsGone es k c.low c.high c.at x)) (children_cut low high (slots_shown f.tree.node) f.tree.up)
      (subst (λ (n : Shown). AnyOf (λ (c : Child). IsGone es k c.low c.high c.at x) (children low high (slots_shown n))) is gone.2) in
      let one = any_both (λ (c : Child). IsFound es keeps most home d rows parts entries k c.low c.high c.at) (λ (c : Child). IsGone es k c.low c.high c.at x) (side_by_side low high (child_slots_of low high f.tree.node))
      (children_found es keeps most home d rows parts entries k low high at f) any in
      leaf_gone k one.0.low one.0.high one.0.at x one.1 one.2

  -- a child was found, and counts for a name among others
  abbrev IsFoundOr : ℕ → Name → List Child → Child → Type 0
  IsFoundOr k x cs c = IsFound es keeps most home d rows parts entries k c.low c.high c.at × (IsGone es k c.low c.high c.at x → AnyOf (λ (e : Child). IsGone es k e.low e.high e.at x) cs)

  -- each name within the bounds of a node lies in a BIN below it, whose image counts for it
  leaf_within : (k : ℕ) (low : Name) (high : Option Name) (at : ℕ) (x : Name) → IsFound es keeps most home d rows parts entries k low high at → is_within low high x ≡ true → IsLeaf x (IsGone es k low high at x)
  leaf_within zero low high at x f inside = record { low = low; high = high; at = at; found = f; within = inside; gone = λ g. g }
  leaf_within (suc k) low high at x f inside =
      let slot = some_child es keeps most home d rows parts entries k low high at f in
      let one = find_child (λ (c : Child). IsFoundOr k x (side_by_side low high (child_slots_of low high f.tree.node)) c) x low high slot.0 slot.1
      (subst (λ (l : List NamedLsn). AllByRecursion (λ (c : Child). IsFoundOr k x (side_by_side low high (child_slots_of low high f.tree.node)) c) (side_by_side low high l)) slot.2
      (any_each (λ (c : Child). IsFound es keeps most home d rows parts entries k c.low c.high c.at) (λ (c : Child). IsGone es k c.low c.high c.at x) (side_by_side low high (child_slots_of low high f.tree.node))
      (children_found es keeps most home d rows parts entries k low high at f))) inside in
      let leaf = leaf_within k one.0.low one.0.high one.0.at x one.1.0 one.2 in
      record {
        low = leaf.low;
        high = leaf.high;
        at = leaf.at;
        found = leaf.found;
        within = leaf.within;
        gone = λ g. (f.tree.node, f.tree.image, subst (AnyOf (λ (c : Child). IsGone es k c.low c.high c.at x)) (sym (children_cut low high (slots_shown f.tree.node) f.tree.up)) (one.1.1 (leaf.gone g)));
      }

  module _ (last : ℕ) (le : most ≤ last) (kept : keeps ≡ true) (whole : AllByRecursion (λ p. is_delta p.1 ≡ false) es) where
    -- the BIN over a name is the one that was found, and has its image
    leaf_at : (low : Name) (high : Option Name) (at : ℕ) (x : Name) (e : Name × Node) (a : ℕ) → IsFound es keeps most home d rows parts entries 0 low high at → is_within low high x ≡ true →
        IsOver (row_of rows 0) x e → e.1.last ≡ Some a → at ≡ a
    leaf_at low high at x e a f inside over is = by_node (value_at low (row_of rows 0)) refl (low_there es keeps most home d rows parts entries 0 low high at f.shown)
      where
        by_node : (o : Option Node) → value_at low (row_of rows 0) ≡ o → IsSome o → at ≡ a
        by_node None there some = absurd (true≢false (sym some))
        by_node (Some n) there some =
            let behind_is : low_behind low (row_of rows 0) ≡ high = behind es keeps most home d rows parts entries 0 low high at f in
            let here : IsOver (row_of rows 0) x (low, n) = over_within (row_of rows 0) x low n (parts.rising 0) there
            (sym (same_within low (low_behind low (row_of rows 0)) x) ∙ ap (λ (o : Option Name). is_within low o x) behind_is ∙ inside) in
            let names : e.0 ≡ low = over_once (row_of rows 0) x e (low, n) over here in
            let same_node : e.1 ≡ n = same_Some e.1 n (sym over.there ∙ ap (λ (y : Name). value_at y (row_of rows 0)) names ∙ there) in
            same_Some at a (sym (last_is es keeps most home d rows parts entries last le kept whole 0 low high at n f there) ∙ sym (ap (λ (m : Node). m.last) same_node) ∙ is)

    -- what its image says
    leaf_says : (low : Name) (high : Option Name) (at : ℕ) (x : Name) (f : IsFound es keeps most home d rows parts entries 0 low high at) → IsGone es 0 low high at x → version_imaged (entry_at es at) x ≡ Deleted
    leaf_says low high at x f gone =
        let e : IsBinEntry es at f.tree.node = bin_entry es at f.tree.node entries whole f.tree.image f.tree.level_is in
        let is : gone.0 ≡ f.tree.node = same_Some gone.0 f.tree.node (sym gone.1 ∙ f.tree.image) in
        ap (λ (o : Option Entry). version_imaged o x) e.image
        ∙ deletion_found x e.slots e.entry.2.rise
        (subst (λ (l : List Marked). shows_deletion l x ≡ true) e.slots_are
        (subst (λ (n : Shown). shows_deletion n.slots x ≡ true) is (and_parts (is_inside low high x) (shows_deletion gone.0.slots x) gone.2).1))

    leaf_shows : (low : Name) (high : Option Name) (at : ℕ) (x : Name) (f : IsFound es keeps most home d rows parts entries 0 low high at) → is_within low high x ≡ true → version_imaged (entry_at es at) x ≡ Deleted → IsGone es 0 low high at x
    leaf_shows low high at x f inside says =
        let e : IsBinEntry es at f.tree.node = bin_entry es at f.tree.node entries whole f.tree.image f.tree.level_is in (
          f.tree.node,
          f.tree.image,
          and_from (is_inside low high x) (shows_deletion f.tree.node.slots x) (inside_within low high x ∙ inside)
              (subst (λ (l : List Marked). shows_deletion l x ≡ true) (sym e.slots_are) (deletion_shown x e.slots (sym (ap (λ (o : Option Entry). version_imaged o x) e.image) ∙ says))),
        )

    module _ (top at : ℕ) (root : IsFound es keeps most home d rows parts entries top least None at) where
      -- the BIN's image says that a record was deleted exactly where an image below the root does
      pub gone_says : (x : Name) (e : Name × Node) (a : ℕ) → IsOver (row_of rows 0) x e → e.1.last ≡ Some a → IsGone es top least None at x → version_imaged (entry_at es a) x ≡ Deleted
      gone_says x e a over is gone =
          let leaf = leaf_gone top least None at x root gone in
          let inside : is_within leaf.low leaf.high x ≡ true = gone_inside 0 leaf.low leaf.high leaf.at x refl leaf.gone in
          subst (λ (i : ℕ). version_imaged (entry_at es i) x ≡ Deleted) (leaf_at leaf.low leaf.high leaf.at x e a leaf.found inside over is) (leaf_says leaf.low leaf.high leaf.at x leaf.found leaf.gone)

      pub says_gone : (x : Name) (e : Name × Node) (a : ℕ) → IsOver (row_of rows 0) x e → e.1.last ≡ Some a → is_within least None x ≡ true → version_imaged (entry_at es a) x ≡ Deleted → IsGone es top least None at x
      says_gone x e a over is inside says =
          let leaf = leaf_within top least None at x root inside in
          leaf.gone (leaf_shows leaf.low leaf.high leaf.at x leaf.found leaf.within
          (subst (λ (i : ℕ). version_imaged (entry_at es i) x ≡ Deleted) (sym (leaf_at leaf.low leaf.high leaf.at x e a leaf.found leaf.within over is)) says))

-- ---- all roots

module _ (es : Placed) (keeps : Bool) (most : ℕ) (home : ℕ → Home) (end : ℕ) (entries : AllByRecursion (λ p. IsEntry p.1) es) where
  -- an image below the one of a root says that a name's record was deleted
  abbrev pub IsRootGone : ℕ → Name → Type 0
  IsRootGone at x = (k : ℕ) × (level_at es at ≡ suc k) × IsGone es k least None at x

  tree_level : (d k : ℕ) (low : Name) (high : Option Name) (at : ℕ) → IsTreeAt es (at_home home d) d k low high at → level_at es at ≡ suc k
  tree_level d zero low high at tree = ap level_of tree.image ∙ tree.level_is
  tree_level d (suc k) low high at tree = ap level_of tree.image ∙ tree.level_is

  root_tree : (r : Root) (k : ℕ) → level_at es r.image ≡ suc k → IsRootAt es home end r → IsTreeAt es (at_home home r.db) r.db k least None r.image
  root_tree r k level is =
      let same_level : suc is.above ≡ suc k = sym (tree_level r.db is.above least_name None r.image is.tree) ∙ level in
      subst (λ (i : ℕ). IsTreeAt es (at_home home r.db) r.db i least None r.image) (let e : is.above ≡ k = omega (arith, same_level) in e) is.tree

  roots_read : (roots : List Root) (old new : Loaded) (b : ℕ) (x : Name) → AreLoadedEach (IsRootLoaded es keeps most) roots old new → AllByRecursion (IsRootAt es home end) roots →
      IsReadAs es (old.slots b x) (new.slots b x) (AnyOf (λ (r : Root). (b ≡ r.db) × IsRootGone r.image x) roots)
  roots_read [] old new b x put all = inl (put.slots b x)
  roots_read (r ∷ roots) old new b x put all =
      let mid : Loaded = put.0 in
      let tree = root_tree r put.1.0 put.1.1 all.0 in
      read_then es (old.slots b x) (mid.slots b x) (new.slots b x) (AnyOf (λ (s : Root). (b ≡ s.db) × IsRootGone s.image x) (r ∷ roots))
      (read_so es (old.slots b x) (mid.slots b x) ((b ≡ r.db) × IsGone es put.1.0 least None r.image x) (AnyOf (λ (s : Root). (b ≡ s.db) × IsRootGone s.image x) (r ∷ roots)) (λ g. inl (g.0, (put.1.0, put.1.1, g.1)))
      (below_read es keeps most r.db (at_home home r.db) entries put.1.0 least None r.image old mid b x put.1.2 tree))
      (read_so es (mid.slots b x) (new.slots b x) (AnyOf (λ (s : Root). (b ≡ s.db) × IsRootGone s.image x) roots) (AnyOf (λ (s : Root). (b ≡ s.db) × IsRootGone s.image x) (r ∷ roots)) (λ g. inr g)
      (roots_read roots mid new b x put.2 all.1))

  roots_got : (roots : List Root) (old new : Loaded) (b : ℕ) (x : Name) → AreLoadedEach (IsRootLoaded es keeps most) roots old new → AllByRecursion (IsRootAt es home end) roots →
      AnyOf (λ (r : Root). (b ≡ r.db) × IsRootGone r.image x) roots → has_committed_slot (new.slots b x) ≡ true
  roots_got [] old new b x put all any = absurd any
  roots_got (r ∷ roots) old new b x put all (inr more) = roots_got roots put.0 new b x put.2 all.1 more
  roots_got (r ∷ roots) old new b x put all (inl gone) =
      let mid : Loaded = put.0 in
      let tree = root_tree r put.1.0 put.1.1 all.0 in
      let levels : suc gone.1.0 ≡ suc put.1.0 = sym gone.1.1 ∙ put.1.1 in
      let here = subst (λ (i : ℕ). IsGone es i least None r.image x) (let e : gone.1.0 ≡ put.1.0 = omega (arith, levels) in e) gone.1.2 in
      slot_stays es (mid.slots b x) (new.slots b x) (AnyOf (λ (s : Root). (b ≡ s.db) × IsRootGone s.image x) roots) (roots_read roots mid new b x put.2 all.1)
      (subst (λ (i : ℕ). has_committed_slot (mid.slots i x) ≡ true) (sym gone.0) (below_got es keeps most r.db (at_home home r.db) entries put.1.0 least None r.image old mid x put.1.2 tree here))

-- of a database's roots one counts
any_root : (Q : ℕ → Type 0) (b d at : ℕ) (roots : List Root) → RiseFrom b roots → root_of d roots ≡ Some at → AnyOf (λ (r : Root). (d ≡ r.db) × Q r.image) roots → Q at
any_root Q b d at [] up there any = absurd any
any_root Q b d at (r ∷ roots) up there any = by_test (r.db == d) refl there any (any_root Q (r.db + 1) d at roots up.1)
  where
    by_test : (t : Bool) → (r.db == d) ≡ t → option_map (λ (s : Root). s.image) (cond t (Some r) (find (λ (s : Root). s.db == d) roots)) ≡ Some at →
        AnyOf (λ (s : Root). (d ≡ s.db) × Q s.image) (r ∷ roots) → (root_of d roots ≡ Some at → AnyOf (λ (s : Root). (d ≡ s.db) × Q s.image) roots → Q at) → Q at
    by_test true is h (inl one) rest = subst Q (same_Some r.image at h) one.1
    by_test true is h (inr more) rest = absurd (none_later (r.db + 1) roots up.1 (let e : r.db ≡ d = eqb-true r.db d is in omega (arith, e)) more)
      where
        none_later : (c : ℕ) (rs : List Root) → RiseFrom c rs → d < c → AnyOf (λ (s : Root). (d ≡ s.db) × Q s.image) rs → ⊥
        none_later c [] up less any = any
        none_later c (s ∷ rs) up less (inl one) = let e : d ≡ s.db = one.0 in let low : c ≤ s.db = up.0 in absurd (omega (arith, e, low, less))
        none_later c (s ∷ rs) up less (inr more) = let low : c ≤ s.db = up.0 in none_later (s.db + 1) rs up.1 (omega (arith, low, less)) more
    by_test false is h (inl one) rest = absurd (true≢false (sym (subst (λ (i : ℕ). (r.db == i) ≡ true) (sym one.0) (eq-eqb r.db r.db refl)) ∙ is))
    by_test false is h (inr more) rest = rest h more

root_any : (Q : ℕ → Type 0) (d at : ℕ) (roots : List Root) → root_of d roots ≡ Some at → Q at → AnyOf (λ (r : Root). (d ≡ r.db) × Q r.image) roots
root_any Q d at [] there q = absurd (none-some at there)
root_any Q d at (r ∷ roots) there q = by_test (r.db == d) refl there (λ h. root_any Q d at roots h q)
  where
    by_test : (t : Bool) → (r.db == d) ≡ t → option_map (λ (s : Root). s.image) (cond t (Some r) (find (λ (s : Root). s.db == d) roots)) ≡ Some at → (root_of d roots ≡ Some at → AnyOf (λ (s : Root). (d ≡ s.db) × Q s.image) roots) → AnyOf (λ (s : Root). (d ≡ s.db) × Q s.image) (r ∷ roots)
    by_test true is h rest = inl (sym (eqb-true r.db d is), subst Q (sym (same_Some r.image at h)) q)
    by_test false is h rest = inr (rest h)

module _ (es : Placed) (keeps : Bool) (most : ℕ) (home : ℕ → Home) (end : ℕ) (entries : AllByRecursion (λ p. IsEntry p.1) es) (roots : List Root) (old new : Loaded) (up : RiseFrom 0 roots) (put : AreLoadedEach (IsRootLoaded es keeps most) roots old new)
    (all : AllByRecursion (IsRootAt es home end) roots) (bare : (d : ℕ) (x : Name) → old.slots d x ≡ None) (d at top : ℕ) (there : root_of d roots ≡ Some at) (level : level_at es at ≡ suc top) where
  top_gone : (x : Name) → IsRootGone es keeps most home end entries at x → IsGone es top least None at x
  top_gone x gone = let levels : suc gone.0 ≡ suc top = sym gone.1 ∙ level in subst (λ (i : ℕ). IsGone es i least None at x) (let e : gone.0 ≡ top = omega (arith, levels) in e) gone.2

  -- what was read of a name of a database with a root
  pub slot_is : (x : Name) → IsReadAs es None (new.slots d x) (IsGone es top least None at x)
  slot_is x =
      read_so es None (new.slots d x) (AnyOf (λ (r : Root). (d ≡ r.db) × IsRootGone es keeps most home end entries r.image x) roots) (IsGone es top least None at x)
      (λ any. top_gone x (any_root (λ a. IsRootGone es keeps most home end entries a x) 0 d at roots up there any))
      (subst (λ (o : Option ReadSlot). IsReadAs es o (new.slots d x) (AnyOf (λ (r : Root). (d ≡ r.db) × IsRootGone es keeps most home end entries r.image x) roots)) (bare d x) (roots_read es keeps most home end entries roots old new d x put all))

  -- and where its record was deleted it has a slot
  pub slot_got : (x : Name) → IsGone es top least None at x → has_committed_slot (new.slots d x) ≡ true
  slot_got x gone =
      roots_got es keeps most home end entries roots old new d x put all
      (root_any (λ a. IsRootGone es keeps most home end entries a x) d at roots there (top, level, gone))

-- ---- cells

-- a cell with a slot whose record is not there is that of a record that was deleted
pub deleted_is : (o : Option Cell) → has_committed_slot (option_map slot_read o) ≡ true → lsn_under o ≡ None → (held_under o).version ≡ Deleted
deleted_is None some none = absurd (true≢false (sym some))
deleted_is (Some cell) some none = by_version cell.version some none
  where
    by_version : (v : Version) → is_committed v ≡ true → lsn_of v ≡ None → v ≡ Deleted
    by_version (There lsn) h none = absurd (none-some lsn (sym none))
    by_version Deleted h none = refl
    by_version Unset h none = absurd (true≢false (sym h))

-- and the other way round
pub was_gone : (es : Placed) (o : Option Cell) (s : Option ReadSlot) (Gone : Type 0) → s ≡ option_map slot_read o → IsReadAs es None s Gone → (held_under o).version ≡ Deleted → Gone
was_gone es None s Gone slot as_read is = absurd (true≢false (sym (ap is_deletion is)))
was_gone es (Some cell) s Gone slot (inl none) is = absurd (none-some (slot_read cell) (sym none ∙ slot))
was_gone es (Some cell) s Gone slot (inr (inl put)) is =
    let same_slot : slot_read cell ≡ slot_put put.0 = same_Some (slot_read cell) (slot_put put.0) (sym slot ∙ put.1) in
    absurd (true≢false (sym (sym (ap (λ (r : ReadSlot). is_deletion r.version) same_slot) ∙ ap is_deletion is)))
was_gone es (Some cell) s Gone slot (inr (inr gone)) is = gone.3

-- cells are as they were read
pub cells_read : (es : Placed) (d : ℕ) (cells : List (Name × Cell)) (slots : Name → Option ReadSlot) (Gone : Name → Type 0) → ((x : Name) → slots x ≡ option_map slot_read (value_at x cells)) → ((x : Name) → IsReadAs es None (slots x) (Gone x)) →
    AreRecorded es d cells → AreAsRead es cells
cells_read es d cells slots Gone are as_read recorded = record {
  shown = λ x cell there. shown_is cell (slots x) (Gone x) (slot x cell there) (as_read x);
  committed = λ x cell there unset. committed_is cell (slots x) (Gone x) (slot x cell there) (as_read x) unset;
  touched = λ x cell there. touched_is x cell there (slots x) (Gone x) (slot x cell there) (as_read x);
}
  where
    slot : (x : Name) (cell : Cell) → value_at x cells ≡ Some cell → slots x ≡ Some (slot_read cell)
    slot x cell there = are x ∙ ap (option_map slot_read) there

    shown_is : (cell : Cell) (s : Option ReadSlot) (G : Type 0) → s ≡ Some (slot_read cell) → IsReadAs es None s G → cell.shown ≡ cell.version
    shown_is cell s G is (inl none) = absurd (none-some (slot_read cell) (sym none ∙ is))
    shown_is cell s G is (inr (inl put)) = let e = same_Some (slot_read cell) (slot_put put.0) (sym is ∙ put.1) in ap (λ (r : ReadSlot). r.shown) e ∙ sym (ap (λ (r : ReadSlot). r.version) e)
    shown_is cell s G is (inr (inr gone)) = let e = same_Some (slot_read cell) (slot_gone gone.0) (sym is ∙ gone.1) in ap (λ (r : ReadSlot). r.shown) e ∙ sym (ap (λ (r : ReadSlot). r.version) e)

    committed_is : (cell : Cell) (s : Option ReadSlot) (G : Type 0) → s ≡ Some (slot_read cell) → IsReadAs es None s G → cell.version ≡ Unset → ⊥
    committed_is cell s G is (inl none) unset = none-some (slot_read cell) (sym none ∙ is)
    committed_is cell s G is (inr (inl put)) unset =
        let e = same_Some (slot_read cell) (slot_put put.0) (sym is ∙ put.1) in true≢false (sym (ap (λ (r : ReadSlot). is_committed r.version) e) ∙ ap is_committed unset)
    committed_is cell s G is (inr (inr gone)) unset =
        let e = same_Some (slot_read cell) (slot_gone gone.0) (sym is ∙ gone.1) in true≢false (sym (ap (λ (r : ReadSlot). is_committed r.version) e) ∙ ap is_committed unset)

    some_entry : (x : Name) (o : Option Entry) (value : List ℕ) → option_and_then (data_in d x) o ≡ Some value → IsSome o
    some_entry x None value h = absurd (none-some value h)
    some_entry x (Some e) value h = refl

    touched_is : (x : Name) (cell : Cell) → value_at x cells ≡ Some cell → (s : Option ReadSlot) (G : Type 0) → s ≡ Some (slot_read cell) → IsReadAs es None s G → IsSome (entry_at es cell.touched)
    touched_is x cell there s G is (inl none) = absurd (none-some (slot_read cell) (sym none ∙ is))
    touched_is x cell there s G is (inr (inl put)) =
        let e = same_Some (slot_read cell) (slot_put put.0) (sym is ∙ put.1) in
        subst (λ (i : ℕ). IsSome (entry_at es i)) (sym (ap (λ (r : ReadSlot). r.touched) e))
        (some_entry x (entry_at es put.0) cell.«data» ((recorded x cell there).committed put.0 (ap (λ (r : ReadSlot). r.version) e)))
    touched_is x cell there s G is (inr (inr gone)) =
        let e = same_Some (slot_read cell) (slot_gone gone.0) (sym is ∙ gone.1) in subst (λ (i : ℕ). IsSome (entry_at es i)) (sym (ap (λ (r : ReadSlot). r.touched) e)) gone.2

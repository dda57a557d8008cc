-- The image of a node that is logged is sound.
use Rattle.std.proofs.Common.{◌≡◌, ◌<◌, ◌⊎◌, ◌++◌, ℕ, zero, suc, List, [], ◌∷◌, Bool, true, cond, Option, None, Some, IsSome, Less, filter, map, refl, ap, sym, subst, ◌∙◌, inl, inr, arith}
use Rattle.std.specs.Prelude.{IfSome}
use Rattle.std.specs.Option.{option_and_then}
use Rattle.std.specs.List.{AllByRecursion}
use Rattle.std.specs.List.Sorted.{IsStrictlySortedBy}
use Rattle.std.specs.Map.{keys_of}
use Rattle.std.proofs.lemmas.Bool.{ne_eqb}
use Rattle.std.proofs.lemmas.Option.{none-some}
use Rattle.std.proofs.lemmas.List.Kept.{IsStrictlySortedBy-filter}
use Rattle.std.proofs.Math.Nat.{le_refl}
use Rattle.je_order.specs.Order.{name_cmp}
use Rattle.je_order.specs.Edges.{is_between}
use Rattle.je_order.specs.Edges.Edge.{At}
use Rattle.je_order.specs.declared.name.Name.{Name}
use Rattle.je_order.proofs.Lists.{all_weaker, all_kept, filter_all_pass}
use Rattle.log_entry.specs.declared.child_slot.ChildSlot.{ChildSlot}
use Rattle.log_entry.specs.declared.entry.Entry.{Entry}
use Rattle.node_core.specs.declared.slot.Version.{Version}
use Rattle.node_core.specs.declared.slot.Version.TheVariants.{There, Deleted, Unset}
use Rattle.record_map.specs.declared.cell.Cell.{Cell}
use Rattle.record_map.specs.Cells.{value_at, upper_edge, between_edges, IsRising}
use Rattle.tree_nodes.specs.declared.node.Node.{Node}
use Rattle.tree_nodes.specs.Nodes.{NodeRow, IsOver, IsUpTo, low_behind}
use Rattle.tree_nodes.specs.Levels.{row_of}
use Rattle.tree_nodes.proofs.LevelLaws.{is_level}
use Rattle.tree_nodes.proofs.LowLaws.{keys_passed}
use Rattle.log_trees.specs.Trees.{data_in, data_of}
use Rattle.log_trees.specs.Images.{NamedLsn}
use Rattle.log_trees.specs.Bounds.{is_within, Child}
use Rattle.log_trees.specs.Sound.{Home}
use Rattle.log_trees.specs.Building.{child_shown, NamesRecord}
use Rattle.log_trees.proofs.Building.{in_up}
use Rattle.log_trees.proofs.Cut.{side_by_side, children_whole}
use Rattle.log_replay.proofs.ListLaws.{all_to_map}
use Rattle.log_trees.proofs.Staying.{all_flat}
use Rattle.db_tree.specs.declared.node_at.NodeAt.{NodeAt}
use Rattle.db_tree.specs.Content.{kept_by, slot_for, record_slots, child_slot_for, child_slots}
use Rattle.db_tree.specs.Images.{Placed, entry_at, IsRead}
use Rattle.db_tree.proofs.Children.{ins_show}
use Rattle.db_tree.proofs.Contents.{bins_show, within, between_before, passed_found}
use Rattle.db_tree.proofs.NodeLogging.{entry_is_last}
use Rattle.db_tree.proofs.Order.{less_not_up, same_up}
use Rattle.db_tree.proofs.Over.{there_is, over_low, found_behind, first_or_rest}
use Rattle.tree_images.specs.Sound.{IsSoundImage}
use Rattle.tree_images.specs.Fits.{HasSoundImage, IsUnlogged, AreImaged, AreRecorded}
use Rattle.tree_images.specs.NodeLaws.{image_of, AreChildrenLogged, MayLog, LoggedImagesAreSound, LoggedImagesHaveContent}
use Rattle.tree_images.proofs.Images.{images_are_read, images_stay, data_stays}
use Rattle.tree_images.proofs.Lows.{behind_there}
use Rattle.tree_images.proofs.Neighbours.{same_within, both_all, keys_all, own_values, Follow, sides_of, they_follow}
use Rattle.tree_images.proofs.Roots.{named_below, image_there}

-- ---- the log

-- no entry stands at an LSN behind a log
pub none_named : (es : Placed) (at : ℕ) → AllByRecursion (λ p. p.0 < at) es → entry_at es at ≡ None
none_named [] at below = refl
none_named (p ∷ es) at below =
    let lt = below.0 in
    ap (λ (t : Bool). cond t (Some p.1) (entry_at es at)) (ne_eqb p.0 at (λ (e : p.0 ≡ at). absurd (omega (arith, lt, e)))) ∙ none_named es at below.1

-- data stands at the LSN of an entry
data_named : (es : Placed) (d lsn : ℕ) (x : Name) (value : List ℕ) → data_of es d x lsn ≡ Some value → (e : Entry) × (entry_at es lsn ≡ Some e)
data_named es d lsn x value is = by_entry (entry_at es lsn) refl is
  where
    by_entry : (o : Option Entry) → entry_at es lsn ≡ o → option_and_then (data_in d x) o ≡ Some value → (e : Entry) × (entry_at es lsn ≡ Some e)
    by_entry None at h = absurd (none-some value h)
    by_entry (Some e) at h = (e, at)

pub longer_sound : (es more : Placed) (home : ℕ → Home) (last d level : ℕ) (low : Name) (high : Option Name) (at : ℕ) → IsSoundImage es home last d level low high at → IsSoundImage (es ++ more) home last d level low high at
longer_sound es more home last d level low high at s = images_stay es more home home last last d level low high at (λ number le. refl) (le_refl last) s

-- ---- a BIN

module _ (es more : Placed) (d at : ℕ) (below : AllByRecursion (λ (p : ℕ × Entry). p.0 < at) es) (cells : List (Name × Cell)) (recorded : AreRecorded es d cells) where
  slot_record : (x : Name) (cell : Cell) (v : Version) → value_at x cells ≡ Some cell → cell.version ≡ v → AllByRecursion (NamesRecord (es ++ more) d at) (slot_for x v)
  slot_record x cell (There lsn) there is =
      let logged = (recorded x cell there).committed lsn is in
      let named = data_named es d lsn x cell.«data» logged in
      ((named_below es at lsn named.0 below named.1, cell.«data», data_stays es more d lsn x cell.«data» logged), tt)
  slot_record x cell Deleted there is = (tt, tt)
  slot_record x cell Unset there is = tt

  slots_record : (p : Name → Bool) → IsRising cells → AllByRecursion (NamesRecord (es ++ more) d at) (record_slots (filter (λ (e : Name × Cell). p e.0) cells))
  slots_record p up =
      all_flat (NamesRecord (es ++ more) d at) (λ (e : Name × Cell). slot_for e.0 e.1.version) (filter (λ (e : Name × Cell). p e.0) cells)
      (all_weaker (λ (e : Name × Cell). value_at e.0 cells ≡ Some e.1) (λ e. AllByRecursion (NamesRecord (es ++ more) d at) (slot_for e.0 e.1.version))
      (λ e there. slot_record e.0 e.1 e.1.version there refl) (filter (λ (e : Name × Cell). p e.0) cells)
      (all_kept (λ (e : Name × Cell). value_at e.0 cells ≡ Some e.1) (λ e. p e.0) cells (own_values cells up)))

-- ---- an IN

child_within : (low : Name) (high : Option Name) (x : Name) (o : Option ℕ) → is_within low high x ≡ true → AllByRecursion (λ (s : ChildSlot). is_within low high s.name ≡ true) (child_slot_for x o)
child_within low high x None h = tt
child_within low high x (Some lsn) h = (h, tt)

all_within : (low : Name) (high : Option Name) (row : NodeRow) → AllByRecursion (λ (s : ChildSlot). is_within low high s.name ≡ true) (child_slots (between_edges (At low) (upper_edge high) row))
all_within low high row =
    all_flat (λ (s : ChildSlot). is_within low high s.name ≡ true) (λ (e : Name × Node). child_slot_for e.0 e.1.last) (between_edges (At low) (upper_edge high) row)
    (all_weaker (λ (e : Name × Node). is_between (At low) (upper_edge high) e.0 ≡ true) (λ e. AllByRecursion (λ (s : ChildSlot). is_within low high s.name ≡ true) (child_slot_for e.0 e.1.last))
    (λ e h. child_within low high e.0 e.1.last (same_within low high e.0 ∙ h)) (between_edges (At low) (upper_edge high) row)
    (filter_all_pass (λ (e : Name × Node). is_between (At low) (upper_edge high) e.0) row))

module _ (es more : Placed) (home : ℕ → Home) (last d at : ℕ) (below : AllByRecursion (λ (p : ℕ × Entry). p.0 < at) es) (rows : List NodeRow) (k : ℕ) where
  abbrev row : NodeRow
  row = row_of rows k

  abbrev Has : Name × Node → Type 0
  Has f = HasSoundImage es home last d rows k f.0 f.1

  abbrev IsRight : Child → Type 0
  IsRight c = (c.at < at) × IsSoundImage (es ++ more) home last d k c.low c.high c.at

  right_of : (f : Name × Node) (h : Has f) (high : Option Name) → low_behind f.0 row ≡ high → IsRight (record { low = f.0; high = high; at = h.0 })
  right_of f h high ends =
      let there = image_there es home last d k f.0 (low_behind f.0 row) h.0 h.2 in
      (named_below es at h.0 there.0 below there.1, longer_sound es more home last d k f.0 high h.0 (subst (λ (o : Option Name). IsSoundImage es home last d k f.0 o h.0) ends h.2))

  abbrev AreLaid : Name → Option Name → List ChildSlot → Type 0
  AreLaid low high slots = AllByRecursion IsRight (side_by_side low high (map child_shown slots))

  -- the slots of nodes that follow one another are those of their bounds
  laid : (high : Option Name) (f : Name × Node) (rest : NodeRow) → Has f → AllByRecursion Has rest → Follow row high f.0 rest → AreLaid f.0 high (child_slots (f ∷ rest))
  laid high f [] h all ends = subst (λ (o : Option ℕ). AreLaid f.0 high (child_slot_for f.0 o ++ [])) (sym h.1) (right_of f h high ends, tt)
  laid high f (g ∷ rest) h all ends =
      subst (λ (o : Option ℕ). AreLaid f.0 high (child_slot_for f.0 o ++ child_slots (g ∷ rest))) (sym h.1)
      (subst (λ (o : Option ℕ). AreLaid f.0 high (record { name = f.0; child = h.0 } ∷ child_slot_for g.0 o ++ child_slots rest)) (sym all.0.1) (
        right_of f h (Some g.0) ends.0,
        subst (λ (o : Option ℕ). AreLaid g.0 high (child_slot_for g.0 o ++ child_slots rest)) all.0.1 (laid high g rest all.0 all.1 ends.1),
      ))

  module _ (low : Name) (high : Option Name) (up : IsRising row) (bound : IfSome high (λ h. IsSome (value_at h row))) (start : IsSome (value_at low row)) (inside : is_between (At low) (upper_edge high) low ≡ true) where
    abbrev Inside : Name → Type 0
    Inside q = is_between (At low) (upper_edge high) q ≡ true

    -- the slots of the nodes within bounds, the first of which begins at the lower one
    all_laid : (nodes : NodeRow) → AllByRecursion (λ (f : Name × Node). IsSome (value_at f.0 row) × Inside f.0) nodes → IsStrictlySortedBy name_cmp (keys_of nodes) →
        ((q : Name) → IsSome (value_at q row) → Inside q → IsSome (value_at q nodes)) → AllByRecursion Has nodes → AreLaid low high (child_slots nodes)
    unfolding IsStrictlySortedBy
    all_laid [] all sorted whole has = tt
    all_laid (f ∷ rest) all sorted whole has =
        subst (λ (y : Name). AreLaid y high (child_slots (f ∷ rest))) (first_name (first_or_rest f rest low (whole low start inside)))
        (laid high f rest has.0 has.1
        (they_follow row low high up bound f.0 rest all.0.1 sorted.1
        (all_weaker (λ (g : Name × Node). (IsSome (value_at g.0 row) × Inside g.0) × (name_cmp f.0 g.0 ≡ Less)) (λ g. IsSome (value_at g.0 row) × Inside g.0 × (name_cmp f.0 g.0 ≡ Less)) (λ g h. (h.0.0, h.0.1, h.1)) rest
        (both_all (λ (g : Name × Node). IsSome (value_at g.0 row) × Inside g.0) (λ g. name_cmp f.0 g.0 ≡ Less) rest all.1 (keys_all (λ y. name_cmp f.0 y ≡ Less) rest sorted.0)))
        (λ q there within less. past q less (first_or_rest f rest q (whole q there within)))))
      where
        first_name : (low ≡ f.0) ⊎ IsSome (value_at low rest) → f.0 ≡ low
        first_name (inl same) = sym same
        first_name (inr later) = absurd (less_not_up f.0 low (found_behind f.0 low rest sorted.0 later) (sides_of low f.0 high all.0.1).0)

        past : (q : Name) → name_cmp f.0 q ≡ Less → (q ≡ f.0) ⊎ IsSome (value_at q rest) → IsSome (value_at q rest)
        past q less (inl same) = absurd (less_not_up f.0 q less (same_up q f.0 same))
        past q less (inr h) = h

-- ---- both

module _ (es : Placed) (home : ℕ → Home) (last d : ℕ) (due : List NodeAt) (rows : List NodeRow) (cells : List (Name × Cell)) where
  -- a child has a sound image
  pub child_imaged : (k : ℕ) (low : Name) (n : Node) → AreImaged es home last d due rows → value_at low (row_of rows (suc k)) ≡ Some n → AreChildrenLogged rows due (suc k) low → (q : Name) (c : Node) →
      value_at q (row_of rows k) ≡ Some c → is_between (At low) (upper_edge (low_behind low (row_of rows (suc k)))) q ≡ true → HasSoundImage es home last d rows k q c
  child_imaged k low n imaged above logged q c there inside = by_image (imaged.images k q c there (logged q c there inside).0 (logged q c there inside).1)
    where
      by_image : HasSoundImage es home last d rows k q c ⊎ IsUnlogged rows k c → HasSoundImage es home last d rows k q c
      by_image (inl h) = h
      by_image (inr h) = let top = h.1 in let lt = is_level rows (suc k) low (there_is (row_of rows (suc k)) low n above) in absurd (omega (arith, top, lt))

  child_has : (k : ℕ) (low : Name) (n : Node) (at : ℕ) → MayLog es home last d due rows cells (suc k) low n at → (q : Name) (c : Node) → value_at q (row_of rows k) ≡ Some c →
      is_between (At low) (upper_edge (low_behind low (row_of rows (suc k)))) q ≡ true → HasSoundImage es home last d rows k q c
  child_has k low n at m q c there inside = child_imaged k low n m.imaged m.there m.children q c there inside

  at_last : (level : ℕ) (low : Name) (n : Node) (at : ℕ) → MayLog es home last d due rows cells level low n at →
      entry_at (es ++ (at, image_of d n.number level low rows cells) ∷ []) at ≡ Some (image_of d n.number level low rows cells)
  at_last level low n at m = entry_is_last es at (image_of d n.number level low rows cells) (none_named es at m.behind)

  in_below : (k : ℕ) (low : Name) (n : Node) (at : ℕ) (more : Placed) (m : MayLog es home last d due rows cells (suc k) low n at) →
      AreLaid es more home last d at m.behind rows k low (low_behind low (row_of rows (suc k))) (child_slots (between_edges (At low) (upper_edge (low_behind low (row_of rows (suc k)))) (row_of rows k)))
  in_below k low n at more m =
      all_laid es more home last d at m.behind rows k low high (m.parts.rising k) (bound high refl) (m.parts.nested k low there) (within (row_of rows (suc k)) low (low, n) (over_low (row_of rows (suc k)) low n m.there))
      nodes (all_weaker (λ (f : Name × Node). (value_at f.0 (row_of rows k) ≡ Some f.1) × (inside f.0 ≡ true)) (λ f. IsSome (value_at f.0 (row_of rows k)) × (inside f.0 ≡ true)) (λ f h. (there_is (row_of rows k) f.0 f.1 h.0, h.1)) nodes found)
      (subst (IsStrictlySortedBy name_cmp) (sym (keys_passed inside (row_of rows k))) (IsStrictlySortedBy-filter name_cmp inside (keys_of (row_of rows k)) (m.parts.rising k)))
      (λ q some within_bounds. subst IsSome (sym (passed_found inside (row_of rows k) q within_bounds)) some)
      (all_weaker (λ (f : Name × Node). (value_at f.0 (row_of rows k) ≡ Some f.1) × (inside f.0 ≡ true)) (λ f. HasSoundImage es home last d rows k f.0 f.1) (λ f h. child_has k low n at m f.0 f.1 h.0 h.1) nodes found)
    where
      high : Option Name
      high = low_behind low (row_of rows (suc k))

      inside : Name → Bool
      inside q = is_between (At low) (upper_edge high) q

      nodes : NodeRow
      nodes = filter (λ (f : Name × Node). inside f.0) (row_of rows k)

      there : IsSome (value_at low (row_of rows (suc k)))
      there = there_is (row_of rows (suc k)) low n m.there

      bound : (o : Option Name) → high ≡ o → IfSome o (λ h. IsSome (value_at h (row_of rows k)))
      bound None is = tt
      bound (Some h) is = m.parts.nested k h (behind_there low h (row_of rows (suc k)) is)

      found : AllByRecursion (λ (f : Name × Node). (value_at f.0 (row_of rows k) ≡ Some f.1) × (inside f.0 ≡ true)) nodes
      found =
          both_all (λ (f : Name × Node). value_at f.0 (row_of rows k) ≡ Some f.1) (λ f. inside f.0 ≡ true) nodes
          (all_kept (λ (f : Name × Node). value_at f.0 (row_of rows k) ≡ Some f.1) (λ f. inside f.0) (row_of rows k) (own_values (row_of rows k) (m.parts.rising k)))
          (filter_all_pass (λ (f : Name × Node). inside f.0) (row_of rows k))

pub images_sound : LoggedImagesAreSound
images_sound es home last d due rows cells zero low n at m = record {
  number = n.number;
  slots = record_slots (between_edges (At low) (upper_edge (low_behind low (row_of rows 0))) cells);
  image = at_last es home last d due rows cells 0 low n at m;
  entry = m.entry;
  own = m.imaged.numbers 0 low n m.there;
  records =
      all_weaker (NamesRecord (es ++ (at, image_of d n.number 0 low rows cells) ∷ []) d at)
      (λ s. is_within low (low_behind low (row_of rows 0)) s.name ≡ true → NamesRecord (es ++ (at, image_of d n.number 0 low rows cells) ∷ []) d at s) (λ s h e. h)
      (record_slots (between_edges (At low) (upper_edge (low_behind low (row_of rows 0))) cells))
      (slots_record es ((at, image_of d n.number 0 low rows cells) ∷ []) d at m.behind cells m.recorded (is_between (At low) (upper_edge (low_behind low (row_of rows 0)))) m.rising);
}
images_sound es home last d due rows cells (suc k) low n at m =
    let high : Option Name = low_behind low (row_of rows (suc k)) in
    let slots : List ChildSlot = child_slots (between_edges (At low) (upper_edge high) (row_of rows k)) in
    record {
      number = n.number;
      slots = slots;
      image = at_last es home last d due rows cells (suc k) low n at m;
      entry = m.entry;
      own = m.imaged.numbers (suc k) low n m.there;
      below =
          subst (AllByRecursion (λ (c : Child). (c.at < at) × IsSoundImage (es ++ (at, image_of d n.number (suc k) low rows cells) ∷ []) home last d k c.low c.high c.at))
          (sym (children_whole low high (map child_shown slots) (all_to_map child_shown (λ (s : NamedLsn). is_within low high s.0 ≡ true) slots (all_within low high (row_of rows k))) (in_up d n.number (suc (suc k)) slots m.entry)))
          (in_below es home last d due rows cells k low n at ((at, image_of d n.number (suc k) low rows cells) ∷ []) m);
    }

pub images_have_content : LoggedImagesHaveContent
images_have_content es home last d due rows cells zero low n at m =
    bins_show (es ++ (at, image_of d n.number 0 low rows cells) ∷ []) rows cells d n.number at low n m.rising m.touched (at_last es home last d due rows cells 0 low n at m)
images_have_content es home last d due rows cells (suc k) low n at m =
    ins_show longer rows (kept_by cells) d n.number (suc (suc k)) k at low n m.parts m.there read (at_last es home last d due rows cells (suc k) low n at m)
  where
    longer : Placed
    longer = es ++ (at, image_of d n.number (suc k) low rows cells) ∷ []

    read : (x : Name) (c : Name × Node) → IsOver (row_of rows (suc k)) x (low, n) → IsOver (row_of rows k) x c → (lsn : ℕ) × (c.1.last ≡ Some lsn) × IsRead longer k lsn x
    read x c upper lower =
        let from : IsUpTo low c.0 = lower.most low (m.parts.nested k low (there_is (row_of rows (suc k)) low n m.there)) upper.below in
        let inside = between_before low x c.0 (upper_edge (low_behind low (row_of rows (suc k)))) from lower.below (within (row_of rows (suc k)) x (low, n) upper) in
        let has = child_has es home last d due rows cells k low n at m c.0 c.1 lower.there inside in (
          has.0,
          has.1,
          images_are_read longer home last d k c.0 (low_behind c.0 (row_of rows k)) has.0 x
              (longer_sound es ((at, image_of d n.number (suc k) low rows cells) ∷ []) home last d k c.0 (low_behind c.0 (row_of rows k)) has.0 has.2)
              (same_within c.0 (low_behind c.0 (row_of rows k)) x ∙ within (row_of rows k) x c lower),
        )

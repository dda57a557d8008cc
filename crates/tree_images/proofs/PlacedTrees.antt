-- A tree where a name got its slot.
use Rattle.std.proofs.Common.{◌≡◌, ◌≤◌, ◌<◌, ◌+◌, ◌^◌, ◌++◌, ℕ, suc, List, [], ◌∷◌, Bool, true, false, cond, Option, None, Some, IsSome, is_some, map, option_map, length, refl, ap, sym, subst, ◌∙◌, arith}
use Rattle.std.specs.Map.{keys_of}
use Rattle.std.specs.List.{slice_get}
use Rattle.std.proofs.lemmas.Bool.{true≢false, eqb-true}
use Rattle.std.proofs.lemmas.List.{append_assoc, append-nil}
use Rattle.je_order.specs.declared.name.Name.{Name}
use Rattle.record_map.specs.declared.cell.Cell.{Cell}
use Rattle.record_map.specs.Cells.{value_at, last_of}
use Rattle.tree_nodes.specs.declared.node.Node.{Node}
use Rattle.tree_nodes.specs.Nodes.{NodeRow, least, IsOver}
use Rattle.tree_nodes.specs.Levels.{row_of, AreParts}
use Rattle.tree_nodes.specs.Lows.{lows_of}
use Rattle.log_trees.specs.Sound.{Home}
use Rattle.db_tree.specs.declared.node_at.NodeAt.{NodeAt}
use Rattle.db_tree.specs.declared.node_split.NodeSplit.{NodeSplit}
use Rattle.db_tree.specs.declared.slot_room.SlotRoom.{SlotRoom}
use Rattle.db_tree.specs.declared.tree.DbTree.{DbTree}
use Rattle.db_tree.specs.Images.{Placed}
use Rattle.db_tree.specs.NodeImages.{node_of, number_in, number_of, AreNodeImages}
use Rattle.db_tree.specs.Numbers.{IsRootNumbered, AreNewNumbered}
use Rattle.db_tree.specs.Shapes.{AreForced, forced_if, IsPlaced, IsCellMade, shape_in, made_by}
use Rattle.db_tree.specs.Splits.{Shape, splits_from, splits_of, is_raised, lows_behind, has_slot, shape_behind, logged_by, nodes_logged, made_for, one_if}
use Rattle.db_tree.specs.Splitting.{AreGrown}
use Rattle.db_tree.specs.Waiting.{waiting_of, waiting_before, halves_of, root_at, logged_for, is_among}
use Rattle.db_tree.proofs.ForcedLaws.{force_lows}
use Rattle.tree_images.specs.Fits.{AreImaged}
use Rattle.tree_images.specs.PlaceLaws.{home_with, AreInOrder, IsPlacedWith, PlacedTreesAreImaged, AreSplitsOf, UnloggedTreesAreImaged}
use Rattle.tree_images.proofs.Grown.{among_back, among_first, homes_agree}
use Rattle.tree_images.proofs.Longer.{imaged_stays}
use Rattle.tree_images.proofs.NodeSteps.{cleared_imaged, waiting_imaged}
use Rattle.db_tree.specs.NodeSteps.{slot_splits}
use Rattle.std.proofs.lemmas.Option.{none-some}
use Rattle.tree_images.proofs.Ordered.{placed_in_order}
use Rattle.tree_images.proofs.Splits.{grown_nodes, height_grown, lows_height, splits_of_nodes}

-- ---- numbers

number_forced : (t : Bool) (o : Option Node) → number_in (option_map (forced_if t false) o) ≡ number_in o
number_forced t None = refl
number_forced true (Some n) = refl
number_forced false (Some n) = refl

number_same : (nodes : List NodeAt) (old new : List NodeRow) → AreForced false nodes old new → (k : ℕ) (x : Name) → number_of old k x ≡ number_of new k x
number_same nodes old new cleared k x = sym (ap number_in (cleared.each k x) ∙ number_forced (is_among nodes k x) (value_at x (row_of old k)))

numbers_before : (first : ℕ) (splits : List NodeSplit) (raised : Bool) (nodes : List NodeAt) (old new : List NodeRow) → AreForced false nodes old new → AreNewNumbered first splits raised new → AreNewNumbered first splits raised old
numbers_before first splits raised nodes old new cleared numbers = record {
  halves = λ level split at. number_same nodes old new cleared level split.middle ∙ numbers.halves level split at;
  root = by_raised raised numbers.root;
}
  where
    by_raised : (t : Bool) → IsRootNumbered t first (length splits) new → IsRootNumbered t first (length splits) old
    by_raised true h = number_same nodes old new cleared (length splits) least ∙ h
    by_raised false h = h

-- ---- whether nodes were made

one_same : (a b : Bool) → one_if a ≡ one_if b → a ≡ b
one_same true true h = refl
one_same false false h = refl
one_same true false h = absurd (omega (arith, h))
one_same false true h = absurd (omega (arith, h))

pub raised_same : (n : ℕ) (a b : Bool) → n + one_if a ≡ n + one_if b → a ≡ b
raised_same n a b h = one_same a b (omega (arith, h))

pub none_made : (splits : List NodeSplit) (raised : Bool) → length splits + one_if raised ≡ 0 → (splits ≡ []) × (raised ≡ false)
none_made [] false h = (refl, refl)
none_made [] true h = absurd (omega (arith, h))
none_made (s ∷ splits) raised h = absurd (omega (arith, h))

-- a name whose cell was not made had one
pub had_slot : (x : Name) (old new : List (Name × Cell)) (t : Bool) → is_some (value_at x old) ≡ t → (made : Bool) → made ≡ false → IsCellMade made x old new → IsSome (value_at x new) → t ≡ true
had_slot x old new true was made none cells some = refl
had_slot x old new false was true none cells some = absurd (true≢false none)
had_slot x old new false was false none cells some = absurd (true≢false (sym some ∙ ap (λ (l : List (Name × Cell)). is_some (value_at x l)) cells ∙ was))

-- ---- the tree

module _ (es : Placed) (home : ℕ → Home) (last d fanout : ℕ) (x : Name) (room : SlotRoom) (first later : ℕ) (old new : DbTree) (was : AreParts old.levels) (now : AreParts new.levels) (placed : IsPlaced fanout x room old new)
    (images : AreNodeImages d new.levels new.cells (nodes_logged fanout x (shape_in old)) room.images.items) (numbers : AreNewNumbered first room.splits.items room.is_raised new.levels)
    (lt : last < first) (enough : first + made_by room ≤ suc later) (fits : later < 2 ^ 64) (imaged : AreImaged es home last d [] old.levels) where
  abbrev mid : List NodeRow
  mid = placed.back.mid

  lows_mid : lows_of mid ≡ lows_of new.levels
  lows_mid = sym (force_lows false (map node_of room.images.items) mid new.levels placed.back.cleared)

  -- by what a shape is with the name's slot
  by_parts : (raised : Bool) → room.is_raised ≡ raised → raised ≡ is_raised room.splits.items (lows_of old.levels) → room.splits.items ≡ splits_from fanout x (keys_of old.cells) (lows_of old.levels) →
      lows_of mid ≡ lows_behind room.splits.items (lows_of old.levels) → map node_of room.images.items ≡ logged_for room.splits.items raised (waiting_of old.levels) → IsPlacedWith es (home_with home first d room.splits.items) later d room new
  by_parts raised room_raised same splits lows nodes = record {
    imaged = cleared_imaged es (home_with home first d room.splits.items) later d (map node_of room.images.items) mid new.levels placed.back.cleared
        (grown_nodes es home last d (map node_of room.images.items) room.splits.items raised first later old.levels mid was placed.back.cleared.was_parts
        (subst (λ (t : Bool). AreGrown room.splits.items t old.levels mid) room_raised placed.back.grown) same lows
        (subst (λ (l : List NodeSplit). (level : ℕ) (split : NodeSplit) → slice_get l level ≡ Some split → (node : Node) × IsOver (row_of old.levels level) split.middle (split.low, node)) (sym splits) (splits_of_nodes fanout x old.cells old.levels was))
        (subst (λ (t : Bool). AreNewNumbered first room.splits.items t mid) room_raised (numbers_before first room.splits.items room.is_raised (map node_of room.images.items) mid new.levels placed.back.cleared numbers))
        lt (subst (λ (t : Bool). first + (length room.splits.items + one_if t) ≤ suc later) room_raised enough) fits
        (λ level low among. subst (λ (l : List NodeAt). is_among l level low ≡ true) (sym (nodes ∙ append_assoc before (halves_of 0 room.splits.items) (root_at (length room.splits.items) raised)))
        (among_back before (halves_of 0 room.splits.items ++ root_at (length room.splits.items) raised) level low among))
        imaged);
    order = subst (AreInOrder new.levels) (sym nodes)
        (placed_in_order fanout x old.cells room.splits.items raised old.levels mid new.levels was placed.back.cleared.was_parts now splits same (subst (λ (t : Bool). AreGrown room.splits.items t old.levels mid) room_raised placed.back.grown)
        (λ level low height some. imaged.top level low height some)
        (subst (λ (l : List NodeAt). AreForced false l mid new.levels) nodes placed.back.cleared));
    root = λ is level at. root_among (sym room_raised ∙ is) level at;
  }
    where
      before : List NodeAt
      before = waiting_before (last_of room.splits.items) room.splits.items (waiting_of old.levels)

      root_among : raised ≡ true → (level : ℕ) → suc level ≡ length new.levels → is_among (map node_of room.images.items) level least ≡ true
      root_among up level at =
          subst (λ (l : List NodeAt). is_among l level least ≡ true) (sym nodes)
          (among_back (before ++ halves_of 0 room.splits.items) (root_at (length room.splits.items) raised) level least
          (subst (λ (t : Bool). is_among (root_at (length room.splits.items) t) level least ≡ true) (sym up)
          (among_first (record { level = length room.splits.items; low = least }) [] level least level_is refl)))
        where
          count : length room.splits.items ≡ length old.levels
          count = eqb-true (length room.splits.items) (length (lows_of old.levels)) (sym same ∙ up) ∙ lows_height old.levels

          grew : length mid ≡ length old.levels + 1
          grew =
              height_grown room.splits.items raised old.levels mid (subst (λ (t : Bool). AreGrown room.splits.items t old.levels mid) room_raised placed.back.grown)
              ∙ ap (λ (t : Bool). length old.levels + one_if t) up

          level_is : length room.splits.items ≡ level
          level_is = let cleared : length new.levels ≡ length mid = placed.back.cleared.height in omega (arith, at, count, grew, cleared)

  -- a name that had a cell takes nothing
  by_none : has_slot x (shape_in old) ≡ true → IsPlacedWith es (home_with home first d room.splits.items) later d room new
  by_none had =
      let made : made_by room ≡ 0 = placed.made ∙ ap (λ (t : Bool). cond t 0 (made_for (splits_of fanout x (shape_in old)) (lows_of old.levels))) had in
      let parts = none_made room.splits.items room.is_raised made in
      let none : map node_of room.images.items ≡ [] = images.nodes ∙ ap (λ (t : Bool). cond t [] (logged_by (splits_of fanout x (shape_in old)) (shape_in old))) had in
      record {
        imaged = cleared_imaged es (home_with home first d room.splits.items) later d (map node_of room.images.items) mid new.levels placed.back.cleared
            (subst (λ (l : List NodeAt). AreImaged es (home_with home first d room.splits.items) later d l mid) (sym none)
            (subst (AreImaged es (home_with home first d room.splits.items) later d []) (sym (mid_is parts.0 parts.1))
            (subst (λ (l : Placed). AreImaged l (home_with home first d room.splits.items) later d [] old.levels) (append-nil es)
            (imaged_stays es [] home (home_with home first d room.splits.items) last later d [] old.levels (homes_agree home last first d room.splits.items lt) (omega (arith, lt, enough)) imaged))));
        order = subst (AreInOrder new.levels) (sym none) tt;
        root = λ is level at. absurd (true≢false (sym is ∙ parts.1));
      }
    where
      mid_is : room.splits.items ≡ [] → room.is_raised ≡ false → mid ≡ old.levels
      mid_is splits raised =
          let grown : AreGrown [] false old.levels mid = subst (λ (l : List NodeSplit). AreGrown l false old.levels mid) splits (subst (λ (t : Bool). AreGrown room.splits.items t old.levels mid) raised placed.back.grown) in
          grown.root ∙ grown.split

  -- a name that had none takes what its shape says
  by_new : has_slot x (shape_in old) ≡ false → room.splits.items ≡ splits_of fanout x (shape_in old) → IsPlacedWith es (home_with home first d room.splits.items) later d room new
  by_new none splits =
      by_parts (is_raised room.splits.items (lows_of old.levels))
      (raised_same (length room.splits.items) room.is_raised (is_raised room.splits.items (lows_of old.levels)) (made ∙ ap (λ (l : List NodeSplit). made_for l (lows_of old.levels)) (sym splits)))
      refl splits
      (lows_mid ∙ shape ∙ ap (λ (l : List NodeSplit). lows_behind l (lows_of old.levels)) (sym splits))
      (nodes ∙ ap (λ (l : List NodeSplit). logged_for l (is_raised l (lows_of old.levels)) (waiting_of old.levels)) (sym splits))
    where
      made : length room.splits.items + one_if room.is_raised ≡ made_for (splits_of fanout x (shape_in old)) (lows_of old.levels)
      made = placed.made ∙ ap (λ (t : Bool). cond t 0 (made_for (splits_of fanout x (shape_in old)) (lows_of old.levels))) none

      shape : lows_of new.levels ≡ lows_behind (splits_of fanout x (shape_in old)) (lows_of old.levels)
      shape =
          ap (λ (s : Shape). s.lows) placed.shape
          ∙ ap (λ (t : Bool). (cond t (shape_in old) (shape_behind (splits_of fanout x (shape_in old)) x (shape_in old))).lows) none

      nodes : map node_of room.images.items ≡ logged_for (splits_of fanout x (shape_in old)) (is_raised (splits_of fanout x (shape_in old)) (lows_of old.levels)) (waiting_of old.levels)
      nodes = images.nodes ∙ ap (λ (t : Bool). cond t [] (logged_by (splits_of fanout x (shape_in old)) (shape_in old))) none

  by_slot : (t : Bool) → has_slot x (shape_in old) ≡ t → (made : Bool) → room.is_new ≡ made → (made ≡ true → room.splits.items ≡ splits_of fanout x (shape_in old)) → IsPlacedWith es (home_with home first d room.splits.items) later d room new
  by_slot true had made is splits = by_none had
  by_slot false none true is splits = by_new none (splits refl)
  by_slot false none false is splits = absurd (true≢false (sym (had_slot x old.cells new.cells (has_slot x (shape_in old)) refl room.is_new is placed.back.cells placed.there) ∙ none))

  pub placed_imaged : (room.is_new ≡ true → room.splits.items ≡ splits_of fanout x (shape_in old)) → IsPlacedWith es (home_with home first d room.splits.items) later d room new
  placed_imaged splits = by_slot (has_slot x (shape_in old)) refl room.is_new refl splits

pub trees_placed : PlacedTreesAreImaged
trees_placed es home last d fanout x room first later old new was now placed images numbers splits lt enough fits imaged =
    placed_imaged es home last d fanout x room first later old new was now placed images numbers lt enough fits imaged splits

-- ---- a slot that is not logged

pub slot_splits_of : (fanout : ℕ) (x : Name) (tree : DbTree) → AreParts tree.levels → AreSplitsOf (slot_splits fanout x (shape_in tree)) tree.levels
slot_splits_of fanout x tree parts = by_slot (has_slot x (shape_in tree))
  where
    by_slot : (t : Bool) → AreSplitsOf (cond t [] (splits_of fanout x (shape_in tree))) tree.levels
    by_slot true = λ level split at. absurd (none-some split at)
    by_slot false = splits_of_nodes fanout x tree.cells tree.levels parts

pub unlogged_imaged : UnloggedTreesAreImaged
unlogged_imaged es home last d fanout x first later old new was split lt enough fits imaged =
    waiting_imaged es (home_with home first d splits) later d (halves_of 0 splits ++ root_at (length splits) raised) split.mid new.levels split.waits
    (grown_nodes es home last d (halves_of 0 splits ++ root_at (length splits) raised) splits raised first later old.levels split.mid was split.parts split.grown refl split.lows (slot_splits_of fanout x old was) split.numbers lt enough
    fits (λ level low among. among) imaged)
  where
    splits : List NodeSplit
    splits = slot_splits fanout x (shape_in old)

    raised : Bool
    raised = is_raised splits (lows_of old.levels)

-- Which BINs are dirty, where a name got its slot and images are still to be logged.
use Rattle.std.proofs.Common.{◌≡◌, ◌+◌, ◌++◌, not, ℕ, List, [], Bool, true, false, cond, Option, None, Some, map, option_map, length, refl, ap, sym, subst, ◌∙◌}
use Rattle.std.proofs.lemmas.Bool.{true≢false}
use Rattle.std.proofs.lemmas.List.{append_assoc}
use Rattle.std.proofs.lemmas.Option.{none-some}
use Rattle.je_order.specs.declared.name.Name.{Name}
use Rattle.record_map.specs.declared.cell.Cell.{Cell}
use Rattle.record_map.specs.Cells.{value_at, last_of, IsRising}
use Rattle.tree_nodes.specs.declared.node.Node.{Node}
use Rattle.tree_nodes.specs.Nodes.{NodeRow}
use Rattle.tree_nodes.specs.Levels.{row_of, AreParts}
use Rattle.tree_nodes.specs.Lows.{lows_of}
use Rattle.db_tree.specs.declared.node_at.NodeAt.{NodeAt}
use Rattle.db_tree.specs.declared.node_split.NodeSplit.{NodeSplit}
use Rattle.db_tree.specs.declared.slot_room.SlotRoom.{SlotRoom}
use Rattle.db_tree.specs.declared.tree.DbTree.{DbTree}
use Rattle.db_tree.specs.Content.{kept_by}
use Rattle.db_tree.specs.Dirty.{AreExact}
use Rattle.db_tree.specs.NodeImages.{node_of, AreNodeImages}
use Rattle.db_tree.specs.Shapes.{AreForced, IsCellMade, IsPlaced, forced_if, made_by, shape_in}
use Rattle.db_tree.specs.Splits.{has_slot, is_raised, logged_by, made_for, nodes_logged, one_if, splits_of}
use Rattle.db_tree.specs.Trees.{cell_or_fresh}
use Rattle.db_tree.specs.Waiting.{halves_of, is_among, logged_for, root_at, waiting_before, waiting_of}
use Rattle.db_tree.proofs.DirtyCells.{exact_held}
use Rattle.db_tree.proofs.ForcedLaws.{force_lows}
use Rattle.db_tree.proofs.NodesExact.{imaged_same}
use Rattle.db_tree.proofs.Records.{same_kept}
use Rattle.tree_images.specs.ExactLaws.{PlacedBinsAreExact}
use Rattle.tree_images.specs.PlaceLaws.{AreSplitsOf}
use Rattle.tree_images.proofs.Exact.{grown_exact, not_among}
use Rattle.tree_images.proofs.Grown.{among_back, among_front}
use Rattle.tree_images.proofs.PlacedTrees.{had_slot, none_made, raised_same}
use Rattle.tree_images.proofs.Splits.{splits_of_nodes}

-- ---- the halves are among the nodes that are logged

pub record HasHalves (splits : List NodeSplit) (raised : Bool) (nodes : List NodeAt) (old : List NodeRow) : Type 0 where
  pub splits_are : AreSplitsOf splits old
  pub whole : (level : ℕ) (low : Name) → is_among (halves_of 0 splits ++ root_at (length splits) raised) level low ≡ true → is_among nodes level low ≡ true

none_halves : (old : List NodeRow) → HasHalves [] false [] old
none_halves old = record { splits_are = λ level split at. absurd (none-some split at); whole = λ level low h. absurd (true≢false (sym h)) }

some_halves : (splits : List NodeSplit) (raised : Bool) (waiting : List (List Name)) (old : List NodeRow) → AreSplitsOf splits old → HasHalves splits raised (logged_for splits raised waiting) old
some_halves splits raised waiting old are = record {
  splits_are = are;
  whole = λ level low h.
      subst (λ (l : List NodeAt). is_among l level low ≡ true) (sym (append_assoc before (halves_of 0 splits) (root_at (length splits) raised)))
      (among_back before (halves_of 0 splits ++ root_at (length splits) raised) level low h);
}
  where
    before : List NodeAt
    before = waiting_before (last_of splits) splits waiting

module _ (d fanout : ℕ) (x : Name) (room : SlotRoom) (old new : DbTree) (was : AreParts old.levels) (placed : IsPlaced fanout x room old new) (images : AreNodeImages d new.levels new.cells (nodes_logged fanout x (shape_in old)) room.images.items) where
  abbrev Halves : Type 0
  Halves = HasHalves room.splits.items room.is_raised (map node_of room.images.items) old.levels

  halves_none : has_slot x (shape_in old) ≡ true → Halves
  halves_none had =
      let made : made_by room ≡ 0 = placed.made ∙ ap (λ (t : Bool). cond t 0 (made_for (splits_of fanout x (shape_in old)) (lows_of old.levels))) had in
      let parts = none_made room.splits.items room.is_raised made in
      let none : map node_of room.images.items ≡ [] = images.nodes ∙ ap (λ (t : Bool). cond t [] (logged_by (splits_of fanout x (shape_in old)) (shape_in old))) had in
      subst (λ (l : List NodeSplit). HasHalves l room.is_raised (map node_of room.images.items) old.levels) (sym parts.0)
      (subst (λ (t : Bool). HasHalves [] t (map node_of room.images.items) old.levels) (sym parts.1) (subst (λ (l : List NodeAt). HasHalves [] false l old.levels) (sym none) (none_halves old.levels)))

  halves_new : has_slot x (shape_in old) ≡ false → room.splits.items ≡ splits_of fanout x (shape_in old) → Halves
  halves_new none splits =
      subst (λ (l : List NodeSplit). HasHalves l room.is_raised (map node_of room.images.items) old.levels) (sym splits)
      (subst (λ (t : Bool). HasHalves (splits_of fanout x (shape_in old)) t (map node_of room.images.items) old.levels) (sym raised)
      (subst (λ (l : List NodeAt). HasHalves (splits_of fanout x (shape_in old)) (is_raised (splits_of fanout x (shape_in old)) (lows_of old.levels)) l old.levels) (sym nodes)
      (some_halves (splits_of fanout x (shape_in old)) (is_raised (splits_of fanout x (shape_in old)) (lows_of old.levels)) (waiting_of old.levels) old.levels (splits_of_nodes fanout x old.cells old.levels was))))
    where
      raised : room.is_raised ≡ is_raised (splits_of fanout x (shape_in old)) (lows_of old.levels)
      raised =
          raised_same (length room.splits.items) room.is_raised (is_raised (splits_of fanout x (shape_in old)) (lows_of old.levels))
          (placed.made ∙ ap (λ (t : Bool). cond t 0 (made_for (splits_of fanout x (shape_in old)) (lows_of old.levels))) none
          ∙ ap (λ (l : List NodeSplit). made_for l (lows_of old.levels)) (sym splits)
          ∙ ap (λ (l : List NodeSplit). length room.splits.items + one_if (is_raised l (lows_of old.levels))) splits)

      nodes : map node_of room.images.items ≡ logged_for (splits_of fanout x (shape_in old)) (is_raised (splits_of fanout x (shape_in old)) (lows_of old.levels)) (waiting_of old.levels)
      nodes = images.nodes ∙ ap (λ (t : Bool). cond t [] (logged_by (splits_of fanout x (shape_in old)) (shape_in old))) none

  pub placed_halves : (room.is_new ≡ true → room.splits.items ≡ splits_of fanout x (shape_in old)) → Halves
  placed_halves splits = by_slot (has_slot x (shape_in old)) refl room.is_new refl splits
    where
      by_slot : (t : Bool) → has_slot x (shape_in old) ≡ t → (made : Bool) → room.is_new ≡ made → (made ≡ true → room.splits.items ≡ splits_of fanout x (shape_in old)) → Halves
      by_slot true had made is given = halves_none had
      by_slot false none true is given = halves_new none (given refl)
      by_slot false none false is given = absurd (true≢false (sym (had_slot x old.cells new.cells (has_slot x (shape_in old)) refl room.is_new is placed.back.cells placed.there) ∙ none))

-- ---- the whole

forced_same : (o : Option Node) → option_map (forced_if false false) o ≡ o
forced_same None = refl
forced_same (Some n) = refl

-- nodes that are still to be logged need not wait
pub cleared_exact : (due nodes : List NodeAt) (old new : List NodeRow) (cells : List (Name × Cell)) → AreForced false nodes old new → ((low : Name) → is_among nodes 0 low ≡ true → is_among due 0 low ≡ true) → AreExact due old cells → AreExact due new cells
cleared_exact due nodes old new cells cleared within exact x n there out =
    exact x n
    (sym (cleared.each 0 x ∙ ap (λ (t : Bool). option_map (forced_if t false) (value_at x (row_of old 0))) (not_among nodes due x within out) ∙ forced_same (value_at x (row_of old 0))) ∙ there) out
    ∙ sym (ap not (imaged_same old new cells x n (force_lows false nodes old new cleared)))

made_kept : (made : Bool) (x : Name) (old new : List (Name × Cell)) → IsCellMade made x old new → (y : Name) → kept_by new y ≡ kept_by old y
made_kept true x old new made y = same_kept old new x (cell_or_fresh (value_at x old)) made.2 refl y
made_kept false x old new made y = ap (λ (cells : List (Name × Cell)). kept_by cells y) made

was_up : (made : Bool) (x : Name) (old new : List (Name × Cell)) → IsCellMade made x old new → IsRising new → IsRising old
was_up true x old new made up = made.0
was_up false x old new made up = subst (λ (cells : List (Name × Cell)). IsRising cells) made up

pub placed_exact : PlacedBinsAreExact
placed_exact due d fanout x room old new was placed images splits up exact =
    exact_held (nodes ++ due) new.levels old.cells new.cells (was_up room.is_new x old.cells new.cells placed.back.cells up) up (made_kept room.is_new x old.cells new.cells placed.back.cells)
    (cleared_exact (nodes ++ due) nodes placed.back.mid new.levels old.cells placed.back.cleared (λ low h. among_front nodes due 0 low h)
    (grown_exact due (nodes ++ due) room.splits.items room.is_raised old.levels placed.back.mid old.cells was placed.back.cleared.was_parts placed.back.grown halves.splits_are (λ low h. among_back nodes due 0 low h)
    (λ level low h. among_front nodes due level low (halves.whole level low h)) exact))
  where
    nodes : List NodeAt
    nodes = map node_of room.images.items

    halves : HasHalves room.splits.items room.is_raised nodes old.levels
    halves = placed_halves d fanout x room old new was placed images splits

-- A tree that fits its log, where a name got its slot: its images are due.
use Rattle.std.proofs.Common.{◌≡◌, ◌≤◌, ◌<◌, ◌+◌, ◌^◌, ◌==◌, ◌&&◌, ◌||◌, ◌∙◌, ℕ, suc, List, [], ◌∷◌, Bool, true, false, Option, None, Some, IsSome, length, map, refl, sym, subst}
use Rattle.std.specs.Prelude.{IfSome}
use Rattle.std.specs.List.{AllByRecursion}
use Rattle.je_order.specs.declared.name.Name.{Name}
use Rattle.record_map.specs.declared.cell.Cell.{Cell}
use Rattle.record_map.specs.Cells.{value_at}
use Rattle.tree_nodes.specs.Nodes.{NodeRow}
use Rattle.tree_nodes.specs.Levels.{row_of}
use Rattle.log_trees.specs.Sound.{Home}
use Rattle.db_tree.specs.declared.node_image.NodeImage.{NodeImage}
use Rattle.db_tree.specs.declared.slot_room.SlotRoom.{SlotRoom}
use Rattle.db_tree.specs.declared.tree.DbTree.{DbTree}
use Rattle.db_tree.specs.Images.{Placed}
use Rattle.db_tree.specs.NodeImages.{node_of, IsNodeImage}
use Rattle.db_tree.specs.Shapes.{IsCellMade, made_by}
use Rattle.db_tree.specs.Trees.{cell_or_fresh}
use Rattle.db_tree.specs.Waiting.{is_among}
use Rattle.std.proofs.lemmas.List.{append-nil}
use Rattle.db_tree.specs.declared.node_at.NodeAt.{NodeAt}
use Rattle.db_tree.specs.Dirty.{AreExact}
use Rattle.tree_images.specs.Fits.{AreImaged, AreRecorded, IsRecorded}
use Rattle.tree_images.proofs.PlacedExact.{placed_exact}
use Rattle.tree_images.specs.Forest.{latest_at, AreLogged, FitsDue, IsLoggedWrite}
use Rattle.tree_images.specs.Notes.{HasNotes, NotesHold, is_late, may_stay}
use Rattle.tree_images.specs.PlaceLaws.{home_with, AreInOrder, IsPlacedWith}
use Rattle.tree_images.specs.TreeSteps.{HasSlot}
use Rattle.tree_images.proofs.ForestWrites.{logged_set}
use Rattle.tree_images.proofs.NotedNodes.{notes_forced, some_forced}
use Rattle.tree_images.proofs.NotedRoots.{notes_grown}
use Rattle.tree_images.proofs.PlacedTrees.{trees_placed}
use Rattle.tree_images.proofs.Recorded.{cells_are_set, made_recorded}

-- the records of cells stand where they stood: the new cell has none
made_cells : (es : Placed) (d : ℕ) (x : Name) (is_new : Bool) (old new : List (Name × Cell)) → IsCellMade is_new x old new → AreRecorded es d old → AreRecorded es d new
made_cells es d x true old new made all =
    cells_are_set es d old new x (Some (cell_or_fresh (value_at x old))) made.2 (made_recorded es d x (value_at x old) (by_cell (value_at x old) refl)) all
  where
    by_cell : (o : Option Cell) → value_at x old ≡ o → IfSome o (IsRecorded es d x)
    by_cell None there = tt
    by_cell (Some cell) there = all x cell there
made_cells es d x false old new same all = subst (λ (cells : List (Name × Cell)). AreRecorded es d cells) (sym same) all

pub placed_logged : (es : Placed) (base fanout first d : ℕ) (x : Name) (room : SlotRoom) (old new : DbTree) → HasSlot fanout first d x room old new → AreLogged es base d old.cells → AreLogged es base d new.cells
placed_logged es base fanout first d x room old new h all = by_new room.is_new h.placed.back.cells
  where
    by_new : (is_new : Bool) → IsCellMade is_new x old.cells new.cells → AreLogged es base d new.cells
    by_new true made =
        logged_set es base d old.cells new.cells x (Some (cell_or_fresh (value_at x old.cells))) made.2
        (subst (λ (o : Option Cell). IfSome (cell_or_fresh o).write (λ w. IsLoggedWrite es base d x w.value)) (sym made.1) tt) all
    by_new false same = subst (λ (cells : List (Name × Cell)). AreLogged es base d cells) (sym same) all

pub placed_fits : (es : Placed) (base : ℕ) (home : ℕ → Home) (last d fanout : ℕ) (x : Name) (room : SlotRoom) (first later : ℕ) (old new : DbTree) → HasSlot fanout first d x room old new →
    last < first → first + made_by room ≤ suc later → later < 2 ^ 64 → FitsDue es base home last d old [] → FitsDue es base (home_with home first d room.splits.items) later d new room.images.items
placed_fits es base home last d fanout x room first later old new h lt enough small fits = by_images room.images.items exact placed.imaged placed.order h.images.each
  where
    placed : IsPlacedWith es (home_with home first d room.splits.items) later d room new
    placed = trees_placed es home last d fanout x room first later old new h.was_parts h.parts h.placed h.images h.numbers h.splits lt enough small fits.imaged

    recorded : AreRecorded es d new.cells
    recorded = made_cells es d x room.is_new old.cells new.cells h.placed.back.cells fits.recorded

    exact : AreExact (map node_of room.images.items) new.levels new.cells
    exact =
        subst (λ (due : List NodeAt). AreExact due new.levels new.cells) (append-nil (map node_of room.images.items))
        (placed_exact [] d fanout x room old new h.was_parts h.placed h.images h.splits h.rising fits.exact)

    by_images : (images : List NodeImage) → AreExact (map node_of images) new.levels new.cells → AreImaged es (home_with home first d room.splits.items) later d (map node_of images) new.levels → AreInOrder new.levels (map node_of images) →
        AllByRecursion (IsNodeImage d new.levels new.cells) images → FitsDue es base (home_with home first d room.splits.items) later d new images
    by_images [] exact imaged order made = record { tree = h.keeps es base (latest_at base es d) fits.tree; imaged = imaged; recorded = recorded; exact = exact }
    by_images (image ∷ images) exact imaged order made = record {
      before = new.levels;
      due = record { parts = h.parts; rising = h.rising; imaged = imaged; recorded = recorded; exact = exact; order = order; made = made; lows = refl; numbers = λ level low. refl };
      is_tree = h.keeps es base (latest_at base es d) fits.tree;
    }

-- what a checkpoint noted is noted still: a new node is where the node is that it was part of, and a new root where the old one is
pub placed_notes : (es : Placed) (base : ℕ) (home : ℕ → Home) (last d fanout : ℕ) (x : Name) (room : SlotRoom) (first later : ℕ) (old new : DbTree) → HasSlot fanout first d x room old new →
    last < first → first + made_by room ≤ suc later → later < 2 ^ 64 → FitsDue es base home last d old [] → HasNotes es base [] old.levels → HasNotes es base room.images.items new.levels
placed_notes es base home last d fanout x room first later old new h lt enough small fits notes start begun =
    notes_forced (may_stay es base start (map node_of room.images.items) new.levels) false (map node_of room.images.items) mid new.levels h.placed.back.cleared
    (subst (λ (n : ℕ). NotesHold (λ level low lsn. (is_among (map node_of room.images.items) level low && (suc level == n)) || is_late es base start lsn) mid) (sym height)
    (notes_grown (is_late es base start) (map node_of room.images.items) room.splits.items room.is_raised old.levels mid h.was_parts h.placed.back.cleared.was_parts h.placed.back.grown
    (λ level low at some. fits.imaged.top level low at some) (λ level low at some. placed.imaged.top level low (at ∙ sym height) (there level low some)) (λ raised level at. placed.root raised level (at ∙ sym height)) (notes start begun)))
  where
    mid : List NodeRow
    mid = h.placed.back.mid

    height : length new.levels ≡ length mid
    height = h.placed.back.cleared.height

    there : (level : ℕ) (low : Name) → IsSome (value_at low (row_of mid level)) → IsSome (value_at low (row_of new.levels level))
    there level low some = subst IsSome (sym (h.placed.back.cleared.each level low)) (some_forced (is_among (map node_of room.images.items) level low) false (value_at low (row_of mid level)) some)

    placed : IsPlacedWith es (home_with home first d room.splits.items) later d room new
    placed = trees_placed es home last d fanout x room first later old new h.was_parts h.parts h.placed h.images h.numbers h.splits lt enough small fits.imaged

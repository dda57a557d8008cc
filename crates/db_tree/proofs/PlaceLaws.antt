-- A name gets a slot.
use Rattle.std.proofs.Common.{◌≡◌, ◌*◌, ◌+◌, ◌≤◌, ◌++◌, ◌∷◌, [], ℕ, List, Bool, true, false, cond, Option, None, Some, IsSome, is_some, map, length, nat_lt, refl, ap, ap₂, sym, subst, ◌∙◌, arith, is_eq, ◌⊎◌, inl, inr}
use Rattle.std.specs.BTreeMap.{insert_entry}
use Rattle.std.specs.List.{AllByRecursion}
use Rattle.std.proofs.lemmas.Bool.{eq-eqb, true≢false}
use Rattle.std.proofs.lemmas.List.{length-map}
use Rattle.std.proofs.lemmas.Option.{none-some}
use Rattle.std.specs.Map.{keys_of}
use Rattle.je_order.specs.Order.{name_cmp}
use Rattle.je_order.specs.declared.name.Name.{Name}
use Rattle.record_map.specs.declared.cell.Cell.{Cell}
use Rattle.record_map.specs.Cells.{value_at, fresh, IsRising}
use Rattle.record_map.proofs.NameLaws.{same_or_other, other_stays, same_gets}
use Rattle.tree_nodes.specs.Nodes.{NodeRow, least}
use Rattle.tree_nodes.specs.Levels.{row_of, AreParts}
use Rattle.tree_nodes.specs.Lows.{lows_of}
use Rattle.db_tree.specs.declared.node_at.NodeAt.{NodeAt}
use Rattle.db_tree.specs.declared.node_image.NodeImage.{NodeImage}
use Rattle.db_tree.specs.declared.node_split.NodeSplit.{NodeSplit}
use Rattle.db_tree.specs.declared.slot_room.SlotRoom.{SlotRoom}
use Rattle.db_tree.specs.declared.tree.DbTree.{DbTree}
use Rattle.db_tree.specs.NodeImages.{number_in, number_of, node_of, sizes_in, AreLoggable, AreNodeImages}
use Rattle.db_tree.specs.Numbers.{IsRootNumbered, AreNewNumbered}
use Rattle.db_tree.specs.Placing.{AreTaken, IsFilled, IsPlacedBy}
use Rattle.db_tree.specs.Seen.{occupied}
use Rattle.db_tree.specs.Shapes.{shape_in, AreForced, IsCellMade, IsPlaced, IsUndoable}
use Rattle.db_tree.specs.Splits.{is_raised, lows_behind, one_if, splits_of, has_slot, shape_behind, nodes_logged, made_for, logged_by, node_size}
use Rattle.db_tree.specs.Splitting.{AreGrown}
use Rattle.db_tree.specs.Trees.{HasCell, cell_or_fresh}
use Rattle.db_tree.specs.Waiting.{is_among, logged_for, still_waiting, waiting_of, waiting_raised, waits_at, count_lows}
use Rattle.db_tree.proofs.ForcedLaws.{force_lows, clear_waiting, force_begin}
use Rattle.db_tree.proofs.ImageLaws.{images_kept, sizes_are, number_kept}
use Rattle.db_tree.proofs.Records.{kept_cell}
use Rattle.tree_nodes.proofs.RisingLists.{same_lists}
use Rattle.db_tree.proofs.ShapeLaws.{shape_is}
use Rattle.db_tree.proofs.WaitCounts.{count_both}

-- ---- a cell that is taken out again

pub cell_back : (old mid new : List (Name × Cell)) (name : Name) → IsRising old → IsRising new → value_at name old ≡ None → ((x : Name) → value_at x mid ≡ cond (is_eq (name_cmp name x)) (Some fresh) (value_at x old)) →
    ((x : Name) → value_at x new ≡ cond (is_eq (name_cmp name x)) None (value_at x mid)) → new ≡ old
cell_back old mid new name up_old up_new free put taken = same_lists new old up_new up_old (λ x. by_name x (same_or_other name x))
  where
    by_name : (x : Name) → (name ≡ x) ⊎ (is_eq (name_cmp name x) ≡ false) → value_at x new ≡ value_at x old
    by_name x (inl is) = subst (λ (y : Name). value_at y new ≡ value_at y old) is (taken name ∙ same_gets name None (value_at name mid) ∙ sym free)
    by_name x (inr apart) = taken x ∙ other_stays name x None (value_at x mid) apart ∙ put x ∙ other_stays name x (Some fresh) (value_at x old) apart

pub cell_undone : (old mid made new : List (Name × Cell)) (name : Name) → IsRising old → IsRising new → value_at name old ≡ None → HasCell old mid name (cell_or_fresh (value_at name old)) → made ≡ mid →
    ((x : Name) → value_at x new ≡ cond (is_eq (name_cmp name x)) None (value_at x made)) → new ≡ old
cell_undone old mid made new name up_old up_new free has same taken =
    cell_back old made new name up_old up_new free
    (λ x. ap (value_at x) same ∙ has x ∙ ap (λ (o : Option Cell). cond (is_eq (name_cmp name x)) (Some (cell_or_fresh o)) (value_at x old)) free) taken

-- a cell is made, and nothing else changes the cells
pub cell_moved : (old mid made new : List (Name × Cell)) (name : Name) → mid ≡ old → new ≡ made → HasCell mid made name (cell_or_fresh (value_at name mid)) → HasCell old new name (cell_or_fresh (value_at name old))
cell_moved old mid made new name first last has =
    subst (λ (c : List (Name × Cell)). HasCell old c name (cell_or_fresh (value_at name old))) (sym last) (subst (λ (c : List (Name × Cell)). HasCell c made name (cell_or_fresh (value_at name c))) first has)

pub cell_kept : (cells : List (Name × Cell)) (name : Name) → is_some (value_at name cells) ≡ true → HasCell cells cells name (cell_or_fresh (value_at name cells))
cell_kept cells name some = by_value (value_at name cells) refl some
  where
    by_value : (o : Option Cell) → value_at name cells ≡ o → is_some o ≡ true → HasCell cells cells name (cell_or_fresh (value_at name cells))
    by_value None is there = absurd (true≢false (sym there))
    by_value (Some cell) is there = kept_cell cells name cell is

-- ---- nodes that wait

pub raised_is : (splits : List NodeSplit) (rows : List NodeRow) (height : ℕ) → height ≡ length rows → length splits ≡ height → is_raised splits (lows_of rows) ≡ true
raised_is splits rows height is same = eq-eqb (length splits) (length (lows_of rows)) (same ∙ is ∙ sym (length-map rows keys_of))

count_raised : (t : Bool) (waiting : List (List Name)) → count_lows (waiting_raised t waiting) ≡ count_lows waiting
count_raised true waiting = let whole : count_lows (waiting ++ [] ∷ []) ≡ count_lows waiting + 0 = count_both waiting ([] ∷ []) in omega (arith, whole)
count_raised false waiting = refl

-- both halves of each split wait, and a new root
pub few_placed : (splits : List NodeSplit) (old grown put waited new : List NodeRow) → waiting_of grown ≡ waiting_raised (is_raised splits (lows_of old)) (waiting_of old) → put ≡ grown →
    count_lows (waiting_of waited) ≤ count_lows (waiting_of put) + 2 * length splits → count_lows (waiting_of new) ≤ count_lows (waiting_of waited) + 1 → is_raised splits (lows_of old) ≡ true →
    count_lows (waiting_of new) ≤ count_lows (waiting_of old) + 2 * made_for splits (lows_of old)
few_placed splits old grown put waited new waits same first next raised =
    let begin : count_lows (waiting_of put) ≡ count_lows (waiting_of old) =
    ap (λ (rows : List NodeRow). count_lows (waiting_of rows)) same ∙ ap count_lows waits ∙ count_raised (is_raised splits (lows_of old)) (waiting_of old) in
    let one : one_if (is_raised splits (lows_of old)) ≡ 1 = ap one_if raised in
    omega (arith, begin, one, first, next)

-- ---- images

pub taken : (db : ℕ) (nodes : List NodeAt) (slice images : List NodeImage) (old new : List NodeRow) (was cells : List (Name × Cell)) → slice ≡ images → AreForced false (map node_of slice) old new → cells ≡ was →
    AreNodeImages db old was nodes images → AreNodeImages db new cells nodes images × AreForced false nodes old new
taken db nodes slice images old new was cells same forced kept are = (
  subst (λ (c : List (Name × Cell)). AreNodeImages db new c nodes images) (sym kept) (images_kept false (map node_of slice) nodes old new db was images forced are),
  subst (λ (ns : List NodeAt). AreForced false ns old new) (ap (map node_of) same ∙ are.nodes) forced,
)

-- a cell was made first
pub filled_by : (db : ℕ) (name : Name) (nodes : List NodeAt) (images : List NodeImage) (old mid new : DbTree) → mid.levels ≡ old.levels → mid.cells ≡ insert_entry name_cmp old.cells name fresh → HasCell old.cells mid.cells name (cell_or_fresh (value_at name old.cells)) → IsSome (value_at name mid.cells) →
    occupied mid.cells ≡ occupied old.cells → ((x : Name) → IsSome (value_at x old.cells) → IsSome (value_at x mid.cells)) → new.cells ≡ mid.cells → AreTaken db nodes images mid new → IsFilled db name nodes images old new
filled_by db name nodes images old mid new levels list cell there same kept cells are = record {
  images = record {
    images = are.images;
    loggable = are.loggable;
    waited = subst (λ (rows : List NodeRow). AllByRecursion (λ image. image.waited ≡ waits_at rows image.level image.low) images) levels are.waited;
    cleared = subst (λ (rows : List NodeRow). AreForced false nodes rows new.levels) levels are.cleared;
  };
  cells = cells ∙ list;
  cell = subst (λ (c : List (Name × Cell)). HasCell old.cells c name (cell_or_fresh (value_at name old.cells))) (sym cells) cell;
  there = subst (λ (c : List (Name × Cell)). IsSome (value_at name c)) (sym cells) there;
  same = ap occupied cells ∙ same;
  kept = λ x some. subst (λ (c : List (Name × Cell)). IsSome (value_at x c)) (sym cells) (kept x some);
}

-- ---- the slot

pub placed_by : (db : ℕ) (name : Name) (room : SlotRoom) (old mid new : DbTree) (nodes : List NodeAt) → IsRising old.cells → value_at name old.cells ≡ None → room.is_new ≡ true →
    room.is_raised ≡ is_raised room.splits.items (lows_of old.levels) → nodes ≡ logged_for room.splits.items room.is_raised (waiting_of old.levels) → lows_of mid.levels ≡ lows_behind room.splits.items (lows_of old.levels) →
    waiting_of mid.levels ≡ waiting_raised (is_raised room.splits.items (lows_of old.levels)) (waiting_of old.levels) → AreGrown room.splits.items (is_raised room.splits.items (lows_of old.levels)) old.levels mid.levels → mid.cells ≡ old.cells →
    IsFilled db name nodes room.images.items mid new → IsPlacedBy db room.splits.items name room old new
placed_by db name room old mid new nodes up free fresh_one raised are lows waits grown cells filled =
    let logged : nodes ≡ logged_by room.splits.items (shape_in old) = are ∙ ap (λ (t : Bool). logged_for room.splits.items t (waiting_of old.levels)) raised in
    let list : new.cells ≡ insert_entry name_cmp old.cells name fresh = filled.cells ∙ ap (λ (c : List (Name × Cell)). insert_entry name_cmp c name fresh) cells in
    let new_lows : lows_of new.levels ≡ lows_behind room.splits.items (lows_of old.levels) = force_lows false nodes mid.levels new.levels filled.images.cleared ∙ lows in
    let new_waits : waiting_of new.levels ≡ still_waiting (logged_by room.splits.items (shape_in old)) 0 (waiting_raised (is_raised room.splits.items (lows_of old.levels)) (waiting_of old.levels)) =
    clear_waiting nodes mid.levels new.levels filled.images.cleared ∙ ap₂ (λ (ns : List NodeAt) (w : List (List Name)). still_waiting ns 0 w) logged waits in
    let shape : shape_in new ≡ shape_behind room.splits.items name (shape_in old) = shape_is new.cells _ (lows_of new.levels) _ (waiting_of new.levels) _ list new_lows new_waits in
    let images : AreNodeImages db new.levels new.cells (logged_by room.splits.items (shape_in old)) room.images.items = subst (λ (ns : List NodeAt). AreNodeImages db new.levels new.cells ns room.images.items) logged filled.images.images in
    record {
      there = filled.there;
      same = filled.same ∙ ap occupied cells;
      kept = λ x some. filled.kept x (subst (λ (c : List (Name × Cell)). IsSome (value_at x c)) (sym cells) some);
      shape = shape;
      images = images;
      sizes = sizes_are db new.levels (shape_behind room.splits.items name (shape_in old)) (logged_by room.splits.items (shape_in old)) room.images.items new_lows
          (subst (λ (c : List (Name × Cell)). AreNodeImages db new.levels c (logged_by room.splits.items (shape_in old)) room.images.items) list images);
      loggable = filled.images.loggable;
      made = ap (λ (t : Bool). length room.splits.items + one_if t) raised;
      back = record {
        mid = mid.levels;
        grown = subst (λ (t : Bool). AreGrown room.splits.items t old.levels mid.levels) (sym raised) grown;
        cleared = subst (λ (ns : List NodeAt). AreForced false ns mid.levels new.levels) (sym filled.images.images.nodes) filled.images.cleared;
        waited = filled.images.waited;
        cells = subst (λ (t : Bool). IsCellMade t name old.cells new.cells) (sym fresh_one) (up, free, cell_moved old.cells mid.cells new.cells new.cells name cells refl filled.cell);
      };
    }

-- where the splits are read as slices
pub placed_from : (db : ℕ) (name : Name) (room : SlotRoom) (old mid new : DbTree) (nodes : List NodeAt) (first second : List NodeSplit) → first ≡ room.splits.items → second ≡ room.splits.items → IsRising old.cells → value_at name old.cells ≡ None →
    room.is_new ≡ true → room.is_raised ≡ is_raised room.splits.items (lows_of old.levels) → nodes ≡ logged_for first room.is_raised (waiting_of old.levels) → lows_of mid.levels ≡ lows_behind second (lows_of old.levels) →
    waiting_of mid.levels ≡ waiting_raised (is_raised second (lows_of old.levels)) (waiting_of old.levels) → AreGrown second (is_raised second (lows_of old.levels)) old.levels mid.levels → mid.cells ≡ old.cells →
    IsFilled db name nodes room.images.items mid new → IsPlacedBy db room.splits.items name room old new
placed_from db name room old mid new nodes first second is_first is_second up free fresh_one raised are lows waits grown cells filled =
    placed_by db name room old mid new nodes up free fresh_one raised
    (are ∙ ap (λ (l : List NodeSplit). logged_for l room.is_raised (waiting_of old.levels)) is_first)
    (lows ∙ ap (λ (l : List NodeSplit). lows_behind l (lows_of old.levels)) is_second)
    (waits ∙ ap (λ (l : List NodeSplit). waiting_raised (is_raised l (lows_of old.levels)) (waiting_of old.levels)) is_second)
    (subst (λ (l : List NodeSplit). AreGrown l (is_raised l (lows_of old.levels)) old.levels mid.levels) is_second grown) cells filled

-- a name with a cell
pub placed_there : (db fanout : ℕ) (name : Name) (room : SlotRoom) (tree : DbTree) → AreParts tree.levels → has_slot name (shape_in tree) ≡ true → room.splits.items ≡ [] → room.is_raised ≡ false → room.is_new ≡ false → room.images.items ≡ [] →
    IsPlaced fanout name room tree tree × AreNodeImages db tree.levels tree.cells (nodes_logged fanout name (shape_in tree)) room.images.items
placed_there db fanout name room tree parts there splits raised old images = (
  record {
    there = there;
    same = refl;
    kept = λ x some. some;
    shape = sym (ap (λ (t : Bool). cond t (shape_in tree) (shape_behind (splits_of fanout name (shape_in tree)) name (shape_in tree))) there);
    sizes = ap sizes_in images
        ∙ sym (ap (λ (t : Bool). map (node_size (cond t (shape_in tree) (shape_behind (splits_of fanout name (shape_in tree)) name (shape_in tree)))) (cond t [] (logged_by (splits_of fanout name (shape_in tree)) (shape_in tree)))) there);
    loggable = subst AreLoggable (sym images) tt;
    made = ap₂ (λ (l : List NodeSplit) (t : Bool). length l + one_if t) splits raised ∙ sym (ap (λ (t : Bool). cond t 0 (made_for (splits_of fanout name (shape_in tree)) (lows_of tree.levels))) there);
    low = ap (λ (t : Bool). nat_lt 64 (cond t 0 (made_for (splits_of fanout name (shape_in tree)) (lows_of tree.levels)))) there;
    back = record {
      mid = tree.levels;
      grown = subst (λ (l : List NodeSplit). AreGrown l room.is_raised tree.levels tree.levels) (sym splits)
          (subst (λ (t : Bool). AreGrown [] t tree.levels tree.levels) (sym raised) (record { mid = tree.levels; split = refl; root = refl }));
      cleared = subst (λ (l : List NodeImage). AreForced false (map node_of l) tree.levels tree.levels) (sym images) (force_begin false tree.levels parts);
      waited = subst (AllByRecursion (λ image. image.waited ≡ waits_at tree.levels image.level image.low)) (sym images) tt;
      cells = subst (λ (t : Bool). IsCellMade t name tree.cells tree.cells) (sym old) refl;
    };
  },
  subst (λ (l : List NodeImage). AreNodeImages db tree.levels tree.cells (nodes_logged fanout name (shape_in tree)) l) (sym images)
      (subst (λ (t : Bool). AreNodeImages db tree.levels tree.cells (cond t [] (logged_by (splits_of fanout name (shape_in tree)) (shape_in tree))) []) (sym there) (record { nodes = refl; each = tt })),
)

-- ---- a slot that is taken back

pub cell_gone : (now new before : List (Name × Cell)) (name : Name) (t : Bool) → t ≡ true → IsRising new → ((x : Name) → value_at x new ≡ cond (is_eq (name_cmp name x)) None (value_at x now)) → IsCellMade t name before now → new ≡ before
cell_gone now new before name t is up taken made = by_test (subst (λ (s : Bool). IsCellMade s name before now) is made)
  where
    by_test : IsCellMade true name before now → new ≡ before
    by_test h = cell_undone before now now new name h.0 up h.1 h.2 refl taken

pub cell_same : (now before : List (Name × Cell)) (name : Name) (t : Bool) → t ≡ false → IsCellMade t name before now → now ≡ before
cell_same now before name t is made = subst (λ (s : Bool). IsCellMade s name before now) is made

pub levels_back : (name : Name) (room : SlotRoom) (before now : DbTree) (slice : List NodeImage) (splits : List NodeSplit) (levels restored new : List NodeRow) → IsUndoable name room before now → slice ≡ room.images.items → splits ≡ room.splits.items → levels ≡ now.levels →
    ((mid : List NodeRow) → AreForced false (map node_of slice) mid levels → AllByRecursion (λ image. image.waited ≡ waits_at mid image.level image.low) slice → restored ≡ mid) →
    ((old : List NodeRow) → AreGrown splits room.is_raised old restored → new ≡ old) → new ≡ before.levels
levels_back name room before now slice splits levels restored new is images parts same back shrunk =
    shrunk before.levels
    (subst (λ (rows : List NodeRow). AreGrown splits room.is_raised before.levels rows) (sym mid) (subst (λ (l : List NodeSplit). AreGrown l room.is_raised before.levels is.mid) (sym parts) is.grown))
  where
    mid : restored ≡ is.mid
    mid =
        back is.mid
        (subst (λ (rows : List NodeRow). AreForced false (map node_of slice) is.mid rows) (sym same) (subst (λ (l : List NodeImage). AreForced false (map node_of l) is.mid now.levels) (sym images) is.cleared))
        (subst (AllByRecursion (λ image. image.waited ≡ waits_at is.mid image.level image.low)) (sym images) is.waited)

-- ---- the numbers of new nodes

pub numbers_kept : (first : ℕ) (room : SlotRoom) (second : List NodeSplit) (raised : Bool) (nodes : List NodeAt) (mid new : List NodeRow) → second ≡ room.splits.items → room.is_raised ≡ raised → AreForced false nodes mid new → AreNewNumbered first second raised mid →
    AreNewNumbered first room.splits.items room.is_raised new
numbers_kept first room second raised nodes mid new is same are numbers =
    subst (λ (l : List NodeSplit). AreNewNumbered first l room.is_raised new) is (subst (λ (t : Bool). AreNewNumbered first second t new) (sym same) moved)
  where
    kept : (level : ℕ) (low : Name) → number_of new level low ≡ number_of mid level low
    kept level low = ap number_in (are.each level low) ∙ number_kept (is_among nodes level low) false (value_at low (row_of mid level))

    root : (t : Bool) → IsRootNumbered t first (length second) mid → IsRootNumbered t first (length second) new
    root true h = kept (length second) least ∙ h
    root false h = tt

    moved : AreNewNumbered first second raised new
    moved = record { halves = λ level split at. kept level split.middle ∙ numbers.halves level split at; root = root raised numbers.root }

pub no_numbers : (first : ℕ) (room : SlotRoom) (rows : List NodeRow) → room.splits.items ≡ [] → room.is_raised ≡ false → AreNewNumbered first room.splits.items room.is_raised rows
no_numbers first room rows splits raised =
    subst (λ (l : List NodeSplit). AreNewNumbered first l room.is_raised rows) (sym splits)
    (subst (λ (t : Bool). AreNewNumbered first [] t rows) (sym raised) (record { halves = λ level split at. absurd (none-some split at); root = tt }))

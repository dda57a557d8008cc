-- Names of changes get their slots, change by change.
use Rattle.std.proofs.Common.{◌≡◌, ◌≤◌, ◌<◌, ◌+◌, ◌-◌, ◌*◌, ◌^◌, ◌==◌, ◌||◌, ◌++◌, ◌⊎◌, ℕ, List, [], ◌∷◌, Bool, true, false, cond, Option, Some, IsSome, is_some, map, length, take, drop, get_or, min, refl, ap, ap₂, sym, subst, ◌∙◌, inl, inr, arith}
use mathlib.Core.Path.{fun_ext}
use Rattle.std.specs.Ordering.{is_eq, nat_cmp}
use Rattle.std.specs.BTreeMap.{get}
use Rattle.std.specs.List.{AllByRecursion}
use Rattle.std.proofs.lemmas.Bool.{eq-eqb}
use Rattle.std.proofs.lemmas.List.{take_more, take_all, drop_all, length-take-le, take-append-drop}
use Rattle.je_order.specs.declared.name.Name.{Name}
use Rattle.log_entry.specs.Encoding.{size_of}
use Rattle.record_map.specs.declared.cell.Cell.{Cell}
use Rattle.record_map.specs.Cells.{value_at}
use Rattle.tree_nodes.specs.Nodes.{NodeRow}
use Rattle.record_tree.specs.declared.tree_change.TreeChange.{TreeChange}
use Rattle.record_tree.specs.Occupied.{AreSame}
use Rattle.db_tree.specs.declared.tree.DbTree.{DbTree}
use Rattle.db_tree.specs.declared.slot_room.SlotRoom.{SlotRoom}
use Rattle.db_tree.specs.declared.node_image.NodeImage.{NodeImage}
use Rattle.db_tree.specs.Seen.{occupied}
use Rattle.db_tree.specs.Shapes.{IsPlaced, IsUndoable, shape_in, made_by}
use Rattle.db_tree.specs.Splits.{count_waiting}
use Rattle.db_tree.specs.Splits.{shape_with, image_sizes, nodes_made, passes_top}
use Rattle.db_tree.proofs.Ending.{next_left}
use Rattle.db_tree.proofs.FewSplits.{images_few}
use Rattle.in_tree.specs.declared.placed.Placed.{Placed}
use Rattle.in_tree.specs.Forest.{Forest, Replaces, IsSameForest, cells_of, cells_seen, is_there, HasSameTrees, KeepsCells, HasOne}
use Rattle.in_tree.specs.Limits.{change_size, one_made, change_sizes, numbers_drawn, are_too_high}
use Rattle.tree_images.specs.TreeSteps.{HasSlot}
use Rattle.in_tree.specs.Placing.{IsPlacedIn, ArePlaced, IsFittedIn, AreFitted, first_behind, IsPlacedNext, placed_sizes, numbers_of, count_images, AreLoggable}
use Rattle.in_tree.specs.Shapes.{Shapes, shape_of, shapes_of, shapes_after}
use Rattle.in_tree.specs.Waits.{waits_in}
use Rattle.in_tree.proofs.Forests.{number_cases, replaced, others, forest_back, forest_same, forest_trees, forest_kept}
use Rattle.in_tree.proofs.Waits.{forest_waits, same_waits, shapes_at, shapes_same}

-- ---- one change

pub placed_in : (fanout db : ℕ) (x : Name) (room : SlotRoom) (old new : Forest) (tree next : DbTree) → db < 4294967296 → Some tree ≡ get nat_cmp old db → Replaces old new db (Some next) → IsPlaced fanout x room tree next →
    IsPlacedIn fanout db x room old new
placed_in fanout db x room old new tree next within there has placed = record { within = within; tree = tree; next = next; was = sym there; has = has; placed = placed }

same_then : (a b c : Forest) → IsSameForest a b → IsSameForest b c → IsSameForest a c
same_then a b c first next d = next d ∙ first d

-- a tree that takes its slot back is what it was
pub taken_back : (fanout db : ℕ) (x : Name) (room : SlotRoom) (before old new : Forest) (tree next : DbTree) → Some tree ≡ get nat_cmp old db → Replaces old new db (Some next) →
    ((t : DbTree) → IsUndoable x room t tree → next.levels ≡ t.levels) → ((t : DbTree) → IsUndoable x room t tree → next.cells ≡ t.cells) → IsPlacedIn fanout db x room before old → IsSameForest before new
taken_back fanout db x room before old new tree next there has levels cells placed =
    forest_back before old new db placed.tree (Some placed.next) placed.was placed.has
    (subst (λ (t : DbTree). Replaces old new db (Some t)) (tree_is next placed.tree (levels placed.tree undo) (cells placed.tree undo)) has)
  where
    tree_is : (a b : DbTree) → a.levels ≡ b.levels → a.cells ≡ b.cells → a ≡ b
    tree_is a b levels cells = ap₂ (λ (l : List NodeRow) (c : List (Name × Cell)). record { cells = c; levels = l }) levels cells

    some_same : (a b : DbTree) → Some a ≡ Some b → a ≡ b
    some_same a b h = cc

    is_tree : placed.next ≡ tree
    is_tree = some_same placed.next tree (sym (replaced before old db (Some placed.next) placed.has) ∙ sym there)

    undo : IsUndoable x room placed.tree tree
    undo = subst (λ (t : DbTree). IsUndoable x room placed.tree t) is_tree placed.placed.back

pub was_shape : (fanout : ℕ) (c : TreeChange) (room : SlotRoom) (old new : Forest) → (p : IsPlacedIn fanout c.db c.name room old new) → shapes_of old c.db ≡ shape_in p.tree
was_shape fanout c room old new p = shapes_at old c.db p.within ∙ ap shape_of p.was

-- the trees behind a change
pub shapes_placed : (fanout : ℕ) (c : TreeChange) (room : SlotRoom) (old new : Forest) → IsPlacedIn fanout c.db c.name room old new → shapes_of new ≡ shapes_after fanout (shapes_of old) c
shapes_placed fanout c room old new placed = fun_ext (λ (d : ℕ). by_number d (number_cases c.db d))
  where
    was : shapes_of old c.db ≡ shape_in placed.tree
    was = was_shape fanout c room old new placed

    by_number : (d : ℕ) → (c.db ≡ d) ⊎ ((d == c.db ≡ false) × (is_eq (nat_cmp c.db d) ≡ false)) → shapes_of new d ≡ cond (d == c.db) (shape_with fanout c.name (shapes_of old c.db)) (shapes_of old d)
    by_number d (inl is) =
        subst (λ (e : ℕ). shapes_of new e ≡ cond (e == c.db) (shape_with fanout c.name (shapes_of old c.db)) (shapes_of old e)) is
        (shapes_at new c.db placed.within
        ∙ ap shape_of (replaced old new c.db (Some placed.next) placed.has)
        ∙ placed.placed.shape
        ∙ sym (ap (shape_with fanout c.name) was)
        ∙ sym (ap (λ (t : Bool). cond t (shape_with fanout c.name (shapes_of old c.db)) (shapes_of old c.db)) (eq-eqb c.db c.db refl)))
    by_number d (inr apart) =
        shapes_same old new d (others old new c.db (Some placed.next) placed.has d apart.1)
        ∙ sym (ap (λ (t : Bool). cond t (shape_with fanout c.name (shapes_of old c.db)) (shapes_of old d)) apart.0)

-- ---- several changes

pub placed_none : (fanout : ℕ) (forest : Forest) → ArePlaced fanout [] [] forest forest
placed_none fanout forest = λ d. refl

-- one more at the end
pub placed_more : (fanout : ℕ) (changes : List TreeChange) (rooms : List SlotRoom) (c : TreeChange) (room : SlotRoom) (old mid new : Forest) → ArePlaced fanout changes rooms old mid →
    IsPlacedIn fanout c.db c.name room mid new → ArePlaced fanout (changes ++ c ∷ []) (rooms ++ room ∷ []) old new
placed_more fanout [] [] c room old mid new same placed =
    (new, record { within = placed.within; tree = placed.tree; next = placed.next; was = sym (same c.db) ∙ placed.was; has = λ d. placed.has d ∙ ap (λ (o : Option DbTree). cond (is_eq (nat_cmp c.db d)) (Some placed.next) o) (same d); placed = placed.placed }, λ d. refl)
placed_more fanout [] (r ∷ rooms) c room old mid new same placed = absurd same
placed_more fanout (e ∷ changes) [] c room old mid new same placed = absurd same
placed_more fanout (e ∷ changes) (r ∷ rooms) c room old mid new so_far placed = (so_far.0, so_far.1, placed_more fanout changes rooms c room so_far.0 mid new so_far.2 placed)

-- and the last one taken off
pub placed_last : (fanout : ℕ) (changes : List TreeChange) (rooms : List SlotRoom) (c : TreeChange) (room : SlotRoom) (old new : Forest) → length changes ≡ length rooms → ArePlaced fanout (changes ++ c ∷ []) (rooms ++ room ∷ []) old new →
    (mid : Forest) × ArePlaced fanout changes rooms old mid × IsPlacedIn fanout c.db c.name room mid new
placed_last fanout [] [] c room old new even placed =
    let p = placed.1 in
    (old, λ d. refl, record { within = p.within; tree = p.tree; next = p.next; was = p.was; has = λ d. placed.2 d ∙ p.has d; placed = p.placed })
placed_last fanout [] (r ∷ rooms) c room old new even placed = absurd (omega (arith, even))
placed_last fanout (e ∷ changes) [] c room old new even placed = absurd (omega (arith, even))
placed_last fanout (e ∷ changes) (r ∷ rooms) c room old new even placed =
    let rest = placed_last fanout changes rooms c room placed.0 new (omega (arith, even)) placed.2 in
    (rest.0, (placed.0, placed.1, rest.1), rest.2)

pub numbers_more : (changes : List TreeChange) (rooms : List SlotRoom) (c : TreeChange) (room : SlotRoom) → length changes ≡ length rooms →
    numbers_of (changes ++ c ∷ []) (rooms ++ room ∷ []) ≡ numbers_of changes rooms + (made_by room + one_made c.makes)
numbers_more [] [] c room even = omega arith
numbers_more [] (r ∷ rooms) c room even = absurd (omega (arith, even))
numbers_more (e ∷ changes) [] c room even = absurd (omega (arith, even))
numbers_more (e ∷ changes) (r ∷ rooms) c room even = let rest = numbers_more changes rooms c room (omega (arith, even)) in omega (arith, rest)

pub placed_even : (fanout : ℕ) (changes : List TreeChange) (rooms : List SlotRoom) (old new : Forest) → ArePlaced fanout changes rooms old new → length rooms ≡ length changes
placed_even fanout [] [] old new placed = refl
placed_even fanout [] (r ∷ rooms) old new placed = absurd placed
placed_even fanout (c ∷ changes) [] old new placed = absurd placed
placed_even fanout (c ∷ changes) (r ∷ rooms) old new placed = let rest = placed_even fanout changes rooms placed.0 new placed.2 in omega (arith, rest)

-- ---- what holds then

pub same_seen_of : (old new : Forest) → IsSameForest old new → AreSame (cells_seen old) (cells_seen new)
same_seen_of old new same d = ap (λ (t : Option DbTree). occupied (cells_of t)) (same d)

pub placed_seen : (fanout : ℕ) (changes : List TreeChange) (rooms : List SlotRoom) (old new : Forest) → ArePlaced fanout changes rooms old new → AreSame (cells_seen old) (cells_seen new)
placed_seen fanout [] [] old new placed = λ d. ap (λ (t : Option DbTree). occupied (cells_of t)) (placed d)
placed_seen fanout [] (r ∷ rooms) old new placed = absurd placed
placed_seen fanout (c ∷ changes) [] old new placed = absurd placed
placed_seen fanout (c ∷ changes) (r ∷ rooms) old new placed = λ d.
    placed_seen fanout changes rooms placed.0 new placed.2 d
    ∙ forest_same old placed.0 c.db (Some placed.1.next) placed.1.has (placed.1.placed.same ∙ sym (ap (λ (t : Option DbTree). occupied (cells_of t)) placed.1.was)) d

pub placed_trees : (fanout : ℕ) (changes : List TreeChange) (rooms : List SlotRoom) (old new : Forest) → ArePlaced fanout changes rooms old new → HasSameTrees old new
placed_trees fanout [] [] old new placed = λ d. ap (λ (t : Option DbTree). is_some t) (placed d)
placed_trees fanout [] (r ∷ rooms) old new placed = absurd placed
placed_trees fanout (c ∷ changes) [] old new placed = absurd placed
placed_trees fanout (c ∷ changes) (r ∷ rooms) old new placed = λ d.
    placed_trees fanout changes rooms placed.0 new placed.2 d
    ∙ forest_trees old placed.0 c.db (Some placed.1.next) placed.1.has (sym (ap (λ (t : Option DbTree). is_some t) placed.1.was)) d

kept_one : (fanout : ℕ) (c : TreeChange) (room : SlotRoom) (old new : Forest) → IsPlacedIn fanout c.db c.name room old new → KeepsCells old new
kept_one fanout c room old new p =
    forest_kept old new c.db (Some p.next) p.has (λ x there. p.placed.kept x (subst (λ (t : Option DbTree). IsSome (value_at x (cells_of t))) p.was there))

pub placed_kept : (fanout : ℕ) (changes : List TreeChange) (rooms : List SlotRoom) (old new : Forest) → ArePlaced fanout changes rooms old new → KeepsCells old new
placed_kept fanout [] [] old new placed = λ d x there. subst (λ (t : Option DbTree). IsSome (value_at x (cells_of t))) (sym (placed d)) there
placed_kept fanout [] (r ∷ rooms) old new placed = absurd placed
placed_kept fanout (c ∷ changes) [] old new placed = absurd placed
placed_kept fanout (c ∷ changes) (r ∷ rooms) old new placed = λ d x there. placed_kept fanout changes rooms placed.0 new placed.2 d x (kept_one fanout c r old placed.0 placed.1 d x there)

pub placed_there : (fanout : ℕ) (changes : List TreeChange) (rooms : List SlotRoom) (old new : Forest) → ArePlaced fanout changes rooms old new → AllByRecursion (λ c. HasOne new c.db c.name) changes
placed_there fanout [] [] old new placed = tt
placed_there fanout [] (r ∷ rooms) old new placed = absurd placed
placed_there fanout (c ∷ changes) [] old new placed = absurd placed
placed_there fanout (c ∷ changes) (r ∷ rooms) old new placed = (
  placed_kept fanout changes rooms placed.0 new placed.2 c.db c.name
      (subst (λ (t : Option DbTree). IsSome (value_at c.name (cells_of t))) (sym (replaced old placed.0 c.db (Some placed.1.next) placed.1.has)) placed.1.placed.there),
  placed_there fanout changes rooms placed.0 new placed.2,
)

pub placed_loggable : (fanout : ℕ) (changes : List TreeChange) (rooms : List SlotRoom) (old new : Forest) → ArePlaced fanout changes rooms old new → AreLoggable rooms
placed_loggable fanout [] [] old new placed = tt
placed_loggable fanout [] (r ∷ rooms) old new placed = absurd placed
placed_loggable fanout (c ∷ changes) [] old new placed = absurd placed
placed_loggable fanout (c ∷ changes) (r ∷ rooms) old new placed = (placed.1.placed.loggable, placed_loggable fanout changes rooms placed.0 new placed.2)

pub sizes_placed : (fanout : ℕ) (changes : List TreeChange) (rooms : List SlotRoom) (old new : Forest) → ArePlaced fanout changes rooms old new → placed_sizes changes rooms ≡ change_sizes fanout (shapes_of old) changes
sizes_placed fanout [] [] old new placed = refl
sizes_placed fanout [] (r ∷ rooms) old new placed = absurd placed
sizes_placed fanout (c ∷ changes) [] old new placed = absurd placed
sizes_placed fanout (c ∷ changes) (r ∷ rooms) old new placed =
    ap₂ (λ (a b : List ℕ). a ++ change_size c ∷ b) (placed.1.placed.sizes ∙ sym (ap (image_sizes fanout c.name) (was_shape fanout c r old placed.0 placed.1)))
    (sizes_placed fanout changes rooms placed.0 new placed.2 ∙ ap (λ (s : Shapes). change_sizes fanout s changes) (shapes_placed fanout c r old placed.0 placed.1))

pub numbers_placed : (fanout : ℕ) (changes : List TreeChange) (rooms : List SlotRoom) (old new : Forest) → ArePlaced fanout changes rooms old new → numbers_of changes rooms ≡ numbers_drawn fanout (shapes_of old) changes
numbers_placed fanout [] [] old new placed = refl
numbers_placed fanout [] (r ∷ rooms) old new placed = absurd placed
numbers_placed fanout (c ∷ changes) [] old new placed = absurd placed
numbers_placed fanout (c ∷ changes) (r ∷ rooms) old new placed =
    ap₂ (λ (a b : ℕ). a + one_made c.makes + b) (placed.1.placed.made ∙ sym (ap (nodes_made fanout c.name) (was_shape fanout c r old placed.0 placed.1)))
    (numbers_placed fanout changes rooms placed.0 new placed.2 ∙ ap (λ (s : Shapes). numbers_drawn fanout s changes) (shapes_placed fanout c r old placed.0 placed.1))

pub low_one : (fanout : ℕ) (c : TreeChange) (room : SlotRoom) (old new : Forest) → IsPlacedIn fanout c.db c.name room old new → passes_top fanout c.name (shapes_of old c.db) ≡ false
low_one fanout c room old new p = ap (passes_top fanout c.name) (was_shape fanout c room old new p) ∙ p.placed.low

pub low_placed : (fanout : ℕ) (changes : List TreeChange) (rooms : List SlotRoom) (old new : Forest) → ArePlaced fanout changes rooms old new → are_too_high fanout (shapes_of old) changes ≡ false
low_placed fanout [] [] old new placed = refl
low_placed fanout [] (r ∷ rooms) old new placed = absurd placed
low_placed fanout (c ∷ changes) [] old new placed = absurd placed
low_placed fanout (c ∷ changes) (r ∷ rooms) old new placed =
    ap₂ (λ (a b : Bool). a || b) (low_one fanout c r old placed.0 placed.1)
    (sym (ap (λ (s : Shapes). are_too_high fanout s changes) (shapes_placed fanout c r old placed.0 placed.1)) ∙ low_placed fanout changes rooms placed.0 new placed.2)

-- a root would pass the last level behind some changes
pub high_behind : (fanout : ℕ) (changes left : List TreeChange) (rooms : List SlotRoom) (c : TreeChange) (old mid : Forest) → ArePlaced fanout changes rooms old mid → passes_top fanout c.name (shapes_of mid c.db) ≡ true →
    are_too_high fanout (shapes_of old) (changes ++ c ∷ left) ≡ true
high_behind fanout [] left [] c old mid same high =
    ap (λ (t : Bool). t || are_too_high fanout (shapes_after fanout (shapes_of old) c) left) (sym (ap (passes_top fanout c.name) (shapes_same old mid c.db (same c.db))) ∙ high)
high_behind fanout [] left (r ∷ rooms) c old mid same high = absurd same
high_behind fanout (e ∷ changes) left [] c old mid same high = absurd same
high_behind fanout (e ∷ changes) left (r ∷ rooms) c old mid placed high =
    or_right (passes_top fanout e.name (shapes_of old e.db)) (are_too_high fanout (shapes_after fanout (shapes_of old) e) (changes ++ c ∷ left))
    (sym (ap (λ (s : Shapes). are_too_high fanout s (changes ++ c ∷ left)) (shapes_placed fanout e r old placed.0 placed.1)) ∙ high_behind fanout changes left rooms c placed.0 mid placed.2 high)
  where
    or_right : (a b : Bool) → b ≡ true → (a || b) ≡ true
    or_right true b h = refl
    or_right false b h = h

-- ---- how many images there are

pub few_one : (fanout : ℕ) (c : TreeChange) (room : SlotRoom) (old new : Forest) → IsPlacedIn fanout c.db c.name room old new → length room.images.items + waits_in new ≤ waits_in old + 129
few_one fanout c room old new p =
    let waits = forest_waits old new c.db (Some p.next) p.has p.within in
    let was : count_waiting (shapes_of old c.db) ≡ count_waiting (shape_in p.tree) = ap count_waiting (was_shape fanout c room old new p) in
    let law = images_few fanout c.name (shape_in p.tree) p.placed.low in
    let is : count_waiting (shape_in p.next) ≡ count_waiting (shape_with fanout c.name (shape_in p.tree)) = ap count_waiting p.placed.shape in
    let many : length room.images.items ≡ length (image_sizes fanout c.name (shape_in p.tree)) = sym (length_map room.images.items) ∙ ap (λ (l : List ℕ). length l) p.placed.sizes in
    omega (arith, waits, was, law, is, many)
  where
    length_map : (images : List NodeImage) → length (map (λ (i : NodeImage). size_of i.entry) images) ≡ length images
    length_map [] = refl
    length_map (i ∷ images) = let rest = length_map images in omega (arith, rest)

pub few_placed : (fanout : ℕ) (changes : List TreeChange) (rooms : List SlotRoom) (old new : Forest) → ArePlaced fanout changes rooms old new →
    count_images rooms + waits_in new ≤ waits_in old + 129 * length changes
few_placed fanout [] [] old new placed = let same = same_waits old new placed in omega (arith, same)
few_placed fanout [] (r ∷ rooms) old new placed = absurd placed
few_placed fanout (c ∷ changes) [] old new placed = absurd placed
few_placed fanout (c ∷ changes) (r ∷ rooms) old new placed =
    let one = few_one fanout c r old placed.0 placed.1 in
    let rest = few_placed fanout changes rooms placed.0 new placed.2 in
    omega (arith, one, rest)

-- ---- loops

-- one more that fits, at the end
fitted_more : (fanout last : ℕ) (changes : List TreeChange) (rooms : List SlotRoom) (c : TreeChange) (room : SlotRoom) (old mid new : Forest) → length changes ≡ length rooms → AreFitted fanout last changes rooms old mid →
    IsFittedIn fanout (first_behind (last + numbers_of changes rooms)) c.db c.name room mid new → AreFitted fanout last (changes ++ c ∷ []) (rooms ++ room ∷ []) old new
fitted_more fanout last [] [] c room old mid new even same p = (
  new,
  record {
    tree = p.tree;
    next = p.next;
    was = sym (same c.db) ∙ p.was;
    has = λ d. p.has d ∙ ap (λ (o : Option DbTree). cond (is_eq (nat_cmp c.db d)) (Some p.next) o) (same d);
    slot = subst (λ (n : ℕ). HasSlot fanout (first_behind n) c.db c.name room p.tree p.next) (omega arith) p.slot;
  },
  λ d. refl,
)
fitted_more fanout last [] (r ∷ rooms) c room old mid new even same p = absurd same
fitted_more fanout last (e ∷ changes) [] c room old mid new even same p = absurd same
fitted_more fanout last (e ∷ changes) (r ∷ rooms) c room old mid new even so_far p = (
  so_far.0,
  so_far.1,
  fitted_more fanout (last + (made_by r + one_made e.makes)) changes rooms c room so_far.0 mid new (omega (arith, even)) so_far.2
      (subst (λ (n : ℕ). IsFittedIn fanout (first_behind n) c.db c.name room mid new) (omega arith) p),
)

pub placed_same : (fanout : ℕ) (changes : List TreeChange) (rooms : List SlotRoom) (old mid new : Forest) → ArePlaced fanout changes rooms old mid → IsSameForest mid new → ArePlaced fanout changes rooms old new
placed_same fanout [] [] old mid new placed same = λ d. same d ∙ placed d
placed_same fanout [] (r ∷ rooms) old mid new placed same = absurd placed
placed_same fanout (c ∷ changes) [] old mid new placed same = absurd placed
placed_same fanout (c ∷ changes) (r ∷ rooms) old mid new placed same = (placed.0, placed.1, placed_same fanout changes rooms placed.0 mid new placed.2 same)

take_next : {X : Type 0} (xs : List X) (i : ℕ) (x : X) → i < length xs → x ≡ get_or xs i x → take (i + 1) xs ≡ take i xs ++ x ∷ []
take_next {X} xs i x within is = take_more xs i x within ∙ ap (λ (y : X). take i xs ++ y ∷ []) (sym is)

-- the last slot of some is taken back
pub back_step : (fanout : ℕ) (changes : List TreeChange) (rooms : List SlotRoom) (c : TreeChange) (room : SlotRoom) (before old new : Forest) (n k : ℕ) → n ≡ k + 1 → k < length changes → k < length rooms → c ≡ get_or changes k c → room ≡ get_or rooms k room →
    ((f : ℕ) (b : Forest) → IsPlacedIn f c.db c.name room b old → IsSameForest b new) → ArePlaced fanout (take n changes) (take n rooms) before old → ArePlaced fanout (take k changes) (take k rooms) before new
back_step fanout changes rooms c room before old new n k is in_changes in_rooms c_is room_is back placed =
    let lengths : length (take k changes) ≡ length (take k rooms) = length-take-le k changes (omega arith) ∙ sym (length-take-le k rooms (omega arith)) in
    let last = placed_last fanout (take k changes) (take k rooms) c room before old lengths
    (subst (λ (cs : List TreeChange). ArePlaced fanout cs (take k rooms ++ room ∷ []) before old) (ap (λ (m : ℕ). take m changes) is ∙ take_next changes k c in_changes c_is)
    (subst (λ (rs : List SlotRoom). ArePlaced fanout (take n changes) rs before old) (ap (λ (m : ℕ). take m rooms) is ∙ take_next rooms k room in_rooms room_is) placed)) in
    placed_same fanout (take k changes) (take k rooms) before last.0 new last.1 (back fanout last.0 last.2)

pub back_begin : (fanout : ℕ) (changes : List TreeChange) (rooms : List SlotRoom) (before old : Forest) → ArePlaced fanout (take (length rooms) changes) rooms before old →
    ArePlaced fanout (take (length rooms - 0) changes) (take (length rooms - 0) rooms) before old
back_begin fanout changes rooms before old placed =
    let same : length rooms - 0 ≡ length rooms = omega arith in
    subst (λ (m : ℕ). ArePlaced fanout (take m changes) (take m rooms) before old) (sym same)
    (subst (λ (rs : List SlotRoom). ArePlaced fanout (take (length rooms) changes) rs before old) (sym (take_all (length rooms) rooms (omega arith))) placed)

pub back_end : (fanout : ℕ) (changes : List TreeChange) (rooms : List SlotRoom) (before old : Forest) (n : ℕ) → n ≡ 0 → ArePlaced fanout (take n changes) (take n rooms) before old → IsSameForest before old
back_end fanout changes rooms before old n none placed = none_placed changes rooms (subst (λ (m : ℕ). ArePlaced fanout (take m changes) (take m rooms) before old) none placed)
  where
    none_placed : (cs : List TreeChange) (rs : List SlotRoom) → ArePlaced fanout (take 0 cs) (take 0 rs) before old → IsSameForest before old
    none_placed [] [] h = h
    none_placed [] (r ∷ rs) h = h
    none_placed (c ∷ cs) [] h = h
    none_placed (c ∷ cs) (r ∷ rs) h = h

-- some changes have their slots, and those that are left have their trees
pub record PlacesLeft (fanout last : ℕ) (old new : Forest) (done todo : List TreeChange) (slots : Placed) : Type 0 where
  pub placed : ArePlaced fanout done slots.rooms.items old new
  pub fitted : AreFitted fanout last done slots.rooms.items old new
  pub numbers : slots.last ≡ min (last + numbers_of done slots.rooms.items) 0xffffffffffffffff
  pub left : AllByRecursion (λ c. is_there old c.db ≡ true) todo

pub places_begin : (fanout last : ℕ) (old : Forest) (changes : List TreeChange) (placed : Placed) → placed.rooms.items ≡ [] → placed.last ≡ last → last < 2 ^ 64 → AllByRecursion (λ c. is_there old c.db ≡ true) changes →
    PlacesLeft fanout last old old [] changes placed
places_begin fanout last old changes placed none is bound all = record {
  placed = subst (λ (rs : List SlotRoom). ArePlaced fanout [] rs old old) (sym none) (λ d. refl);
  fitted = subst (λ (rs : List SlotRoom). AreFitted fanout last [] rs old old) (sym none) (λ d. refl);
  numbers = (let empty : numbers_of [] placed.rooms.items ≡ 0 = refl in omega (arith, is, bound, empty));
  left = all;
}

pub places_step : (fanout last : ℕ) (old mid new : Forest) (changes : List TreeChange) (i : ℕ) (c : TreeChange) (before after : Placed) → i < length changes → c ≡ get_or changes i c →
    PlacesLeft fanout last old mid (take i changes) (drop i changes) before → IsPlacedNext fanout c mid new before after → PlacesLeft fanout last old new (take (i + 1) changes) (drop (i + 1) changes) after
places_step fanout last old mid new changes i c before after within is so_far next = record {
  placed =
      subst (λ (cs : List TreeChange). ArePlaced fanout cs after.rooms.items old new) (sym (take_next changes i c within is))
      (subst (λ (rs : List SlotRoom). ArePlaced fanout (take i changes ++ c ∷ []) rs old new) (sym next.rooms) (placed_more fanout (take i changes) before.rooms.items c next.room old mid new so_far.placed next.placed));
  fitted =
      subst (λ (cs : List TreeChange). AreFitted fanout last cs after.rooms.items old new) (sym (take_next changes i c within is))
      (subst (λ (rs : List SlotRoom). AreFitted fanout last (take i changes ++ c ∷ []) rs old new) (sym next.rooms)
      (fitted_more fanout last (take i changes) before.rooms.items c next.room old mid new (sym (placed_even fanout (take i changes) before.rooms.items old mid so_far.placed)) so_far.fitted
      (subst (λ (n : ℕ). IsFittedIn fanout n c.db c.name next.room mid new) (firsts before.last (numbers_of (take i changes) before.rooms.items) so_far.numbers) next.fitted)));
  numbers = (let more : numbers_of (take (i + 1) changes) after.rooms.items ≡ numbers_of (take i changes) before.rooms.items + (made_by next.room + one_made c.makes) =
      ap₂ (λ (cs : List TreeChange) (rs : List SlotRoom). numbers_of cs rs) (take_next changes i c within is) next.rooms
      ∙ numbers_more (take i changes) before.rooms.items c next.room (sym (placed_even fanout (take i changes) before.rooms.items old mid so_far.placed)) in
      sums after.last before.last (numbers_of (take i changes) before.rooms.items) (made_by next.room + one_made c.makes) (numbers_of (take (i + 1) changes) after.rooms.items) next.last so_far.numbers more);
  left = rest_all (subst (λ (cs : List TreeChange). AllByRecursion (λ c. is_there old c.db ≡ true) cs) (next_left changes i c within is) so_far.left);
}
  where
    firsts : (b n : ℕ) → b ≡ min (last + n) 0xffffffffffffffff → first_behind b ≡ first_behind (last + n)
    firsts b n is = omega (arith, is)

    sums : (a b n k m : ℕ) → a ≡ min (b + k) 0xffffffffffffffff → b ≡ min (last + n) 0xffffffffffffffff → m ≡ n + k → a ≡ min (last + m) 0xffffffffffffffff
    sums a b n k m first second third = omega (arith, first, second, third)

    rest_all : AllByRecursion (λ c. is_there old c.db ≡ true) (c ∷ drop (i + 1) changes) → AllByRecursion (λ c. is_there old c.db ≡ true) (drop (i + 1) changes)
    rest_all all = all.1

-- the next change has its tree
pub places_there : (fanout last : ℕ) (old mid : Forest) (changes : List TreeChange) (i : ℕ) (c : TreeChange) (placed : Placed) → i < length changes → c ≡ get_or changes i c →
    PlacesLeft fanout last old mid (take i changes) (drop i changes) placed → is_there mid c.db ≡ true
places_there fanout last old mid changes i c placed within is so_far =
    placed_trees fanout (take i changes) placed.rooms.items old mid so_far.placed c.db
    ∙ head_all (subst (λ (cs : List TreeChange). AllByRecursion (λ c. is_there old c.db ≡ true) cs) (next_left changes i c within is) so_far.left)
  where
    head_all : AllByRecursion (λ c. is_there old c.db ≡ true) (c ∷ drop (i + 1) changes) → is_there old c.db ≡ true
    head_all all = all.0

pub places_few : (fanout last : ℕ) (old mid : Forest) (changes : List TreeChange) (i : ℕ) (placed : Placed) → i < length changes → PlacesLeft fanout last old mid (take i changes) (drop i changes) placed → length placed.rooms.items ≡ i
places_few fanout last old mid changes i placed within so_far = placed_even fanout (take i changes) placed.rooms.items old mid so_far.placed ∙ length-take-le i changes (omega arith)

-- a change that failed: what was placed before it is there to be taken back
pub places_fail : (fanout last : ℕ) (old mid new : Forest) (changes : List TreeChange) (i : ℕ) (placed after : Placed) → i < length changes → PlacesLeft fanout last old mid (take i changes) (drop i changes) placed → IsSameForest mid new →
    after.rooms.items ≡ placed.rooms.items → ArePlaced fanout (take (length after.rooms.items) changes) after.rooms.items old new
places_fail fanout last old mid new changes i placed after within so_far same rooms =
    let few : length after.rooms.items ≡ i = ap (λ (l : List SlotRoom). length l) rooms ∙ places_few fanout last old mid changes i placed within so_far in
    subst (λ (n : ℕ). ArePlaced fanout (take n changes) after.rooms.items old new) (sym few)
    (subst (λ (rs : List SlotRoom). ArePlaced fanout (take i changes) rs old new) (sym rooms) (placed_same fanout (take i changes) placed.rooms.items old mid new so_far.placed same))

pub places_high : (fanout last : ℕ) (old mid : Forest) (changes : List TreeChange) (i : ℕ) (c : TreeChange) (placed : Placed) → i < length changes → c ≡ get_or changes i c → PlacesLeft fanout last old mid (take i changes) (drop i changes) placed →
    passes_top fanout c.name (shapes_of mid c.db) ≡ true → are_too_high fanout (shapes_of old) changes ≡ true
places_high fanout last old mid changes i c placed within is so_far high =
    subst (λ (cs : List TreeChange). are_too_high fanout (shapes_of old) cs ≡ true) (ap (λ (l : List TreeChange). take i changes ++ l) (sym (next_left changes i c within is)) ∙ take-append-drop i changes)
    (high_behind fanout (take i changes) (drop (i + 1) changes) placed.rooms.items c old mid so_far.placed high)

pub places_end : (fanout last : ℕ) (old new : Forest) (changes : List TreeChange) (i : ℕ) (placed : Placed) → length changes ≤ i → PlacesLeft fanout last old new (take i changes) (drop i changes) placed → PlacesLeft fanout last old new changes [] placed
places_end fanout last old new changes i placed all so_far =
    subst (λ (cs : List TreeChange). PlacesLeft fanout last old new cs [] placed) (take_all i changes all)
    (subst (λ (cs : List TreeChange). PlacesLeft fanout last old new (take i changes) cs placed) (drop_all i changes all) so_far)

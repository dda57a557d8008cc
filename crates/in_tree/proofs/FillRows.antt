-- A new database's tree is filled: images and changes take their places one after the other.
use Rattle.std.proofs.Common.{◌≡◌, ◌≤◌, ◌<◌, ◌+◌, ◌^◌, ◌==◌, ◌&&◌, ◌||◌, ◌++◌, ◌∙◌, ℕ, min, map, length, drop, get_or, Bool, true, false, cond, List, [], ◌∷◌, Option, Vec, refl, ap, ap₂, sym, subst, arith, is_eq}
use Rattle.std.specs.Global.{Global}
use Rattle.std.specs.List.{AllByRecursion}
use Rattle.std.proofs.lemmas.List.{append_assoc, append-nil, drop_all, map-append}
use Rattle.std.proofs.Math.Nat.{le_refl}
use Rattle.je_order.specs.Order.{name_cmp}
use Rattle.je_order.specs.declared.name.Name.{Name}
use Rattle.je_order.specs.declared.txn_id.TxnId.{TxnId}
use Rattle.log_entry.specs.Encoding.{size_of}
use Rattle.log_entry.specs.declared.entry.Entry.{Entry}
use Rattle.log_replay.proofs.ListLaws.{all_parts}
use Rattle.log_buffer.specs.declared.log_pos.LogPos.{LogPos}
use Rattle.log_buffer.specs.declared.next_place.NextPlace.{NextPlace}
use Rattle.log_buffer.specs.NextPlaces.{IsBehind}
use Rattle.record_map.specs.declared.cell.Cell.{Cell}
use Rattle.record_map.specs.Cells.{value_at, IsRising}
use Rattle.record_tree.specs.declared.tree_change.TreeChange.{TreeChange}
use Rattle.record_tree.specs.Logged.{entry_for}
use Rattle.record_tree.specs.Occupied.{AllCells, AreWritten, Occupied}
use Rattle.tree_nodes.specs.Nodes.{NodeRow}
use Rattle.tree_nodes.specs.Lows.{lows_of}
use Rattle.db_tree.specs.declared.node_image.NodeImage.{NodeImage}
use Rattle.db_tree.specs.declared.tree.DbTree.{DbTree}
use Rattle.db_tree.specs.NodeImages.{sizes_in, IsLoggable}
use Rattle.db_tree.specs.Seen.{occupied, with_change}
use Rattle.db_tree.specs.Shapes.{count_in, made_by, new_shape, shape_in}
use Rattle.db_tree.specs.Splits.{Shape, count_waiting, image_sizes, nodes_made, passes_top, shape_with}
use Rattle.db_tree.specs.Waiting.{waiting_of}
use Rattle.db_tree.proofs.Ending.{next_left}
use Rattle.db_tree.proofs.Seen.{none_rise}
use Rattle.tree_images.specs.TreeSteps.{HasSlot, IsNewTree}
use Rattle.tree_images.proofs.ForestWrites.{new_fits, new_logged}
use Rattle.tree_images.proofs.NotedRoots.{notes_one_node}
use Rattle.tree_images.specs.Notes.{may_stay}
use Rattle.in_tree.specs.declared.filled.Filled.{Filled}
use Rattle.in_tree.specs.Filled.{entries_with, with_cells, AreAllLoggable, AreImagesTaken, FitsAhead, IsFilled, IsImageTaken, IsRowFilled}
use Rattle.in_tree.specs.Filling.{is_filled_too_high, numbers_filled, sizes_filled}
use Rattle.in_tree.specs.Forest.{HasChange}
use Rattle.in_tree.specs.Limits.{change_size}
use Rattle.in_tree.specs.Placing.{first_behind}
use Rattle.in_tree.proofs.FillAhead.{image_ahead, slot_ahead}
use Rattle.in_tree.proofs.FillShapes.{AreSimilar, quiet_with, similar_made, similar_sizes, similar_top, similar_with, similar_written, still_none}
use Rattle.in_tree.proofs.Written.{size_is, written_step}

-- ---- images

shape_eq : (a b : Shape) → a.cells ≡ b.cells → a.lows ≡ b.lows → a.waiting ≡ b.waiting → a ≡ b
shape_eq a b cells lows waiting =
    ap₂ (λ (c : List (Name × Cell)) (l : List (List Name)). record { cells = c; lows = l; waiting = a.waiting }) cells lows
    ∙ ap (λ (w : List (List Name)). record { cells = b.cells; lows = b.lows; waiting = w }) waiting

-- some images took their places, and others are left
pub record ImagesLeft (images left : List NodeImage) (old new : DbTree) (before after : NextPlace) (entries : List Entry) : Type 0 where
  pub to_log : AllByRecursion (λ (i : NodeImage). IsLoggable i.entry) left
  pub loggable : AllByRecursion IsLoggable entries
  pub sizes : map size_of entries ++ sizes_in left ≡ sizes_in images
  pub cells : new.cells ≡ old.cells
  pub shape : count_in old ≡ 0 → shape_in new ≡ shape_in old
  pub next : (m : ℕ) (end : LogPos) (sizes : List ℕ) → IsBehind m end sizes before → IsBehind m end (sizes ++ map size_of entries) after
  pub fits : (m : ℕ) (end : LogPos) (d number last : ℕ) (front : List Entry) (rest : List NodeImage) → IsBehind m end (map size_of front) before →
      FitsAhead m end d number last front old (images ++ rest) → FitsAhead m end d number last (front ++ entries) new (left ++ rest)

pub images_start : (images left : List NodeImage) (tree : DbTree) (place : NextPlace) (entries : List Entry) → left ≡ images → entries ≡ [] → AllByRecursion (λ (i : NodeImage). IsLoggable i.entry) images → ImagesLeft images left tree tree place place entries
images_start images left tree place entries is none loggable =
    subst (λ (l : List NodeImage). ImagesLeft images l tree tree place place entries) (sym is)
    (subst (λ (es : List Entry). ImagesLeft images images tree tree place place es) (sym none) (record {
      to_log = loggable;
      loggable = tt;
      sizes = refl;
      cells = refl;
      shape = λ quiet. refl;
      next = λ m end sizes b. subst (λ (l : List ℕ). IsBehind m end l place) (sym (append-nil sizes)) b;
      fits = λ m end d number last front rest b f. subst (λ (l : List Entry). FitsAhead m end d number last l tree (images ++ rest)) (sym (append-nil front)) f;
    }))

add_more : {X : Type 0} (P : X → Type 0) (xs : List X) (x : X) → AllByRecursion P xs → P x → AllByRecursion P (xs ++ x ∷ [])
add_more P [] x h one = (one, tt)
add_more P (y ∷ xs) x h one = (h.0, add_more P xs x h.1 one)

pub images_step : (images left : List NodeImage) (image : NodeImage) (old mid new : DbTree) (before between after : NextPlace) (entries : List Entry) (e : Entry) → ImagesLeft images (image ∷ left) old mid before between entries →
    IsImageTaken image mid new between after e → ImagesLeft images left old new before after (entries ++ e ∷ [])
images_step images left image old mid new before between after entries e so_far t = record {
  to_log = so_far.to_log.1;
  loggable = add_more IsLoggable entries e so_far.loggable t.loggable;
  sizes = ap (λ (l : List ℕ). l ++ sizes_in left) mapped ∙ append_assoc (map size_of entries) (size_of e ∷ []) (sizes_in left)
      ∙ ap (λ (n : ℕ). map size_of entries ++ n ∷ sizes_in left) t.size ∙ so_far.sizes;
  cells = t.noted.cells ∙ so_far.cells;
  shape = λ quiet. same (so_far.shape quiet) (ap count_waiting (so_far.shape quiet) ∙ quiet) ∙ so_far.shape quiet;
  next = λ m end sizes b. subst (λ (l : List ℕ). IsBehind m end l after) (append_assoc sizes (map size_of entries) (size_of e ∷ []) ∙ ap (λ (l : List ℕ). sizes ++ l) (sym mapped))
      (t.taken m end (sizes ++ map size_of entries) (so_far.next m end sizes b)).1;
  fits = λ m end d number last front rest b f. subst (λ (l : List Entry). FitsAhead m end d number last l new (left ++ rest)) (append_assoc front entries (e ∷ []))
      (image_ahead m end d number last (front ++ entries) image (left ++ rest) mid new between after e t
      (subst (λ (l : List ℕ). IsBehind m end l between) (sym (map-append size_of front entries)) (so_far.next m end (map size_of front) b)) (so_far.fits m end d number last front rest b f));
}
  where
    mapped : map size_of (entries ++ e ∷ []) ≡ map size_of entries ++ size_of e ∷ []
    mapped = map-append size_of entries (e ∷ [])

    same : shape_in mid ≡ shape_in old → count_in mid ≡ 0 → shape_in new ≡ shape_in mid
    same is quiet = shape_eq (shape_in new) (shape_in mid) t.noted.cells t.lows (t.waits ∙ still_none (record { level = image.level; low = image.low } ∷ []) 0 (waiting_of mid.levels) quiet)

none_left : {X : Type 0} (xs : List X) → length xs ≡ 0 → xs ≡ []
none_left [] h = refl
none_left (x ∷ xs) h = absurd (omega (arith, h))

pub images_end : (images left : List NodeImage) (old new : DbTree) (before after : NextPlace) (entries : List Entry) → length left ≡ 0 → ImagesLeft images left old new before after entries → AreImagesTaken images old new before after entries
images_end images left old new before after entries none so_far =
    let done : ImagesLeft images [] old new before after entries = subst (λ (l : List NodeImage). ImagesLeft images l old new before after entries) (none_left left none) so_far in
    record {
      loggable = done.loggable;
      sizes = sym (append-nil (map size_of entries)) ∙ done.sizes;
      cells = done.cells;
      shape = done.shape;
      next = done.next;
      fits = λ m end d number last front rest b f. done.fits m end d number last front rest b f;
    }

-- ---- the entries of changes

pub entries_more : (txn : TxnId) (rows : List TreeChange) (images : List (Vec Entry Global)) (c : TreeChange) (own : Vec Entry Global) → length images ≡ length rows →
    entries_with txn (rows ++ c ∷ []) (images ++ own ∷ []) ≡ entries_with txn rows images ++ (own.items ++ entry_for txn c.db c.name c.value ∷ [])
entries_more txn [] [] c own even = refl
entries_more txn [] (i ∷ images) c own even = absurd (omega (arith, even))
entries_more txn (r ∷ rows) [] c own even = absurd (omega (arith, even))
entries_more txn (r ∷ rows) (i ∷ images) c own even =
    ap (λ (l : List Entry). i.items ++ entry_for txn r.db r.name r.value ∷ l) (entries_more txn rows images c own (omega (arith, even)))
    ∙ sym (append_assoc i.items (entry_for txn r.db r.name r.value ∷ entries_with txn rows images) (own.items ++ entry_for txn c.db c.name c.value ∷ []))

-- ---- changes

abbrev AreOf : ℕ → List TreeChange → Type 0
AreOf d rows = AllByRecursion (λ (r : TreeChange). r.db ≡ d) rows

-- some changes are in the tree, and others are left; `start` was the next place before them
pub record RowsLeft (fanout : ℕ) (txn : TxnId) (number : ℕ) (rows left : List TreeChange) (filled : Filled) (start place : NextPlace) : Type 0 where
  pub exact : ℕ
  pub last_is : filled.last ≡ min exact 0xffffffffffffffff
  pub above : number ≤ exact
  pub shape : Shape
  pub similar : AreSimilar (shape_in filled.tree) shape
  pub quiet : count_in filled.tree ≡ 0
  pub numbers : exact + numbers_filled fanout shape left ≡ number + numbers_filled fanout new_shape rows
  pub high : is_filled_too_high fanout new_shape rows ≡ is_filled_too_high fanout shape left
  pub done : List TreeChange
  pub all : done ++ left ≡ rows
  pub paired : length filled.images.items ≡ length done
  pub loggable : AreAllLoggable filled.images.items
  pub sizes : map size_of (entries_with txn done filled.images.items) ++ sizes_filled fanout shape left ≡ sizes_filled fanout new_shape rows
  pub rising : IsRising (occupied filled.tree.cells)
  pub written : (d : ℕ) (others later : AllCells) → AreOf d rows → AreWritten txn left (with_cells d (occupied filled.tree.cells) others) later → AreWritten txn rows (with_cells d [] others) later
  pub next : (m : ℕ) (end : LogPos) → IsBehind m end [] start → IsBehind m end (map size_of (entries_with txn done filled.images.items)) place
  pub fits : (m : ℕ) (end : LogPos) (d : ℕ) → AreOf d rows → IsBehind m end [] start → FitsAhead m end d number exact (entries_with txn done filled.images.items) filled.tree []

pub rows_start : (fanout : ℕ) (txn : TxnId) (number : ℕ) (rows : List TreeChange) (filled : Filled) (place : NextPlace) → number < 2 ^ 64 → filled.last ≡ number → filled.images.items ≡ [] → IsNewTree number filled.tree → shape_in filled.tree ≡ new_shape →
    RowsLeft fanout txn number rows rows filled place place
rows_start fanout txn number rows filled place within last none is_new shape = record {
  exact = number;
  last_is = omega (arith, within, last);
  above = le_refl number;
  shape = new_shape;
  similar = subst (λ (s : Shape). AreSimilar s new_shape) (sym shape) (record { keys = refl; lows = refl; waiting = refl; unset = tt; unset_too = tt });
  quiet = ap count_waiting shape;
  numbers = refl;
  high = refl;
  done = [];
  all = refl;
  paired = ap (λ (l : List (Vec Entry Global)). length l) none;
  loggable = subst AreAllLoggable (sym none) tt;
  sizes = refl;
  rising = subst (λ (l : List (Name × Cell)). IsRising (occupied l)) (sym is_new.cells) none_rise;
  written = λ d others later of w. subst (λ (l : List (Name × Cell)). AreWritten txn rows (with_cells d (occupied l) others) later) is_new.cells w;
  next = λ m end b. b;
  fits = λ m end d of b es base home own small follow. (
    home,
    λ n low. refl,
    subst (λ (l : _). Rattle.in_tree.specs.Growing.IsFitDue home number d filled.tree [] l base) (sym (append-nil es))
        (new_fits es base home number d number filled.tree is_new (le_refl number, own), λ s begun. notes_one_node (may_stay es base s [] filled.tree.levels) filled.tree.levels number is_new.root),
    subst (λ (l : _). Rattle.tree_images.specs.Forest.AreLogged l base d filled.tree.cells) (sym (append-nil es)) (new_logged es base d number filled.tree is_new),
  );
}

length_one : {X : Type 0} (xs : List X) (x : X) → length (xs ++ x ∷ []) ≡ length xs + 1
length_one [] x = refl
length_one (y ∷ xs) x = let rest = length_one xs x in omega (arith, rest)

-- one name of one database changed
changed_one : (d db : ℕ) (x : Name) (others : AllCells) (old new : List (Name × Occupied)) (change : Option Occupied → Option Occupied) → db ≡ d →
    ((y : Name) → value_at y new ≡ cond (is_eq (name_cmp x y)) (change (value_at y old)) (value_at y old)) → HasChange (with_cells d old others) (with_cells d new others) db x change
changed_one d db x others old new change is has e y =
    by_test (e == d) (has y) ∙ ap (λ (t : Bool). cond (t && is_eq (name_cmp x y)) (change (value_at y (with_cells d old others e))) (value_at y (with_cells d old others e))) (ap (λ (n : ℕ). e == n) (sym is))
  where
    by_test : (t : Bool) → value_at y new ≡ cond (is_eq (name_cmp x y)) (change (value_at y old)) (value_at y old) →
        value_at y (cond t new (others e)) ≡ cond (t && is_eq (name_cmp x y)) (change (value_at y (cond t old (others e)))) (value_at y (cond t old (others e)))
    by_test true h = h
    by_test false h = refl

pub rows_step : (fanout : ℕ) (txn : TxnId) (number : ℕ) (rows left : List TreeChange) (c : TreeChange) (old new : Filled) (start before after : NextPlace) → RowsLeft fanout txn number rows (c ∷ left) old start before →
    IsRowFilled fanout txn c old new before after → RowsLeft fanout txn number rows left new start after
rows_step fanout txn number rows left c old new start before after so_far r = record {
  exact = so_far.exact + made_by r.room;
  last_is = (let was = so_far.last_is in let is = r.last in omega (arith, was, is));
  above = (let was = so_far.above in omega (arith, was));
  shape = shape_with fanout c.name so_far.shape;
  similar = subst (λ (l : List NodeRow). AreSimilar (record { cells = new.tree.cells; lows = lows_of l; waiting = waiting_of l }) (shape_with fanout c.name so_far.shape)) (sym r.change.step.levels)
      (similar_written c.name r.change.step.cell r.change.write (shape_in r.mid) (shape_with fanout c.name so_far.shape) new.tree.cells r.change.step.there r.change.step.list
      (subst (λ (s : Shape). AreSimilar s (shape_with fanout c.name so_far.shape)) (sym mid_shape) (similar_with fanout c.name (shape_in old.tree) so_far.shape so_far.similar)));
  quiet = ap (λ (l : List NodeRow). Rattle.db_tree.specs.Waiting.count_lows (waiting_of l)) r.change.step.levels ∙ ap count_waiting mid_shape ∙ quiet_with fanout c.name (shape_in old.tree) so_far.quiet;
  numbers = (let was = so_far.numbers in let is = made_is in omega (arith, was, is));
  high = so_far.high ∙ ap (λ (t : Bool). t || is_filled_too_high fanout (shape_with fanout c.name so_far.shape) left) (sym (similar_top fanout c.name (shape_in old.tree) so_far.shape so_far.similar) ∙ r.slot.placed.low);
  done = so_far.done ++ c ∷ [];
  all = append_assoc so_far.done (c ∷ []) left ∙ so_far.all;
  paired = ap (λ (l : List (Vec Entry Global)). length l) r.images ∙ length_one old.images.items r.own ∙ ap (λ (n : ℕ). n + 1) so_far.paired ∙ sym (length_one so_far.done c);
  loggable = subst AreAllLoggable (sym r.images) (add_more (λ (own : Vec Entry Global). AllByRecursion IsLoggable own.items) old.images.items r.own so_far.loggable r.taken.loggable);
  sizes = ap (λ (l : List ℕ). l ++ sizes_filled fanout (shape_with fanout c.name so_far.shape) left) sizes_are
      ∙ append_assoc (map size_of front) (image_sizes fanout c.name so_far.shape ++ change_size c ∷ []) (sizes_filled fanout (shape_with fanout c.name so_far.shape) left)
      ∙ ap (λ (l : List ℕ). map size_of front ++ l) (append_assoc (image_sizes fanout c.name so_far.shape) (change_size c ∷ []) (sizes_filled fanout (shape_with fanout c.name so_far.shape) left))
      ∙ so_far.sizes;
  rising = r.change.rising;
  written = λ d others later of w. so_far.written d others later of
      (written_step txn c left (with_cells d (occupied old.tree.cells) others) (with_cells d (occupied new.tree.cells) others) later r.change.at
      (changed_one d c.db c.name others (occupied old.tree.cells) (occupied new.tree.cells) (with_change (record { txn = txn; at = r.change.at; value = c.value })) (own_db d of) seen) w);
  next = λ m end b. subst (λ (l : List ℕ). IsBehind m end l after) (sym whole) (r.change.next m end (map size_of front ++ map size_of r.own.items) (r.taken.next m end (map size_of front) (so_far.next m end b)));
  fits = λ m end d of b.
      let place = so_far.next m end b in
      let slot = slot_ahead m end fanout d number so_far.exact old.last front c.name r.room old.tree r.placed (subst (λ (n : ℕ). HasSlot fanout (first_behind old.last) n c.name r.room old.tree r.placed) (own_db d of) r.slot) so_far.last_is so_far.above
      (so_far.fits m end d of b) in
      let imaged = r.taken.fits m end d number (so_far.exact + made_by r.room) front [] place (subst (λ (l : List NodeImage). FitsAhead m end d number (so_far.exact + made_by r.room) front r.placed l) (sym (append-nil r.room.images.items)) slot) in
      subst (λ (l : List Entry). FitsAhead m end d number (so_far.exact + made_by r.room) l new.tree []) (append_assoc front r.own.items (entry ∷ []) ∙ sym entries_are)
      (r.change.fits m end d number (so_far.exact + made_by r.room) (front ++ r.own.items) (own_db d of)
      (subst (λ (l : List ℕ). IsBehind m end l r.between) (sym (map-append size_of front r.own.items)) (r.taken.next m end (map size_of front) place)) imaged);
}
  where
    front : List Entry
    front = entries_with txn so_far.done old.images.items

    entry : Entry
    entry = entry_for txn c.db c.name c.value

    placed_quiet : count_in r.placed ≡ 0
    placed_quiet = ap count_waiting r.slot.placed.shape ∙ quiet_with fanout c.name (shape_in old.tree) so_far.quiet

    mid_shape : shape_in r.mid ≡ shape_with fanout c.name (shape_in old.tree)
    mid_shape = r.taken.shape placed_quiet ∙ r.slot.placed.shape

    made_is : made_by r.room ≡ nodes_made fanout c.name so_far.shape
    made_is = r.slot.placed.made ∙ similar_made fanout c.name (shape_in old.tree) so_far.shape so_far.similar

    entries_are : entries_with txn (so_far.done ++ c ∷ []) new.images.items ≡ front ++ (r.own.items ++ entry ∷ [])
    entries_are = ap (entries_with txn (so_far.done ++ c ∷ [])) r.images ∙ entries_more txn so_far.done old.images.items c r.own so_far.paired

    -- the sizes of the entries, those of the images apart
    whole : map size_of (entries_with txn (so_far.done ++ c ∷ []) new.images.items) ≡ (map size_of front ++ map size_of r.own.items) ++ change_size c ∷ []
    whole =
        ap (λ (l : List Entry). map size_of l) entries_are
        ∙ map-append size_of front (r.own.items ++ entry ∷ [])
        ∙ ap (λ (l : List ℕ). map size_of front ++ l) (map-append size_of r.own.items (entry ∷ []) ∙ ap (λ (n : ℕ). map size_of r.own.items ++ n ∷ []) (size_is txn c))
        ∙ sym (append_assoc (map size_of front) (map size_of r.own.items) (change_size c ∷ []))

    sizes_are : map size_of (entries_with txn (so_far.done ++ c ∷ []) new.images.items) ≡ map size_of front ++ (image_sizes fanout c.name so_far.shape ++ change_size c ∷ [])
    sizes_are =
        whole
        ∙ append_assoc (map size_of front) (map size_of r.own.items) (change_size c ∷ [])
        ∙ ap (λ (l : List ℕ). map size_of front ++ (l ++ change_size c ∷ [])) (r.taken.sizes ∙ r.slot.placed.sizes ∙ similar_sizes fanout c.name (shape_in old.tree) so_far.shape so_far.similar)

    own_db : (d : ℕ) → AreOf d rows → c.db ≡ d
    own_db d of = (all_parts (λ (t : TreeChange). t.db ≡ d) so_far.done (c ∷ left) (subst (AreOf d) (sym so_far.all) of)).1.0

    seen_mid : occupied r.mid.cells ≡ occupied old.tree.cells
    seen_mid = ap occupied r.taken.cells ∙ r.slot.placed.same

    seen : (y : Name) → value_at y (occupied new.tree.cells) ≡ cond (is_eq (name_cmp c.name y)) (with_change (record { txn = txn; at = r.change.at; value = c.value }) (value_at y (occupied old.tree.cells))) (value_at y (occupied old.tree.cells))
    seen y =
        r.change.seen y
        ∙ ap (λ (w : Rattle.record_map.specs.declared.write.Write.Write). cond (is_eq (name_cmp c.name y)) (with_change w (value_at y (occupied r.mid.cells))) (value_at y (occupied r.mid.cells))) r.change.write_is
        ∙ ap (λ (l : List (Name × Occupied)). cond (is_eq (name_cmp c.name y)) (with_change (record { txn = txn; at = r.change.at; value = c.value }) (value_at y l)) (value_at y l)) seen_mid

pub rows_turn : (fanout : ℕ) (txn : TxnId) (number : ℕ) (rows : List TreeChange) (i : ℕ) (c : TreeChange) (filled : Filled) (start place : NextPlace) → i < length rows → c ≡ get_or rows i c → RowsLeft fanout txn number rows (drop i rows) filled start place →
    RowsLeft fanout txn number rows (c ∷ drop (i + 1) rows) filled start place
rows_turn fanout txn number rows i c filled start place low is so_far = subst (λ (l : List TreeChange). RowsLeft fanout txn number rows l filled start place) (next_left rows i c low is) so_far

-- a name that passes the last level
pub rows_high : (fanout : ℕ) (txn : TxnId) (number : ℕ) (rows left : List TreeChange) (c : TreeChange) (filled : Filled) (start place : NextPlace) → RowsLeft fanout txn number rows (c ∷ left) filled start place →
    passes_top fanout c.name (shape_in filled.tree) ≡ true → is_filled_too_high fanout new_shape rows ≡ true
rows_high fanout txn number rows left c filled start place so_far high =
    so_far.high ∙ ap (λ (t : Bool). t || is_filled_too_high fanout (shape_with fanout c.name so_far.shape) left) (sym (similar_top fanout c.name (shape_in filled.tree) so_far.shape so_far.similar) ∙ high)

pub rows_end : (fanout : ℕ) (txn : TxnId) (number : ℕ) (rows : List TreeChange) (i : ℕ) (filled : Filled) (start place : NextPlace) → length rows ≤ i → RowsLeft fanout txn number rows (drop i rows) filled start place →
    (m : ℕ) (end : LogPos) → IsBehind m end [] start → IsFilled fanout m end txn number rows filled
rows_end fanout txn number rows i filled start place low so_far m end b = record {
  exact = last.exact;
  last_is = last.last_is;
  numbers = (let is = last.numbers in omega (arith, is));
  low = last.high;
  paired = last.paired ∙ ap (λ (l : List TreeChange). length l) done_is;
  loggable = last.loggable;
  sizes = ap (λ (l : List TreeChange). map size_of (entries_with txn l filled.images.items)) (sym done_is) ∙ sym (append-nil (map size_of (entries_with txn last.done filled.images.items))) ∙ last.sizes;
  quiet = last.quiet;
  rising = last.rising;
  written = λ d others of. last.written d others (with_cells d (occupied filled.tree.cells) others) of (Rattle.in_tree.proofs.Written.nothing_written txn (with_cells d (occupied filled.tree.cells) others));
  fits = λ d of. subst (λ (l : List TreeChange). FitsAhead m end d number last.exact (entries_with txn l filled.images.items) filled.tree []) done_is (last.fits m end d of b);
}
  where
    last : RowsLeft fanout txn number rows [] filled start place
    last = subst (λ (l : List TreeChange). RowsLeft fanout txn number rows l filled start place) (drop_all i rows low) so_far

    done_is : last.done ≡ rows
    done_is = sym (append-nil last.done) ∙ last.all

-- A tree that fits each log which gets entries that are worked out before: an image more, a change more, and a slot.
use Rattle.std.proofs.Common.{◌≡◌, ◌≤◌, ◌<◌, ◌+◌, ◌++◌, ◌∙◌, ℕ, min, cond, map, List, [], ◌∷◌, Option, None, Some, IsSome, option_map, Box, refl, ap, sym, subst, arith, is_eq}
use Rattle.std.specs.Prelude.{IfSome}
use Rattle.std.specs.Global.{Global}
use Rattle.std.specs.List.{AllByRecursion}
use Rattle.std.specs.Map.{set_value}
use Rattle.std.specs.BTreeMap.{is_at}
use Rattle.std.proofs.lemmas.Bool.{true≢false}
use Rattle.std.proofs.lemmas.List.{append_assoc, map-append}
use Rattle.std.proofs.Math.Nat.{le_refl}
use Rattle.je_lsn.specs.Naming.{last_file}
use Rattle.je_order.specs.declared.name.Name.{Name}
use Rattle.je_order.specs.declared.txn_id.TxnId.{TxnId}
use Rattle.je_order.proofs.Lists.{all_weaker}
use Rattle.log_entry.specs.Encoding.{size_of}
use Rattle.log_entry.specs.declared.entry.Entry.{Entry}
use Rattle.log_file.specs.Placed.{AreInOrder}
use Rattle.log_replay.proofs.ListLaws.{all_parts}
use Rattle.log_buffer.specs.declared.log_pos.LogPos.{LogPos}
use Rattle.log_buffer.specs.declared.next_place.NextPlace.{NextPlace}
use Rattle.log_buffer.specs.Flip.{end_after, end_after_all, placed_at, pos_lsn}
use Rattle.log_buffer.specs.Laws.{placed_by}
use Rattle.log_buffer.specs.NextPlaces.{IsBehind}
use Rattle.log_buffer.proofs.NextPlaces.{within}
use Rattle.log_trees.specs.Laws.{AreBehind}
use Rattle.log_trees.specs.Placed.{Placed}
use Rattle.log_trees.specs.Sound.{Home}
use Rattle.log_trees.specs.Trees.{data_of}
use Rattle.record_map.specs.declared.cell.Cell.{Cell}
use Rattle.record_map.specs.declared.write.Write.{Write}
use Rattle.record_map.specs.Cells.{value_at, with_write, IsRising}
use Rattle.je_order.specs.Order.{name_cmp}
use Rattle.db_tree.specs.Seen.{occupied, with_change}
use Rattle.record_tree.specs.declared.tree_change.TreeChange.{TreeChange}
use Rattle.record_tree.specs.Logged.{entry_for}
use Rattle.tree_nodes.specs.Nodes.{NodeRow}
use Rattle.tree_nodes.specs.Lows.{lows_of}
use Rattle.db_tree.specs.Waiting.{still_waiting, waiting_of}
use Rattle.db_tree.specs.declared.node_image.NodeImage.{NodeImage}
use Rattle.db_tree.specs.declared.slot_room.SlotRoom.{SlotRoom}
use Rattle.db_tree.specs.declared.tree.DbTree.{DbTree}
use Rattle.db_tree.specs.NodeImages.{finished, IsLoggable}
use Rattle.db_tree.specs.Shapes.{made_by}
use Rattle.tree_images.specs.Forest.{AreLogged, IsLoggedWrite}
use Rattle.tree_images.specs.Notes.{HasNotes}
use Rattle.tree_images.specs.PlaceLaws.{home_with}
use Rattle.tree_images.specs.Laws.{HasSet}
use Rattle.tree_images.specs.TreeSteps.{HasSlot, HasWritten, KeepsExact, KeepsTree}
use Rattle.tree_images.proofs.ForestPlaces.{placed_fits, placed_logged, placed_notes}
use Rattle.tree_images.proofs.ForestSteps.{fits_stay, notes_stay, writes_stay}
use Rattle.tree_images.proofs.ForestWrites.{written_fits, written_logged}
use Rattle.tree_images.proofs.Grown.{homes_agree}
use Rattle.in_tree.specs.Filled.{CanFollow, FitsAhead, HasNoted, IsChangeTaken, IsImageTaken, IsTaken}
use Rattle.in_tree.specs.Growing.{IsFitDue}
use Rattle.in_tree.specs.Limits.{change_size}
use Rattle.in_tree.specs.Placing.{first_behind}
use Rattle.in_tree.proofs.DueLogging.{change_counts, change_gives, change_own, change_plain, due_there_now, image_noted, image_notes, image_plain, lows_length}
use Rattle.in_tree.proofs.Written.{size_is}

-- ---- one entry more

pub placed_more : (m : ℕ) (end : LogPos) (front : List Entry) (e : Entry) → placed_by m end (front ++ e ∷ []) ≡ placed_by m end front ++ (pos_lsn (placed_at m (end_after_all m end (map size_of front)) (size_of e)), e) ∷ []
placed_more m end [] e = refl
placed_more m end (x ∷ front) e = ap (λ (l : List Placed). (pos_lsn (placed_at m end (size_of x)), x) ∷ l) (placed_more m (end_after m end (size_of x)) front e)

order_front : (a b : List Placed) → AreInOrder (a ++ b) → AreInOrder a
order_front [] b order = tt
order_front (p ∷ a) b order = ((all_parts _ a b order.0).0, order_front a b order.1)

order_last : (a : List Placed) (p : Placed) → AreInOrder (a ++ p ∷ []) → AllByRecursion (λ q. q.0 < p.0) a
order_last [] p order = tt
order_last (q ∷ a) p order = ((all_parts _ a (p ∷ []) order.0).1.0, order_last a p order.1)

all_more : {X : Type 0} (P : X → Type 0) (a b : List X) → AllByRecursion P a → AllByRecursion P b → AllByRecursion P (a ++ b)
all_more P [] b first second = second
all_more P (x ∷ a) b first second = (first.0, all_more P a b first.1 second)

-- an entry behind others, which stand in a log with those before them
pub record IsNext (es : List Placed) (base m : ℕ) (end : LogPos) (front : List Entry) (e : Entry) : Type 0 where
  pub before : CanFollow es base m end front
  pub at : ℕ
  pub at_is : at ≡ pos_lsn (placed_at m (end_after_all m end (map size_of front)) (size_of e))
  pub is : es ++ placed_by m end (front ++ e ∷ []) ≡ (es ++ placed_by m end front) ++ (at, e) ∷ []
  pub behind : AllByRecursion (λ p. p.0 < at) (es ++ placed_by m end front)
  pub begun : base ≤ at
  pub files : (end_after_all m end (map size_of front ++ size_of e ∷ [])).file ≤ last_file

pub is_next_in : (es : List Placed) (base m : ℕ) (end : LogPos) (front : List Entry) (e : Entry) → CanFollow es base m end (front ++ e ∷ []) → IsNext es base m end front e
is_next_in es base m end front e follow = record {
  before = record {
    behind = all_weaker _ _ (λ p h. (all_parts (λ q. p.0 < q.0) more (last ∷ []) h).0) es behind;
    order = order_front more (last ∷ []) order;
    begun = (all_parts (λ p. base ≤ p.0) more (last ∷ []) begun).0;
    files = within m end (map size_of front) (size_of e) files;
  };
  at = last.0;
  at_is = refl;
  is = ap (λ (l : List Placed). es ++ l) split ∙ sym (append_assoc es more (last ∷ []));
  behind = all_more (λ p. p.0 < last.0) es more (all_weaker _ _ (λ p h. (all_parts (λ q. p.0 < q.0) more (last ∷ []) h).1.0) es behind) (order_last more last order);
  begun = (all_parts (λ p. base ≤ p.0) more (last ∷ []) begun).1.0;
  files = files;
}
  where
    more : List Placed
    more = placed_by m end front

    last : Placed
    last = (pos_lsn (placed_at m (end_after_all m end (map size_of front)) (size_of e)), e)

    split : placed_by m end (front ++ e ∷ []) ≡ more ++ last ∷ []
    split = placed_more m end front e

    behind : AllByRecursion (λ p. AreBehind p.0 (more ++ last ∷ [])) es
    behind = subst (λ (l : List Placed). AllByRecursion (λ p. AreBehind p.0 l) es) split follow.behind

    order : AreInOrder (more ++ last ∷ [])
    order = subst AreInOrder split follow.order

    begun : AllByRecursion (λ p. base ≤ p.0) (more ++ last ∷ [])
    begun = subst (λ (l : List Placed). AllByRecursion (λ p. base ≤ p.0) l) split follow.begun

    files : (end_after_all m end (map size_of front ++ size_of e ∷ [])).file ≤ last_file
    files = subst (λ (l : List ℕ). (end_after_all m end l).file ≤ last_file) (map-append size_of front (e ∷ [])) follow.files

-- ---- an image

noted_fits : (es : List Placed) (base : ℕ) (home : ℕ → Home) (last d : ℕ) (old new : DbTree) (image : NodeImage) (rest : List NodeImage) (at : ℕ) (e : Entry) → HasNoted image at old new →
    e ≡ (finished old.levels image).entry → IsLoggable e → AllByRecursion (λ p. p.0 < at) es → base ≤ at → IsFitDue home last d old (image ∷ rest) es base → IsFitDue home last d new rest (es ++ (at, e) ∷ []) base
noted_fits es base home last d old new image rest at e h is loggable behind begun fits =
    subst (λ (x : Entry). IsFitDue home last d new rest (es ++ (at, x) ∷ []) base) (sym is) (
      image_noted es base home last d old new image rest at h behind begun (subst IsLoggable is loggable).0 fits.0,
      image_notes es base at (finished old.levels image).entry old.levels new.levels image rest behind begun (image_plain (finished old.levels image).entry (subst IsLoggable is loggable).1)
          (lows_length old.levels new.levels (h.noted there).lows) (h.up there) fits.1,
    )
  where
    there : IsSome (Rattle.record_map.specs.Cells.value_at image.low (Rattle.tree_nodes.specs.Levels.row_of old.levels image.level))
    there = due_there_now es base home last d old image rest fits.0

pub image_ahead : (m : ℕ) (end : LogPos) (d number last : ℕ) (front : List Entry) (image : NodeImage) (rest : List NodeImage) (old new : DbTree) (before after : NextPlace) (e : Entry) → IsImageTaken image old new before after e →
    IsBehind m end (map size_of front) before → FitsAhead m end d number last front old (image ∷ rest) → FitsAhead m end d number last (front ++ e ∷ []) new rest
image_ahead m end d number last front image rest old new before after e t place f es base home own small follow =
    let n = is_next_in es base m end front e follow in
    let was = f es base home own small n.before in
    let at_is : t.at ≡ n.at = (t.taken m end (map size_of front) place).0 n.files ∙ sym n.at_is in (
      was.0,
      was.1,
      subst (λ (l : List Placed). IsFitDue was.0 last d new rest l base) (sym n.is)
          (noted_fits (es ++ placed_by m end front) base was.0 last d old new image rest n.at e (subst (λ (a : ℕ). HasNoted image a old new) at_is t.noted) t.entry t.loggable n.behind n.begun was.2),
      subst (λ (l : List Placed). AreLogged l base d new.cells) (sym n.is)
          (subst (λ (cells : List (Name × Cell)). AreLogged ((es ++ placed_by m end front) ++ (n.at, e) ∷ []) base d cells) (sym t.noted.cells)
          (writes_stay (es ++ placed_by m end front) ((n.at, e) ∷ []) base d old.cells was.3)),
    )

-- an image that took its place as it was finished
pub image_taken : (image done : NodeImage) (old new : DbTree) (before after : NextPlace) (at size : ℕ) → done ≡ finished old.levels image → IsLoggable done.entry → size_of done.entry ≡ size_of image.entry → size ≡ size_of done.entry →
    IsTaken before after size at → HasNoted done at old new → lows_of new.levels ≡ lows_of old.levels → waiting_of new.levels ≡ still_waiting (record { level = done.level; low = done.low } ∷ []) 0 (waiting_of old.levels) →
    IsImageTaken image old new before after done.entry
image_taken image done old new before after at size is loggable bytes size_is_bytes taken noted lows waits =
    subst (λ (i : NodeImage). IsLoggable i.entry → size_of i.entry ≡ size_of image.entry → IsTaken before after (size_of i.entry) at → HasNoted i at old new →
    waiting_of new.levels ≡ still_waiting (record { level = i.level; low = i.low } ∷ []) 0 (waiting_of old.levels) → IsImageTaken image old new before after i.entry) (sym is)
    (λ l b t n w. record {
      at = at;
      entry = refl;
      loggable = l;
      size = b;
      noted = record { cells = n.cells; parts = n.parts; noted = n.noted; up = n.up; exact = n.exact; keeps = n.keeps };
      taken = t;
      lows = lows;
      waits = w;
    }) loggable bytes (subst (λ (n : ℕ). IsTaken before after n at) size_is_bytes taken) noted waits

-- ---- a change

written_ahead : (es : List Placed) (base : ℕ) (home : ℕ → Home) (last : ℕ) (txn : TxnId) (c : TreeChange) (at : ℕ) (write : Box Write Global) (old new : DbTree) → write.value ≡ record { txn = txn; at = at; value = c.value } →
    HasWritten c.name write old new → AllByRecursion (λ p. p.0 < at) es → base ≤ at → IsFitDue home last c.db old [] es base → AreLogged es base c.db old.cells →
    IsFitDue home last c.db new [] (es ++ (at, entry_for txn c.db c.name c.value) ∷ []) base × AreLogged (es ++ (at, entry_for txn c.db c.name c.value) ∷ []) base c.db new.cells
written_ahead es base home last txn c at write old new is step behind begun fits logged = (
  (
    written_fits longer base home last c.db c.name write old new [] step
        (subst (λ (w : Write). IfSome w.value (λ v. data_of longer c.db c.name w.at ≡ Some v)) (sym is) (change_gives es at txn c.db c.name c.value behind))
        (fits_stay es more base home home last last c.db old [] (λ n within. refl) (le_refl last) fits.0),
    subst (λ (rows : List NodeRow). HasNotes longer base [] rows) (sym step.levels) (notes_stay es more base [] old.levels (change_plain txn c.db c.name c.value, tt) fits.1),
  ),
  written_logged longer base c.db c.name write old new step
      (subst (λ (w : Write). IsLoggedWrite longer base c.db c.name w) (sym is)
      (record { upto = change_counts es base at txn c.db c.name c.value begun; own = change_own es base at txn c.db c.name c.value begun }))
      (writes_stay es more base c.db old.cells logged),
)
  where
    more : List Placed
    more = (at, entry_for txn c.db c.name c.value) ∷ []

    longer : List Placed
    longer = es ++ more

pub change_ahead : (m : ℕ) (end : LogPos) (d number last : ℕ) (front : List Entry) (txn : TxnId) (c : TreeChange) (at : ℕ) (write : Box Write Global) (old new : DbTree) (before after : NextPlace) →
    write.value ≡ record { txn = txn; at = at; value = c.value } → HasWritten c.name write old new → IsTaken before after (change_size c) at → c.db ≡ d → IsBehind m end (map size_of front) before →
    FitsAhead m end d number last front old [] → FitsAhead m end d number last (front ++ entry_for txn c.db c.name c.value ∷ []) new []
change_ahead m end d number last front txn c at write old new before after is step taken db place f es base home own small follow =
    let e : Entry = entry_for txn c.db c.name c.value in
    let n = is_next_in es base m end front e follow in
    let was = f es base home own small n.before in
    let bytes : size_of e ≡ change_size c = size_is txn c in
    let at_is : at ≡ n.at =
    (taken m end (map size_of front) place).0 (subst (λ (s : ℕ). (end_after_all m end (map size_of front ++ s ∷ [])).file ≤ last_file) bytes n.files)
    ∙ ap (λ (s : ℕ). pos_lsn (placed_at m (end_after_all m end (map size_of front)) s)) (sym bytes) ∙ sym n.at_is in
    let made =
    written_ahead (es ++ placed_by m end front) base was.0 last txn c n.at write old new (is ∙ ap (λ (a : ℕ). record { txn = txn; at = a; value = c.value }) at_is) step n.behind n.begun
    (subst (λ (b : ℕ). IsFitDue was.0 last b old [] (es ++ placed_by m end front) base) (sym db) was.2) (subst (λ (b : ℕ). AreLogged (es ++ placed_by m end front) base b old.cells) (sym db) was.3) in (
      was.0,
      was.1,
      subst (λ (l : List Placed). IsFitDue was.0 last d new [] l base) (sym n.is) (subst (λ (b : ℕ). IsFitDue was.0 last b new [] ((es ++ placed_by m end front) ++ (n.at, e) ∷ []) base) db made.0),
      subst (λ (l : List Placed). AreLogged l base d new.cells) (sym n.is) (subst (λ (b : ℕ). AreLogged ((es ++ placed_by m end front) ++ (n.at, e) ∷ []) base b new.cells) db made.1),
    )

-- a name's cell has a change
pub written_in : (x : Name) (write : Box Write Global) (old new : DbTree) → IsSome (value_at x old.cells) → new.levels ≡ old.levels →
    ((cell : Cell) → value_at x old.cells ≡ Some cell → new.cells ≡ set_value (is_at (name_cmp x)) old.cells (with_write (Some write) cell)) → HasSet old.cells new.cells x (option_map (with_write (Some write)) (value_at x old.cells)) →
    KeepsTree old new → KeepsExact old new → HasWritten x write old new
written_in x write old new some levels list set keeps exact = by_cell (value_at x old.cells) refl some
  where
    by_cell : (o : Option Cell) → value_at x old.cells ≡ o → IsSome o → HasWritten x write old new
    by_cell None is h = absurd (true≢false (sym h))
    by_cell (Some cell) is h = record { cell = cell; there = is; levels = levels; list = list cell is; set = set; keeps = keeps; exact = exact }

-- a change that took its place
pub change_taken : (txn : TxnId) (c : TreeChange) (old new : DbTree) (before after : NextPlace) (write : Box Write Global) (at size : ℕ) → write.value ≡ record { txn = txn; at = at; value = c.value } → HasWritten c.name write old new →
    ((x : Name) → value_at x (occupied new.cells) ≡ cond (is_eq (name_cmp c.name x)) (with_change write.value (value_at x (occupied old.cells))) (value_at x (occupied old.cells))) → IsRising (occupied new.cells) →
    size ≡ change_size c → IsTaken before after size at → IsChangeTaken txn c old new before after
change_taken txn c old new before after write at size is step seen rising bytes taken = record {
  write = write;
  at = at;
  write_is = is;
  step = step;
  seen = seen;
  rising = rising;
  next = λ m end sizes b. (own m end sizes b).1;
  fits = λ m end d number last front db place f. change_ahead m end d number last front txn c at write old new before after is step own db place f;
}
  where
    own : IsTaken before after (change_size c) at
    own = subst (λ (n : ℕ). IsTaken before after n at) bytes taken

-- ---- a slot

pub slot_ahead : (m : ℕ) (end : LogPos) (fanout d number exact last : ℕ) (front : List Entry) (x : Name) (room : SlotRoom) (old new : DbTree) → HasSlot fanout (first_behind last) d x room old new → last ≡ min exact 0xffffffffffffffff → number ≤ exact →
    FitsAhead m end d number exact front old [] → FitsAhead m end d number (exact + made_by room) front new room.images.items
slot_ahead m end fanout d number exact last front x room old new slot is above f es base home own small follow =
    let was = f es base home own (omega (arith, small)) follow in
    let first : first_behind last ≡ exact + 1 = (omega (arith, is, small)) in (
      home_with was.0 (first_behind last) d room.splits.items,
      λ n low. homes_agree was.0 exact (first_behind last) d room.splits.items (omega (arith, first)) n (omega (arith, low, above)) ∙ was.1 n low,
      (
        placed_fits (es ++ placed_by m end front) base was.0 exact d fanout x room (first_behind last) (exact + made_by room) old new slot (omega (arith, first)) (omega (arith, first)) (omega (arith, small)) was.2.0,
        placed_notes (es ++ placed_by m end front) base was.0 exact d fanout x room (first_behind last) (exact + made_by room) old new slot (omega (arith, first)) (omega (arith, first)) (omega (arith, small)) was.2.0 was.2.1,
      ),
      placed_logged (es ++ placed_by m end front) base fanout (first_behind last) d x room old new slot was.3,
    )

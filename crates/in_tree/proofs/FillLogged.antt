-- Entries that were worked out before are logged, one after the other.
use Rattle.std.proofs.Common.{◌≡◌, ◌+◌, ◌<◌, ◌++◌, ◌∙◌, ℕ, zero, suc, map, drop, get_or, length, List, [], ◌∷◌, Vec, refl, ap, ap₂, sym, subst, arith}
use Rattle.std.specs.Global.{Global}
use Rattle.std.specs.List.{AllByRecursion}
use Rattle.std.proofs.lemmas.List.{append_assoc, append-nil, map-append}
use Rattle.je_disk.specs.DiskMeaning.{DiskMeaning}
use Rattle.je_order.specs.declared.txn_id.TxnId.{TxnId}
use Rattle.log_entry.specs.Encoding.{size_of}
use Rattle.log_entry.specs.declared.entry.Entry.{Entry}
use Rattle.log_buffer.specs.declared.buffer.LogBuffer.{LogBuffer}
use Rattle.record_tree.specs.declared.tree_change.TreeChange.{TreeChange}
use Rattle.record_tree.specs.Logged.{entry_for, IsFront, IsImage, LogsChanges}
use Rattle.je_order.proofs.Lists.{all_weaker}
use Rattle.db_tree.specs.declared.node_image.NodeImage.{NodeImage}
use Rattle.db_tree.specs.declared.slot_room.SlotRoom.{SlotRoom}
use Rattle.db_tree.specs.NodeImages.{IsLoggable}
use Rattle.db_tree.proofs.Ending.{next_left}
use Rattle.in_tree.specs.Filled.{entries_with, first_sizes, AreAllLoggable}
use Rattle.in_tree.specs.Fitting.{fitting_none, fitting_then, fitting_tried}
use Rattle.in_tree.specs.Forest.{Forest}
use Rattle.in_tree.specs.Growing.{none_due}
use Rattle.in_tree.specs.Logging.{LogsChange, TriesChange}
use Rattle.in_tree.specs.Placing.{room_sizes}
use Rattle.in_tree.specs.Limits.{change_size, GrewFitting, HasRoomFor, TriedFitting}
use Rattle.in_tree.proofs.Written.{entries_of, logs_all, size_is}

-- the entries of changes from one on are its images, its own, and those of the others
pub with_next : (txn : TxnId) (rows : List TreeChange) (images : List (Vec Entry Global)) (i : ℕ) (c : TreeChange) (own : Vec Entry Global) → i < length rows → c ≡ get_or rows i c → i < length images → own ≡ get_or images i own →
    entries_with txn (drop i rows) (drop i images) ≡ own.items ++ entry_for txn c.db c.name c.value ∷ entries_with txn (drop (i + 1) rows) (drop (i + 1) images)
with_next txn rows images i c own in_rows c_is in_images own_is = ap₂ (entries_with txn) (next_left rows i c in_rows c_is) (next_left images i own in_images own_is)

-- room for some entries and others
pub room_parts : {D : Type 0} (log : LogBuffer D) (a b : List Entry) (sizes : List ℕ) → HasRoomFor log (map size_of (a ++ b) ++ sizes) → HasRoomFor log (map size_of a ++ (map size_of b ++ sizes))
room_parts log a b sizes room = subst (HasRoomFor log) (ap (λ (l : List ℕ). l ++ sizes) (map-append size_of a b) ∙ append_assoc (map size_of a) (map size_of b) sizes) room

module _ {D : Type 0} (meaning : DiskMeaning D) where
  -- some entries were logged, and others are left
  pub record LogsLeft (old log : LogBuffer D) (all left : List Entry) : Type 0 where
    pub some_room : (sizes : List ℕ) × HasRoomFor log (map size_of left ++ sizes)
    pub room : (sizes : List ℕ) → HasRoomFor old (map size_of all ++ sizes) → HasRoomFor log (map size_of left ++ sizes)
    pub done : List Entry
    pub whole : done ++ left ≡ all
    pub grew : GrewFitting meaning old log done

  pub logs_start : (log : LogBuffer D) (all : List Entry) → (sizes : List ℕ) × HasRoomFor log (map size_of all ++ sizes) → LogsLeft log log all all
  logs_start log all some = record { some_room = some; room = λ sizes room. room; done = []; whole = refl; grew = fitting_none meaning log }

  pub logs_more : (old log new : LogBuffer D) (all a left : List Entry) → LogsLeft old log all (a ++ left) → GrewFitting meaning log new a →
      ((sizes : List ℕ) → HasRoomFor log (map size_of a ++ sizes) → HasRoomFor new sizes) → LogsLeft old new all left
  logs_more old log new all a left so_far grew room = record {
    some_room = (so_far.some_room.0, room (map size_of left ++ so_far.some_room.0) (room_parts log a left so_far.some_room.0 so_far.some_room.1));
    room = λ sizes for. room (map size_of left ++ sizes) (room_parts log a left sizes (so_far.room sizes for));
    done = so_far.done ++ a;
    whole = append_assoc so_far.done a left ∙ so_far.whole;
    grew = fitting_then meaning old log new so_far.done a so_far.grew grew;
  }

  pub logs_fail : (old log new : LogBuffer D) (all left front : List Entry) → LogsLeft old log all left → IsFront front left → TriedFitting meaning log new front →
      (f : List Entry) × IsFront f all × TriedFitting meaning old new f
  logs_fail old log new all left front so_far is tried = (
    so_far.done ++ front,
    (is.0, append_assoc so_far.done front is.0 ∙ ap (λ (l : List Entry). so_far.done ++ l) is.1 ∙ so_far.whole),
    fitting_tried meaning old log new so_far.done front so_far.grew tried,
  )

  pub logs_end : (old log : LogBuffer D) (all : List Entry) → LogsLeft old log all [] → GrewFitting meaning old log all
  logs_end old log all so_far = subst (GrewFitting meaning old log) (sym (append-nil so_far.done) ∙ so_far.whole) so_far.grew

  -- the entries of the next change, with the images before it as they are handed over
  pub logs_turn : (old log : LogBuffer D) (txn : TxnId) (rows : List TreeChange) (images : List (Vec Entry Global)) (i : ℕ) (c : TreeChange) (own : Vec Entry Global) (slice : List Entry) → i < length rows → c ≡ get_or rows i c →
      length images ≡ length rows → own ≡ get_or images i own → slice ≡ own.items → LogsLeft old log (entries_with txn rows images) (entries_with txn (drop i rows) (drop i images)) →
      LogsLeft old log (entries_with txn rows images) (slice ++ entry_for txn c.db c.name c.value ∷ entries_with txn (drop (i + 1) rows) (drop (i + 1) images))
  logs_turn old log txn rows images i c own slice in_rows c_is even own_is same so_far =
      subst (LogsLeft old log (entries_with txn rows images))
      (with_next txn rows images i c own in_rows c_is (omega (arith, in_rows, even)) own_is
      ∙ ap (λ (l : List Entry). l ++ entry_for txn c.db c.name c.value ∷ entries_with txn (drop (i + 1) rows) (drop (i + 1) images)) (sym same)) so_far

-- a front of some entries is one of these and others
pub front_more : (front a b : List Entry) → IsFront front a → IsFront front (a ++ b)
front_more front a b is = (is.0 ++ b, sym (append_assoc front is.0 b) ∙ ap (λ (l : List Entry). l ++ b) is.1)

-- room for the entry of a change, whose size is the same for each transaction
pub room_of_change : {D : Type 0} (log : LogBuffer D) (txn : TxnId) (c : TreeChange) (sizes : List ℕ) → HasRoomFor log (size_of (entry_for txn c.db c.name c.value) ∷ sizes) → HasRoomFor log (change_size c ∷ sizes)
room_of_change log txn c sizes room = subst (λ (n : ℕ). HasRoomFor log (n ∷ sizes)) (size_is txn c) room

-- what is so of the elements from one on is so of those behind it
pub all_rest : {X : Type 0} (P : X → Type 0) (xs : List X) (i : ℕ) → AllByRecursion P (drop i xs) → AllByRecursion P (drop (i + 1) xs)
all_rest P xs i all = let up : suc i ≡ i + 1 = omega arith in subst (λ (n : ℕ). AllByRecursion P (drop n xs)) up (behind xs i all)
  where
    behind : (ys : List _) (n : ℕ) → AllByRecursion P (drop n ys) → AllByRecursion P (drop (suc n) ys)
    behind [] zero h = tt
    behind [] (suc n) h = tt
    behind (y ∷ ys) zero h = h.1
    behind (y ∷ ys) (suc n) h = behind ys n h

-- changes are logged so
pub logs_with : (txn : TxnId) (rows : List TreeChange) (images : List (Vec Entry Global)) → length images ≡ length rows → AreAllLoggable images → LogsChanges txn rows (entries_with txn rows images)
logs_with txn [] images even all = refl
logs_with txn (c ∷ rows) [] even all = absurd (omega (arith, even))
logs_with txn (c ∷ rows) (own ∷ images) even all = (
  own.items,
  entries_with txn rows images,
  all_weaker IsLoggable IsImage (λ e h. h.1) own.items all.0,
  refl,
  logs_with txn rows images (omega (arith, even)) all.1,
)

-- a change that met a fault: the others were not logged
pub first_tried : {D : Type 0} (meaning : DiskMeaning D) (txn : TxnId) (c : TreeChange) (rows : List TreeChange) (old new : LogBuffer D) →
    TriesChange meaning txn c old new →
    (entries : List Entry) × (front : List Entry) × LogsChanges txn (c ∷ rows) entries × IsFront front entries × TriedFitting meaning old new front
first_tried meaning txn c rows old new tries = (
  tries.0 ++ entry_for txn c.db c.name c.value ∷ entries_of txn rows,
  tries.1,
  (tries.0, entries_of txn rows, tries.2, refl, logs_all txn rows),
  subst (IsFront tries.1) (append_assoc tries.0 (entry_for txn c.db c.name c.value ∷ []) (entries_of txn rows)) (front_more tries.1 (tries.0 ++ entry_for txn c.db c.name c.value ∷ []) (entries_of txn rows) tries.3),
  tries.4,
)

-- the others met a fault behind the first change
pub rest_tried : {D : Type 0} (meaning : DiskMeaning D) (txn : TxnId) (c : TreeChange) (rows : List TreeChange) (due : List NodeImage) (images : List (Vec Entry Global))
    (old mid new : LogBuffer D) (before after : Forest) → length images ≡ length rows → AreAllLoggable images → LogsChange meaning due txn c old mid before after →
    (front : List Entry) × IsFront front (entries_with txn rows images) × TriedFitting meaning mid new front →
    (entries : List Entry) × (front : List Entry) × LogsChanges txn (c ∷ rows) entries × IsFront front entries × TriedFitting meaning old new front
rest_tried meaning txn c rows due images old mid new before after even all first tried =
    let front : List Entry = first.0 ++ entry_for txn c.db c.name c.value ∷ [] in
    let rest : List Entry = entries_with txn rows images in (
      first.0 ++ entry_for txn c.db c.name c.value ∷ rest,
      front ++ tried.0,
      (first.0, rest, first.1, refl, logs_with txn rows images even all),
      (tried.1.0, append_assoc front tried.0 tried.1.0 ∙ ap (λ (l : List Entry). front ++ l) tried.1.1 ∙ append_assoc first.0 (entry_for txn c.db c.name c.value ∷ []) rest),
      fitting_tried meaning old mid new front tried.0 (first.3 none_due).fitting tried.2,
    )

-- room for all is room for the first change and the others
pub first_room : {D : Type 0} (log : LogBuffer D) (c : TreeChange) (room : SlotRoom) (sizes : List ℕ) → HasRoomFor log (first_sizes c room ++ sizes) → HasRoomFor log (room_sizes room ++ change_size c ∷ sizes)
first_room log c room sizes has = subst (HasRoomFor log) (append_assoc (room_sizes room) (change_size c ∷ []) sizes) has

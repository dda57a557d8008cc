-- Changes are written one after the other.
use Rattle.std.proofs.Common.{◌≡◌, ◌≤◌, ◌+◌, ◌==◌, ◌&&◌, ◌++◌, ℕ, List, [], ◌∷◌, Bool, true, false, cond, Option, None, Some, map, find, reverse, refl, ap, ap₂, sym, subst, ◌∙◌, arith, is_eq, length, drop, suc, append-nil, Result, Ok, Err, OnErr, OnOk, IfOk}
use Rattle.std.proofs.Math.Nat.{le_refl, le_trans}
use Rattle.std.specs.List.{AllByRecursion}
use Rattle.std.specs.Option.{option_or}
use Rattle.std.proofs.lemmas.List.{append_assoc, append-nil, drop_all, length-map, map-append, reverse-append}
use Rattle.std.proofs.lemmas.List.Folds.{find-append}
use Rattle.je_disk.specs.DiskMeaning.{DiskMeaning}
use Rattle.je_order.specs.Order.{name_cmp}
use Rattle.je_order.specs.declared.name.Name.{Name}
use Rattle.je_order.specs.declared.txn_id.TxnId.{TxnId}
use Rattle.log_entry.specs.Body.{IsEntry}
use Rattle.log_entry.specs.Encoding.{size_of}
use Rattle.log_entry.specs.declared.entry.Entry.{Entry}
use Rattle.log_entry.specs.declared.entry.Entry.TheVariants.{In, Bin}
use Rattle.log_file.specs.Scan.{may_follow}
use Rattle.log_buffer.specs.declared.buffer.LogBuffer.{LogBuffer}
use Rattle.log_buffer.specs.declared.log_pos.LogPos.{LogPos}
use Rattle.log_buffer.specs.Buffer.{end_of, file_max_of, has_failed, HasRoom}
use Rattle.log_buffer.specs.Flip.{placed_at, end_after, end_after_all, pos_lsn}
use Rattle.log_buffer.specs.Laws.{placed_by}
use Rattle.log_buffer.proofs.LogPositions.{all_after}
use Rattle.record_map.specs.declared.write.Write.{Write}
use Rattle.record_map.specs.Cells.{value_at, IsRising}
use Rattle.record_tree.specs.declared.tree_change.TreeChange.{TreeChange}
use Rattle.record_tree.specs.Logged.{entry_for, first_change, is_image, IsImage, AreImages, LogsChanges, IsFront, is_change_of, last_change}
use Rattle.record_tree.specs.Occupied.{Occupied, AllCells, AreWritten, IsWritten, value_in, write_in}
use Rattle.db_tree.specs.declared.tree.DbTree.{DbTree}
use Rattle.db_tree.specs.declared.slot_room.SlotRoom.{SlotRoom}
use Rattle.db_tree.specs.declared.node_image.NodeImage.{NodeImage}
use Rattle.db_tree.specs.Seen.{with_change}
use Rattle.db_tree.specs.Shapes.{shape_in}
use Rattle.db_tree.specs.NodeImages.{sizes_in, IsLoggable}
use Rattle.db_tree.specs.Splits.{count_waiting}
use Rattle.in_tree.specs.Forest.{Forest, cells_seen, HasSameTrees, KeepsCells, HasOne, HasChange, write_for}
use Rattle.in_tree.specs.Limits.{change_size, commit_sizes, HasRoomFor, end_behind, FitsLog, TriedFitting}
use Rattle.in_tree.specs.Fitting.{fitting_tried}
use Rattle.in_tree.specs.Growing.{GrewTree, GrewForest, grew_tree_none, grew_tree_then, grew_forest_none, grew_forest_then, none_due}
use Rattle.in_tree.specs.Logging.{LogsImage, TriesImage, LogsImages, TriesImages, LogsRoom, LogsChange, LogsChangeAt, TriesChange, first_in}
use Rattle.in_tree.specs.Placing.{room_sizes, placed_sizes, count_images, AreLoggable, due_one, due_of}
use Rattle.in_tree.specs.Waits.{waits_in}
use Rattle.in_tree.proofs.Preparation.{same_test}

-- ---- sizes

-- the size of a change's entry is the same for each transaction
pub size_is : (txn : TxnId) (c : TreeChange) → size_of (entry_for txn c.db c.name c.value) ≡ change_size c
size_is txn c = by_value c.value
  where
    by_value : (v : Option (List ℕ)) → size_of (entry_for txn c.db c.name v) ≡ size_of (entry_for (record { 0 = 0 }) c.db c.name v)
    by_value None = refl
    by_value (Some v) = refl

-- an entry for which there is room passes no last file
pub fits : {D : Type 0} (log : LogBuffer D) (size : ℕ) (sizes : List ℕ) → HasRoomFor log (size ∷ sizes) → (placed_at (file_max_of log) (end_of log) size).file ≤ 0xfffffffe
fits log size sizes room =
    let after : (end_after (file_max_of log) (end_of log) size).file ≤ end_behind log (size ∷ sizes) = all_after (file_max_of log) (end_after (file_max_of log) (end_of log) size) sizes in
    omega (arith, after, room.files)

-- the entry of a change may stand behind a header
pub change_follows : (txn : TxnId) (db : ℕ) (name : Name) (value : Option (List ℕ)) → may_follow (entry_for txn db name value) ≡ true
change_follows txn db name None = refl
change_follows txn db name (Some value) = refl

-- an entry for which there is room fits the log
pub fits_one : {D : Type 0} (log : LogBuffer D) (e : Entry) (size : ℕ) (sizes : List ℕ) → IsEntry e → may_follow e ≡ true → size_of e ≡ size → HasRoomFor log (size ∷ sizes) → FitsLog log (e ∷ [])
fits_one log e size sizes is follows same room = record {
  entries_are = ((is, follows), tt);
  room = subst (λ (n : ℕ). (end_after (file_max_of log) (end_of log) n).file ≤ 0xfffffffe) (sym same) (below all room.files);
}
  where
    all : (end_after (file_max_of log) (end_of log) size).file ≤ end_behind log (size ∷ sizes)
    all = all_after (file_max_of log) (end_after (file_max_of log) (end_of log) size) sizes

    below : {a b c : ℕ} → a ≤ b → b ≤ c → a ≤ c
    below first second = omega arith

-- the room that is left behind an entry
pub room_left : {D : Type 0} (old new : LogBuffer D) (size : ℕ) (sizes : List ℕ) → end_of new ≡ end_after (file_max_of old) (end_of old) size → file_max_of new ≡ file_max_of old → has_failed new ≡ has_failed old →
    HasRoom new sizes → HasRoomFor old (size ∷ sizes) → HasRoomFor new sizes
room_left old new size sizes end max failed room for = record {
  works = failed ∙ for.works;
  room = room;
  files = subst (λ (n : ℕ). n ≤ 0xfffffffe) (sym (ap₂ (λ (m : ℕ) (e : LogPos). (end_after_all m e sizes).file) max end)) for.files;
}

-- ---- what is seen

last_more : (d : ℕ) (x : Name) (c : TreeChange) (left : List TreeChange) → last_change d x (c ∷ left) ≡ option_or (last_change d x left) (find (is_change_of d x) (c ∷ []))
last_more d x c left = ap (find (is_change_of d x)) (reverse-append (c ∷ []) left) ∙ find-append (is_change_of d x) (reverse left) (c ∷ [])

-- a change, and then the others
pub written_step : (txn : TxnId) (c : TreeChange) (left : List TreeChange) (old mid new : AllCells) (at : ℕ) →
    HasChange old mid c.db c.name (with_change (record { txn = txn; at = at; value = c.value })) → AreWritten txn left mid new → AreWritten txn (c ∷ left) old new
written_step txn c left old mid new at change rest = record {
  values = λ d x. rest.values d x ∙ ap value_in (change d x) ∙ same_value d x (d == c.db && is_eq (name_cmp c.name x));
  writes = λ d x. subst (λ (o : Option TreeChange). IsWritten o txn (write_in (value_at x (old d))) (write_in (value_at x (new d)))) (sym (last_more d x c left))
      (by_last d x (last_change d x left) (rest.writes d x));
}
  where
    write : Write
    write = record { txn = txn; at = at; value = c.value }

    same_value : (d : ℕ) (x : Name) (t : Bool) → value_in (cond t (with_change (record { txn = txn; at = at; value = c.value }) (value_at x (old d))) (value_at x (old d))) ≡ value_in (value_at x (old d))
    same_value d x true = refl
    same_value d x false = refl

    by_test : (d : ℕ) (x : Name) (t : Bool) → value_at x (mid d) ≡ cond t (with_change (record { txn = txn; at = at; value = c.value }) (value_at x (old d))) (value_at x (old d)) →
        write_in (value_at x (new d)) ≡ write_in (value_at x (mid d)) → IsWritten (cond t (Some c) None) txn (write_in (value_at x (old d))) (write_in (value_at x (new d)))
    by_test d x true is same = (at, same ∙ ap write_in is)
    by_test d x false is same = same ∙ ap write_in is

    by_last : (d : ℕ) (x : Name) (o : Option TreeChange) → IsWritten o txn (write_in (value_at x (mid d))) (write_in (value_at x (new d))) →
        IsWritten (option_or o (cond (is_change_of d x c) (Some c) None)) txn (write_in (value_at x (old d))) (write_in (value_at x (new d)))
    by_last d x (Some last) is = is
    by_last d x None is =
        by_test d x (is_change_of d x c)
        (change d x ∙ ap (λ (t : Bool). cond (t && is_eq (name_cmp c.name x)) (with_change (record { txn = txn; at = at; value = c.value }) (value_at x (old d))) (value_at x (old d))) (same_test d c.db))
        is

pub nothing_written : (txn : TxnId) (cells : AllCells) → AreWritten txn [] cells cells
nothing_written txn cells = record { values = λ d x. refl; writes = λ d x. refl }

-- ---- what is logged

abbrev pub entries_of : TxnId → List TreeChange → List Entry
entries_of txn [] = []
entries_of txn (c ∷ changes) = entry_for txn c.db c.name c.value ∷ entries_of txn changes

pub logs_all : (txn : TxnId) (changes : List TreeChange) → LogsChanges txn changes (entries_of txn changes)
logs_all txn [] = refl
logs_all txn (c ∷ changes) = ([], entries_of txn changes, tt, refl, logs_all txn changes)

-- ---- lists

first_or : {X : Type 0} → X → List X → X
first_or x [] = x
first_or x (y ∷ ys) = y

rest_of : {X : Type 0} → List X → List X
rest_of [] = []
rest_of (x ∷ xs) = xs

pub heads_same : {X : Type 0} (x y : X) (xs ys : List X) → x ∷ xs ≡ y ∷ ys → x ≡ y
unfolding first_or
heads_same x y xs ys h = ap (first_or x) h

pub rests_same : {X : Type 0} (x y : X) (xs ys : List X) → x ∷ xs ≡ y ∷ ys → xs ≡ ys
unfolding rest_of
rests_same x y xs ys h = ap rest_of h

pub not_empty : {X Y Z : Type 0} (f : X → Z) (g : Y → Z) (xs : List X) (y : Y) (ys : List Y) → length xs ≡ 0 → map f xs ≡ map g (y ∷ ys) → ⊥
not_empty f g [] y ys none h = absurd (omega (arith, ap length h))
not_empty f g (x ∷ xs) y ys none h = absurd (omega (arith, none))

pub on_err : {X Y : Type 0} (r : Result X Y) {P : Type 0} → P → OnErr r P
on_err (Ok x) h = tt
on_err (Err y) h = h

pub if_ok_both : {X Y : Type 0} {P Q : X → Type 0} {R : Type 0} (r : Result X Y) → ((x : X) → P x → R → Q x) → IfOk r P → OnOk r R → IfOk r Q
if_ok_both (Ok x) f g h = f x g h
if_ok_both (Err y) f g h = tt

pub err_then : {X Y P Q : Type 0} (r : Result X Y) → (P → Q) → OnErr r P → OnErr r Q
err_then (Ok x) f h = tt
err_then (Err y) f h = f h

-- a change of cells that are as others are
pub change_since : (old mid new : AllCells) (db : ℕ) (name : Name) (change : Option Occupied → Option Occupied) → ((d : ℕ) → mid d ≡ old d) → HasChange mid new db name change → HasChange old new db name change
change_since old mid new db name change same has d x =
    subst (λ (l : List (Name × Occupied)). value_at x (new d) ≡ cond (d == db && is_eq (name_cmp name x)) (change (value_at x l)) (value_at x l)) (same d) (has d x)

-- ---- images

-- an image may stand behind a header
pub image_follows : (e : Entry) → IsImage e → may_follow e ≡ true
image_follows (In db node level slots) is = refl
image_follows (Bin db node slots) is = refl
image_follows e is = absurd is

pub images_more : (a b : List Entry) → AreImages a → AreImages b → AreImages (a ++ b)
images_more [] b first second = second
images_more (e ∷ a) b first second = (first.0, images_more a b first.1 second)

pub length_more : (a b : List Entry) → length (a ++ b) ≡ length a + length b
length_more [] b = omega arith
length_more (e ∷ a) b = let rest = length_more a b in omega (arith, rest)

-- images are no changes, and an entry behind them is the first one
pub no_change : (e : Entry) → IsImage e → is_image e ≡ true
no_change (In db node level slots) is = refl
no_change (Bin db node slots) is = refl
no_change e is = absurd is

pub is_change : (txn : TxnId) (db : ℕ) (name : Name) (value : Option (List ℕ)) → is_image (entry_for txn db name value) ≡ false
is_change txn db name None = refl
is_change txn db name (Some value) = refl

pub change_first : (m : ℕ) (end : LogPos) (images rest : List Entry) (e : Entry) → AreImages images → is_image e ≡ false →
    first_change (placed_by m end (images ++ e ∷ rest)) ≡ Some (pos_lsn (placed_at m (end_after_all m end (map size_of images)) (size_of e)))
change_first m end [] rest e are is =
    ap (λ (b : Bool). cond b (first_change (placed_by m (end_after m end (size_of e)) rest)) (Some (pos_lsn (placed_at m end (size_of e))))) is
change_first m end (x ∷ images) rest e are is =
    ap (λ (b : Bool). cond b (first_change (placed_by m (end_after m end (size_of x)) (images ++ e ∷ rest))) (Some (pos_lsn (placed_at m end (size_of x))))) (no_change x are.0)
    ∙ change_first m (end_after m end (size_of x)) images rest e are.1 is

-- the first one of some, one more, and others
first_three : (first more : Option ℕ) (at : ℕ) → option_or first (Some at) ≡ option_or (option_or first (Some at)) more
first_three None more at = refl
first_three (Some x) more at = refl

first_alone : (first : Option ℕ) → option_or first None ≡ first
first_alone None = refl
first_alone (Some x) = refl

-- entries that have the sizes of images are as many
pub even_sizes : (a : List Entry) (images : List NodeImage) → map size_of a ≡ sizes_in images → length a ≡ length images
even_sizes a images same = sym (length-map a size_of) ∙ ap (λ (l : List ℕ). length l) same ∙ length-map images (λ (i : NodeImage). size_of i.entry)

module _ {D : Type 0} (meaning : DiskMeaning D) where
  -- some images were logged, and those that are left were not
  pub record ImagesLeft (old log : LogBuffer D) (before tree : DbTree) (images left : List NodeImage) : Type 0 where
    pub loggable : AllByRecursion (λ i. IsLoggable i.entry) left
    pub some_room : (sizes : List ℕ) × HasRoomFor log (map (λ i. size_of i.entry) left ++ sizes)
    pub room : (sizes : List ℕ) → HasRoomFor old (map (λ i. size_of i.entry) images ++ sizes) → HasRoomFor log (map (λ i. size_of i.entry) left ++ sizes)
    pub done : (a : List Entry) × AreImages a × (map size_of a ++ sizes_in left ≡ sizes_in images) × GrewTree meaning old log before tree images left a
    pub cells : tree.cells ≡ before.cells
    pub waits : count_waiting (shape_in tree) ≤ count_waiting (shape_in before)

  pub images_begin : (log : LogBuffer D) (tree : DbTree) (images left : List NodeImage) → left ≡ images → AllByRecursion (λ i. IsLoggable i.entry) images → (sizes : List ℕ) × HasRoomFor log (map (λ i. size_of i.entry) images ++ sizes) →
      ImagesLeft log log tree tree images left
  images_begin log tree images left is loggable some =
      subst (λ (l : List NodeImage). ImagesLeft log log tree tree images l) (sym is)
      (record { loggable = loggable; some_room = some; room = λ sizes for. for; done = ([], tt, refl, grew_tree_none meaning log tree images); cells = refl; waits = le_refl (count_waiting (shape_in tree)) })

  pub images_turn : (old log : LogBuffer D) (before tree : DbTree) (images left more : List NodeImage) → ImagesLeft old log before tree images left → left ≡ more → ImagesLeft old log before tree images more
  images_turn old log before tree images left more so_far is = subst (λ (l : List NodeImage). ImagesLeft old log before tree images l) is so_far

  pub images_step : (old log new : LogBuffer D) (before tree after : DbTree) (images left : List NodeImage) (i : NodeImage) → ImagesLeft old log before tree images (i ∷ left) →
      LogsImage meaning i log new tree after → ((sizes : List ℕ) → HasRoomFor log (size_of i.entry ∷ sizes) → HasRoomFor new sizes) →
      after.cells ≡ tree.cells → count_waiting (shape_in after) ≤ count_waiting (shape_in tree) → ImagesLeft old new before after images left
  images_step old log new before tree after images left i so_far logs room cells waits = record {
    loggable = so_far.loggable.1;
    some_room = (so_far.some_room.0, room (map (λ i. size_of i.entry) left ++ so_far.some_room.0) so_far.some_room.1);
    room = λ sizes for. room (map (λ i. size_of i.entry) left ++ sizes) (so_far.room sizes for);
    done = (
      so_far.done.0 ++ logs.0 ∷ [],
      images_more so_far.done.0 (logs.0 ∷ []) so_far.done.1 (logs.1, tt),
      ap (λ (l : List ℕ). l ++ sizes_in left) (map-append size_of so_far.done.0 (logs.0 ∷ [])) ∙ append_assoc (map size_of so_far.done.0) (size_of logs.0 ∷ []) (sizes_in left)
          ∙ ap (λ (n : ℕ). map size_of so_far.done.0 ++ n ∷ sizes_in left) logs.2 ∙ so_far.done.2,
      grew_tree_then meaning old log new before tree after images (i ∷ left) left so_far.done.0 (logs.0 ∷ []) so_far.done.3
          (record { fitting = logs.3.fitting; fits = λ home last d rest. logs.3.fits home last d (left ++ rest); still = λ none es base home last d rest. logs.3.still none es base home last d (left ++ rest) }),
    );
    cells = cells ∙ so_far.cells;
    waits = le_trans waits so_far.waits;
  }

  pub images_fail : (old log new : LogBuffer D) (before tree : DbTree) (images left : List NodeImage) → ImagesLeft old log before tree images left → TriesImage meaning log new →
      TriesImages meaning old new
  images_fail old log new before tree images left so_far tries = (
    so_far.done.0 ++ tries.0 ∷ [],
    images_more so_far.done.0 (tries.0 ∷ []) so_far.done.1 (tries.1, tt),
    fitting_tried meaning old log new so_far.done.0 (tries.0 ∷ []) so_far.done.3.fitting tries.2,
  )

  pub images_end : (old log : LogBuffer D) (before tree : DbTree) (images : List NodeImage) → ImagesLeft old log before tree images [] → LogsImages meaning images old log before tree
  images_end old log before tree images so_far = (so_far.done.0, so_far.done.1, sym (append-nil (map size_of so_far.done.0)) ∙ so_far.done.2, so_far.done.3)

  -- ---- a change behind its images

  pub change_logged : (due : List NodeImage) (txn : TxnId) (c : TreeChange) (old mid new : LogBuffer D) (before between after : Forest) → LogsRoom meaning c.db due old mid before between →
      ((more : ℕ → List NodeImage) → GrewForest meaning mid new between after more more (entry_for txn c.db c.name c.value ∷ [])) → LogsChange meaning due txn c old new before after
  change_logged due txn c old mid new before between after images entry = (
    images.0,
    images.1,
    images.2,
    λ more. grew_forest_then meaning old mid new before between after (λ d. due_one c.db due d ++ more d) more more images.0 (entry_for txn c.db c.name c.value ∷ []) (images.3 more) (entry more),
  )

  -- and where its entry stands
  pub change_logged_at : (due : List NodeImage) (txn : TxnId) (c : TreeChange) (at : ℕ) (old mid new : LogBuffer D) (before between after : Forest) →
      LogsRoom meaning c.db due old mid before between → at ≡ pos_lsn (placed_at (file_max_of mid) (end_of mid) (size_of (entry_for txn c.db c.name c.value))) →
      ((more : ℕ → List NodeImage) → GrewForest meaning mid new between after more more (entry_for txn c.db c.name c.value ∷ [])) →
      LogsChangeAt meaning due txn c at old new before after
  unfolding change_logged
  change_logged_at due txn c at old mid new before between after images at_is entry = (
    change_logged due txn c old mid new before between after images entry,
    λ rest.
        change_first (file_max_of old) (end_of old) images.0 rest (entry_for txn c.db c.name c.value) images.1 (is_change txn c.db c.name c.value)
        ∙ ap (λ (n : ℕ). Some n) (sym (at_is ∙ ap₂ (λ (m : ℕ) (end : LogPos). pos_lsn (placed_at m end (size_of (entry_for txn c.db c.name c.value)))) (images.3 none_due).fitting.grew.max (images.3 none_due).fitting.grew.end)),
  )

  pub images_tried : (txn : TxnId) (c : TreeChange) (old new : LogBuffer D) → TriesImages meaning old new → TriesChange meaning txn c old new
  images_tried txn c old new tries = (tries.0, tries.0, tries.1, (entry_for txn c.db c.name c.value ∷ [], refl), tries.2)

  pub entry_tried : (due : List NodeImage) (txn : TxnId) (c : TreeChange) (old mid new : LogBuffer D) (before between : Forest) → LogsRoom meaning c.db due old mid before between →
      TriedFitting meaning mid new (entry_for txn c.db c.name c.value ∷ []) → TriesChange meaning txn c old new
  entry_tried due txn c old mid new before between images entry = (
    images.0,
    images.0 ++ entry_for txn c.db c.name c.value ∷ [],
    images.1,
    ([], append-nil (images.0 ++ entry_for txn c.db c.name c.value ∷ [])),
    fitting_tried meaning old mid new images.0 (entry_for txn c.db c.name c.value ∷ []) (images.3 none_due).fitting entry,
  )

  -- ---- changes

  -- some changes were written, and those that are left were not
  pub record WritesLeft (txn : TxnId) (old log : LogBuffer D) (before trees : Forest) (changes left : List TreeChange) (rooms slots : List SlotRoom) (writes : List Write) (first : Option ℕ) : Type 0 where
    pub entries : AllByRecursion (λ c. IsEntry (entry_for txn c.db c.name c.value)) left
    pub loggable : AreLoggable slots
    pub paired : length slots ≡ length left
    pub there : AllByRecursion (λ c. HasOne trees c.db c.name) left
    pub writes_are : writes ≡ map (write_for txn) left
    pub some_room : (owed : ℕ) × HasRoomFor log (placed_sizes left slots ++ commit_sizes owed)
    pub room : (owed : ℕ) → HasRoomFor old (placed_sizes changes rooms ++ commit_sizes owed) → HasRoomFor log (placed_sizes left slots ++ commit_sizes owed)
    pub grew : (last : LogBuffer D) (forest : Forest) (b : List Entry) → LogsChanges txn left b → GrewForest meaning log last trees forest (due_of left slots) none_due b → length b ≡ count_images slots + length left →
        (a : List Entry) × LogsChanges txn changes a × GrewForest meaning old last before forest (due_of changes rooms) none_due a × (length a ≡ count_images rooms + length changes)
        × (first_in old a ≡ option_or first (first_in log b))
    pub tried : (last : LogBuffer D) (b f : List Entry) → LogsChanges txn left b → IsFront f b → TriedFitting meaning log last f →
        (a : List Entry) × (g : List Entry) × LogsChanges txn changes a × IsFront g a × TriedFitting meaning old last g
    pub cells : (last : AllCells) → AreWritten txn left (cells_seen trees) last → AreWritten txn changes (cells_seen before) last
    pub same : HasSameTrees before trees
    pub rising : (d : ℕ) → IsRising (cells_seen before d) → IsRising (cells_seen trees d)
    pub waits : waits_in trees ≤ waits_in before

  pub writes_begin : (txn : TxnId) (log : LogBuffer D) (trees : Forest) (changes : List TreeChange) (rooms slots : List SlotRoom) (writes : List Write) → slots ≡ rooms → AllByRecursion (λ c. IsEntry (entry_for txn c.db c.name c.value)) changes →
      AreLoggable rooms → length rooms ≡ length changes → AllByRecursion (λ c. HasOne trees c.db c.name) changes → writes ≡ map (write_for txn) changes → (owed : ℕ) × HasRoomFor log (placed_sizes changes rooms ++ commit_sizes owed) →
      WritesLeft txn log log trees trees changes changes rooms slots writes None
  writes_begin txn log trees changes rooms slots writes is entries loggable paired there are room =
      subst (λ (l : List SlotRoom). WritesLeft txn log log trees trees changes changes rooms l writes None) (sym is)
      (record {
        entries = entries;
        loggable = loggable;
        paired = paired;
        there = there;
        writes_are = are;
        some_room = room;
        room = λ owed for. for;
        grew = λ last forest b logs grew count. (b, logs, grew, count, refl);
        tried = λ last b f logs front tried. (b, f, logs, front, tried);
        cells = λ last written. written;
        same = λ d. refl;
        rising = λ d up. up;
        waits = le_refl (waits_in trees);
      })

  -- before one change more
  pub writes_turn : (txn : TxnId) (old log : LogBuffer D) (before trees : Forest) (changes left more : List TreeChange) (rooms slots next : List SlotRoom) (ws vs : List Write) (first : Option ℕ) → WritesLeft txn old log before trees changes left rooms slots ws first →
      left ≡ more → slots ≡ next → ws ≡ vs → WritesLeft txn old log before trees changes more rooms next vs first
  writes_turn txn old log before trees changes left more rooms slots next ws vs first so_far lefts nexts are =
      subst (λ (l : List TreeChange). WritesLeft txn old log before trees changes l rooms next vs first) lefts
      (subst (λ (l : List SlotRoom). WritesLeft txn old log before trees changes left rooms l vs first) nexts
      (subst (λ (l : List Write). WritesLeft txn old log before trees changes left rooms slots l first) are so_far))

  there_stays : (old new : Forest) (changes : List TreeChange) → KeepsCells old new → AllByRecursion (λ c. HasOne old c.db c.name) changes → AllByRecursion (λ c. HasOne new c.db c.name) changes
  there_stays old new [] keeps all = tt
  there_stays old new (c ∷ changes) keeps all = (keeps c.db c.name all.0, there_stays old new changes keeps all.1)

  -- the room of a change and those behind it
  pub room_of_next : (log : LogBuffer D) (c : TreeChange) (left : List TreeChange) (room : SlotRoom) (slots : List SlotRoom) (owed : ℕ) → HasRoomFor log (placed_sizes (c ∷ left) (room ∷ slots) ++ commit_sizes owed) →
      HasRoomFor log (room_sizes room ++ change_size c ∷ (placed_sizes left slots ++ commit_sizes owed))
  room_of_next log c left room slots owed = subst (λ (l : List ℕ). HasRoomFor log l) (append_assoc (room_sizes room) (change_size c ∷ placed_sizes left slots) (commit_sizes owed))

  pub writes_step : (txn : TxnId) (old log new : LogBuffer D) (before trees after : Forest) (changes left : List TreeChange) (c : TreeChange) (rooms slots : List SlotRoom) (slot : SlotRoom) (write : Write) (writes : List Write) (first later : Option ℕ) (at : ℕ) →
      WritesLeft txn old log before trees changes (c ∷ left) rooms (slot ∷ slots) (write ∷ writes) first → writes ≡ map (write_for txn) left → later ≡ option_or first (Some at) →
      LogsChangeAt meaning slot.images.items txn c at log new trees after → ((sizes : List ℕ) → HasRoomFor log (room_sizes slot ++ change_size c ∷ sizes) → HasRoomFor new sizes) →
      (at : ℕ) × HasChange (cells_seen trees) (cells_seen after) c.db c.name (with_change (record { txn = txn; at = at; value = c.value })) → KeepsCells trees after → HasSameTrees trees after →
      ((d : ℕ) → IsRising (cells_seen trees d) → IsRising (cells_seen after d)) → waits_in after ≤ waits_in trees →
      WritesLeft txn old new before after changes left rooms slots writes later
  writes_step txn old log new before trees after changes left c rooms slots slot write writes first later at so_far are later_is logged room change kept same rising waits = record {
    entries = so_far.entries.1;
    loggable = so_far.loggable.1;
    paired = (let even = so_far.paired in omega (arith, even));
    there = there_stays trees after left kept so_far.there.1;
    writes_are = are;
    some_room = (so_far.some_room.0, room (placed_sizes left slots ++ commit_sizes so_far.some_room.0) (room_of_next log c left slot slots so_far.some_room.0 so_far.some_room.1));
    room = λ owed for. room (placed_sizes left slots ++ commit_sizes owed) (room_of_next log c left slot slots owed (so_far.room owed for));
    grew = λ last forest b of_left more count.
        let whole = so_far.grew last forest (logs.0 ++ entry ∷ b) (logs.0, b, logs.1, refl, of_left)
        (subst (λ (l : List Entry). GrewForest meaning log last trees forest (due_of (c ∷ left) (slot ∷ slots)) none_due l) (append_assoc logs.0 (entry ∷ []) b)
        (grew_forest_then meaning log new last trees after forest (due_of (c ∷ left) (slot ∷ slots)) (due_of left slots) none_due (logs.0 ++ entry ∷ []) b (logs.3 (due_of left slots)) more))
        (let whole = length_more logs.0 (entry ∷ b) in let front = even_sizes logs.0 slot.images.items logs.2 in omega (arith, whole, front, count)) in
        (whole.0, whole.1, whole.2, whole.3, whole.4 ∙ ap (λ (o : Option ℕ). option_or first o) (logged.1 b) ∙ first_three first (first_in new b) at ∙ sym (ap (λ (o : Option ℕ). option_or o (first_in new b)) later_is));
    tried = λ last b f of_left front more. so_far.tried last (logs.0 ++ entry ∷ b) ((logs.0 ++ entry ∷ []) ++ f) (logs.0, b, logs.1, refl, of_left)
        (front.0, append_assoc (logs.0 ++ entry ∷ []) f front.0 ∙ ap (λ (l : List Entry). (logs.0 ++ entry ∷ []) ++ l) front.1 ∙ append_assoc logs.0 (entry ∷ []) b)
        (fitting_tried meaning log new last (logs.0 ++ entry ∷ []) f (logs.3 none_due).fitting more);
    cells = λ last written. so_far.cells last (written_step txn c left (cells_seen trees) (cells_seen after) last change.0 change.1 written);
    same = λ d. same d ∙ so_far.same d;
    rising = λ d up. rising d (so_far.rising d up);
    waits = le_trans waits so_far.waits;
  }
    where
      entry : Entry
      entry = entry_for txn c.db c.name c.value

      logs : LogsChange meaning slot.images.items txn c log new trees after
      logs = logged.0

  -- a change that met a fault
  pub writes_fail : (txn : TxnId) (old log new : LogBuffer D) (before trees : Forest) (changes left : List TreeChange) (c : TreeChange) (rooms slots : List SlotRoom) (writes : List Write) (first : Option ℕ) →
      WritesLeft txn old log before trees changes (c ∷ left) rooms slots writes first → TriesChange meaning txn c log new →
      (a : List Entry) × (g : List Entry) × LogsChanges txn changes a × IsFront g a × TriedFitting meaning old new g
  writes_fail txn old log new before trees changes left c rooms slots writes first so_far tries =
      so_far.tried new (tries.0 ++ entry ∷ entries_of txn left) tries.1 (tries.0, entries_of txn left, tries.2, refl, logs_all txn left)
      (tries.3.0 ++ entries_of txn left, sym (append_assoc tries.1 tries.3.0 (entries_of txn left)) ∙ ap (λ (l : List Entry). l ++ entries_of txn left) tries.3.1 ∙ append_assoc tries.0 (entry ∷ []) (entries_of txn left)) tries.4
    where
      entry : Entry
      entry = entry_for txn c.db c.name c.value

  -- all changes were written
  pub record AllWritten (txn : TxnId) (old log : LogBuffer D) (before trees : Forest) (changes : List TreeChange) (rooms : List SlotRoom) (first : Option ℕ) : Type 0 where
    pub grew : (a : List Entry) × LogsChanges txn changes a × GrewForest meaning old log before trees (due_of changes rooms) none_due a × (length a ≡ count_images rooms + length changes)
        × (first ≡ first_in old a)
    pub left : (owed : ℕ) → HasRoomFor old (placed_sizes changes rooms ++ commit_sizes owed) → HasRoomFor log (commit_sizes owed)
    pub cells : AreWritten txn changes (cells_seen before) (cells_seen trees)

  pub all_written : (txn : TxnId) (old log : LogBuffer D) (before trees : Forest) (changes : List TreeChange) (i : ℕ) (rooms slots : List SlotRoom) (writes : List Write) (first : Option ℕ) → length changes ≤ i →
      WritesLeft txn old log before trees changes (drop i changes) rooms slots writes first → AllWritten txn old log before trees changes rooms first
  all_written txn old log before trees changes i rooms slots writes first all so_far =
      let ended = subst (λ (l : List TreeChange). WritesLeft txn old log before trees changes l rooms slots writes first) (drop_all i changes all) so_far in
      by_slots slots ended
    where
      by_slots : (l : List SlotRoom) → WritesLeft txn old log before trees changes [] rooms l writes first → AllWritten txn old log before trees changes rooms first
      by_slots [] ended = record {
        grew =
            let whole = ended.grew log trees [] refl (grew_forest_none meaning log trees none_due) refl in
            (whole.0, whole.1, whole.2, whole.3, sym (whole.4 ∙ first_alone first));
        left = ended.room;
        cells = ended.cells (cells_seen trees) (nothing_written txn (cells_seen trees));
      }
      by_slots (r ∷ l) ended = absurd (none_more ended.paired)
        where
          none_more : suc (length l) ≡ 0 → ⊥
          none_more h = absurd (omega (arith, h))

-- Images that are due are logged, and changes behind them: the trees fit the longer log.
use Rattle.std.proofs.Common.{◌≡◌, ◌≤◌, ◌<◌, ◌==◌, ◌&&◌, ◌++◌, ◌⊎◌, inl, inr, ℕ, suc, Bool, true, false, cond, map, List, [], ◌∷◌, Option, None, Some, IsSome, length, refl, ap, ap₂, sym, subst, ◌∙◌, arith, is_eq}
use Rattle.std.specs.Prelude.{Box, IfSome}
use Rattle.std.specs.Global.{Global}
use Rattle.std.specs.List.{AllByRecursion}
use Rattle.std.specs.Ordering.{nat_cmp}
use Rattle.std.specs.BTreeMap.{get}
use Rattle.std.proofs.lemmas.Bool.{true≢false, eq-eqb, eqb-true, ne_eqb, cond-true, cond-false}
use Rattle.std.proofs.lemmas.Option.{same_Some}
use Rattle.std.specs.Option.{option_and_then}
use Rattle.std.proofs.Math.Nat.{le_refl, le_trans}
use Rattle.je_disk.specs.DiskMeaning.{DiskMeaning}
use Rattle.je_disk.specs.Moments.{now}
use Rattle.je_order.specs.Order.{name_cmp}
use Rattle.je_order.specs.declared.name.Name.{Name}
use Rattle.je_order.specs.declared.txn_id.TxnId.{TxnId}
use Rattle.log_entry.specs.Body.{IsEntry}
use Rattle.log_entry.specs.Encoding.{size_of}
use Rattle.log_entry.specs.declared.entry.Entry.{Entry}
use Rattle.log_entry.specs.declared.entry.Entry.TheVariants.{Put, In, Bin}
use Rattle.log_file.specs.Log.{Log}
use Rattle.log_buffer.specs.declared.buffer.LogBuffer.{LogBuffer}
use Rattle.log_buffer.specs.declared.log_pos.LogPos.{LogPos}
use Rattle.log_buffer.specs.Buffer.{disk_of, end_of, file_max_of}
use Rattle.log_buffer.specs.Flip.{end_after, pos_lsn, placed_at}
use Rattle.log_buffer.specs.Growth.{longer}
use Rattle.log_buffer.specs.Laws.{placed_by}
use Rattle.log_buffer.specs.Log.{HasLog}
use Rattle.record_map.specs.declared.cell.Cell.{Cell}
use Rattle.record_map.specs.declared.write.Write.{Write}
use Rattle.record_map.specs.Cells.{value_at}
use Rattle.record_map.proofs.NameLaws.{name_same, same_or_other}
use Rattle.record_tree.specs.Logged.{entry_for, AreImages, IsImage}
use Rattle.tree_nodes.specs.Nodes.{NodeRow}
use Rattle.tree_nodes.specs.Levels.{row_of}
use Rattle.tree_nodes.specs.Lows.{lows_of}
use Rattle.log_trees.specs.Placed.{Placed, placed}
use Rattle.log_trees.specs.Sound.{Home}
use Rattle.log_trees.specs.Trees.{data_in, data_of}
use Rattle.log_meaning.specs.Redo.{Redo, redo_entry, redone, set_at, unset_at}
use Rattle.log_meaning.proofs.RedoLaws.{redone-in}
use Rattle.db_tree.specs.declared.node_at.NodeAt.{NodeAt}
use Rattle.db_tree.specs.declared.node_image.NodeImage.{NodeImage}
use Rattle.db_tree.specs.declared.tree.DbTree.{DbTree}
use Rattle.db_tree.specs.NodeImages.{finished, node_of, IsLoggable}
use Rattle.db_tree.specs.NodeSteps.{IsLoggedUp}
use Rattle.db_tree.specs.Waiting.{is_among, is_same_name}
use Rattle.db_tree.proofs.NodeLogging.{entry_is_last}
use Rattle.tree_images.specs.Forest.{latest_at, latest_of, logged_at, AreLogged, FitsDue, ForestDue, IsDue, IsLoggedWrite}
use Rattle.tree_images.specs.LogLaws.{AreDue, IsNextLogged}
use Rattle.tree_images.specs.Notes.{HasNotes, has_begun, has_changed, is_change_by, is_late, is_root_due, is_start, may_stay}
use Rattle.tree_images.specs.TreeSteps.{HasWritten}
use Rattle.tree_images.proofs.DueImages.{due_logged}
use Rattle.tree_images.proofs.ForestSteps.{tree_stays, fits_stay, notes_stay, writes_stay, forest_here, forest_step}
use Rattle.tree_images.proofs.ForestWrites.{written_fits, written_logged}
use Rattle.tree_images.proofs.Latest.{latest_own, latest_behind}
use Rattle.tree_images.proofs.LateMarks.{HasNoStart, and_true, begun_back, begun_before, both, changed_last, late_behind, late_grows, or_cases, or_left, or_right}
use Rattle.tree_images.proofs.Logged.{none_named}
use Rattle.tree_images.proofs.NotedNodes.{notes_logged}
use Rattle.tree_images.proofs.Splits.{lows_height}
use Rattle.db_tree.specs.Dirty.{AreExact}
use Rattle.in_tree.specs.Filled.{HasNoted}
use Rattle.in_tree.specs.Forest.{Forest, Replaces, IsStepIn}
use Rattle.in_tree.specs.Growing.{trees_at, IsFitDue, GrewTree, GrewForest, GrewSlot}
use Rattle.in_tree.specs.Limits.{GrewFitting}
use Rattle.in_tree.specs.Logging.{LogsImage}
use Rattle.in_tree.specs.Placing.{due_one}
use Rattle.in_tree.proofs.Appending.{more_placed, is_appended}
use Rattle.in_tree.proofs.Forests.{others_away, replaced}

-- ---- an image

-- where no image is due any more a tree fits
pub fits_of_due : (es : List Placed) (base : ℕ) (home : ℕ → Home) (last d : ℕ) (tree : DbTree) (images : List NodeImage) → IsDue es base home last d tree images → FitsDue es base home last d tree images
fits_of_due es base home last d tree [] is = record { tree = is.is_tree; imaged = is.due.imaged; recorded = is.due.recorded; exact = is.due.exact }
fits_of_due es base home last d tree (image ∷ images) is = is

-- an image that is due first is logged and noted
pub image_noted : (es : List Placed) (base : ℕ) (home : ℕ → Home) (last d : ℕ) (before after : DbTree) (image : NodeImage) (images : List NodeImage) (at : ℕ) → HasNoted image at before after →
    AllByRecursion (λ p. p.0 < at) es → base ≤ at → IsEntry (finished before.levels image).entry → IsDue es base home last d before (image ∷ images) →
    FitsDue (es ++ (at, (finished before.levels image).entry) ∷ []) base home last d after images
image_noted es base home last d before after image images at h behind begun entry is =
    fits_of_due (es ++ (at, (finished before.levels image).entry) ∷ []) base home last d after images (record {
      before = is.before;
      due = subst (λ (cells : List (Name × Cell)). AreDue (es ++ (at, (finished before.levels image).entry) ∷ []) home last d is.before after.levels cells images) (sym h.cells)
          (next.next after.levels h.parts (h.noted next.there)
          (subst (AreExact (map node_of images) after.levels) h.cells (h.exact (es ++ (at, (finished before.levels image).entry) ∷ []) (map node_of images) next.content is.due.exact)));
      is_tree = h.keeps (es ++ (at, (finished before.levels image).entry) ∷ []) base (latest_at base (es ++ (at, (finished before.levels image).entry) ∷ []) d) next.content
          (tree_stays es ((at, (finished before.levels image).entry) ∷ []) base d before.levels before.cells is.is_tree);
    })
  where
    next : IsNextLogged es home last d is.before before.levels before.cells image images at
    next = due_logged es home last d is.before before.levels before.cells image images at is.due behind (λ x. is.is_tree.know.touched x at begun behind) entry

names_same : (a b : Name) → is_same_name a b ≡ true → a ≡ b
names_same a b same = by_name (same_or_other a b)
  where
    by_name : (a ≡ b) ⊎ (is_eq (name_cmp a b) ≡ false) → a ≡ b
    by_name (inl is) = is
    by_name (inr apart) = absurd (true≢false (sym same ∙ apart))

-- a node elsewhere is among those of the other images
among_rest : (n : NodeAt) (nodes : List NodeAt) (k : ℕ) (x : Name) → (k ≡ n.level → x ≡ n.low → ⊥) → is_among (n ∷ nodes) k x ≡ true → is_among nodes k x ≡ true
among_rest n nodes k x away h = by_side (or_cases ((n.level == k) && is_same_name n.low x) (is_among nodes k x) h)
  where
    by_side : (((n.level == k) && is_same_name n.low x) ≡ true) ⊎ (is_among nodes k x ≡ true) → is_among nodes k x ≡ true
    by_side (inl here) =
        let parts = both (n.level == k) (is_same_name n.low x) here in
        absurd (away (sym (eqb-true n.level k parts.0)) (sym (names_same n.low x parts.1)))
    by_side (inr rest) = rest

-- what a checkpoint noted is noted still where the image that is due first is logged: its node's mark is the node's above it
pub image_notes : (es : List Placed) (base at : ℕ) (e : Entry) (before after : List NodeRow) (image : NodeImage) (images : List NodeImage) → AllByRecursion (λ p. p.0 < at) es → base ≤ at → is_start e ≡ false → length after ≡ length before →
    IsLoggedUp before after image.level image.low at → HasNotes es base (image ∷ images) before → HasNotes (es ++ (at, e) ∷ []) base images after
image_notes es base at e before after image images behind le plain height up notes start begun_now =
    notes_logged (may_stay es base start (map node_of (image ∷ images)) before) (may_stay (es ++ (at, e) ∷ []) base start (map node_of images) after) before after image.level image.low at up
    others handed (λ x. or_right (is_root_due (map node_of images) after (suc image.level) x) (is_late (es ++ (at, e) ∷ []) base start at) late_now) (notes start begun)
  where
    begun : has_begun es base start ≡ true
    begun = begun_back es ((at, e) ∷ []) base start (plain, tt) begun_now

    late_now : is_late (es ++ (at, e) ∷ []) base start at ≡ true
    late_now = late_behind (es ++ (at, e) ∷ []) base start at (let lt = begun_before es base start at behind begun in omega (arith, lt))

    grows : (lsn : ℕ) → is_late es base start lsn ≡ true → is_late (es ++ (at, e) ∷ []) base start lsn ≡ true
    grows lsn h = late_grows es ((at, e) ∷ []) base start lsn h

    others : (k : ℕ) (x : Name) (lsn : ℕ) → (k ≡ image.level → x ≡ image.low → ⊥) → may_stay es base start (map node_of (image ∷ images)) before k x lsn ≡ true → may_stay (es ++ (at, e) ∷ []) base start (map node_of images) after k x lsn ≡ true
    others k x lsn away h = by_side (or_cases (is_root_due (map node_of (image ∷ images)) before k x) (is_late es base start lsn) h)
      where
        by_side : (is_root_due (map node_of (image ∷ images)) before k x ≡ true) ⊎ (is_late es base start lsn ≡ true) → may_stay (es ++ (at, e) ∷ []) base start (map node_of images) after k x lsn ≡ true
        by_side (inr late) = or_right (is_root_due (map node_of images) after k x) (is_late (es ++ (at, e) ∷ []) base start lsn) (grows lsn late)
        by_side (inl due) =
            let parts = both (is_among (map node_of (image ∷ images)) k x) (suc k == length before) due in
            or_left (is_root_due (map node_of images) after k x) (is_late (es ++ (at, e) ∷ []) base start lsn)
            (and_true (is_among (map node_of images) k x) (suc k == length after) (among_rest (node_of image) (map node_of images) k x away parts.0) (subst (λ (n : ℕ). (suc k == n) ≡ true) (sym height) parts.1))

    handed : (x : Name) (lsn : ℕ) → suc image.level < length before → may_stay es base start (map node_of (image ∷ images)) before image.level image.low lsn ≡ true →
        may_stay (es ++ (at, e) ∷ []) base start (map node_of images) after (suc image.level) x lsn ≡ true
    handed x lsn lt h = by_side (or_cases (is_root_due (map node_of (image ∷ images)) before image.level image.low) (is_late es base start lsn) h)
      where
        by_side : (is_root_due (map node_of (image ∷ images)) before image.level image.low ≡ true) ⊎ (is_late es base start lsn ≡ true) → may_stay (es ++ (at, e) ∷ []) base start (map node_of images) after (suc image.level) x lsn ≡ true
        by_side (inr late) = or_right (is_root_due (map node_of images) after (suc image.level) x) (is_late (es ++ (at, e) ∷ []) base start lsn) (grows lsn late)
        by_side (inl due) =
            let top : suc image.level ≡ length before = eqb-true (suc image.level) (length before) (both (is_among (map node_of (image ∷ images)) image.level image.low) (suc image.level == length before) due).1 in absurd (omega (arith, lt, top))

-- the images that are due first are of nodes that are there
pub due_there_now : (es : List Placed) (base : ℕ) (home : ℕ → Home) (last d : ℕ) (tree : DbTree) (image : NodeImage) (images : List NodeImage) → IsDue es base home last d tree (image ∷ images) → IsSome (value_at image.low (row_of tree.levels image.level))
due_there_now es base home last d tree image images is = is.due.order.0

pub lows_length : (old new : List NodeRow) → lows_of new ≡ lows_of old → length new ≡ length old
lows_length old new same = sym (lows_height new) ∙ ap (λ (l : List (List Name)). length l) same ∙ lows_height old

-- the tree that took a place
pub is_next : (before after : Forest) (db : ℕ) (next t : DbTree) → Replaces before after db (Some next) → trees_at after db ≡ Some t → next ≡ t
is_next before after db next t has there = same_Some next t (sym (replaced before after db (Some next) has) ∙ there)

own_name : (db : ℕ) (name : Name) → ((db == db) && is_eq (name_cmp name name)) ≡ true
own_name db name = ap₂ (λ (a b : Bool). a && b) (eq-eqb db db refl) (ap is_eq (name_same name))

-- what is due of another database is not of this one
pub due_here : (db : ℕ) (images : List NodeImage) → due_one db images db ≡ images
due_here db images = cond-true (db == db) images [] (eq-eqb db db refl)

pub due_there : (db : ℕ) (images : List NodeImage) (d : ℕ) → (d ≡ db → ⊥) → due_one db images d ≡ []
due_there db images d away = cond-false (db == d) images [] (ne_eqb db d (λ same. away (sym same)))

-- an image is no beginning of a checkpoint
pub image_plain : (e : Entry) → IsImage e → is_start e ≡ false
image_plain (In db node level slots) image = refl
image_plain (Bin db node slots) image = refl
image_plain e image = absurd image

pub images_plain : (m : ℕ) (p : LogPos) (images : List Entry) → AreImages images → HasNoStart (placed_by m p images)
images_plain m p [] all = tt
images_plain m p (e ∷ images) all = (image_plain e all.0, images_plain m (end_after m p (size_of e)) images all.1)

-- nor is a change
pub change_plain : (txn : TxnId) (db : ℕ) (name : Name) (value : Option (List ℕ)) → is_start (entry_for txn db name value) ≡ false
change_plain txn db name None = refl
change_plain txn db name (Some v) = refl

-- an entry of a change gives its record's data, and stands among the transaction's changes
pub change_gives : (es : List Placed) (at : ℕ) (txn : TxnId) (db : ℕ) (name : Name) (value : Option (List ℕ)) → AllByRecursion (λ p. p.0 < at) es →
    IfSome value (λ v. data_of (es ++ (at, entry_for txn db name value) ∷ []) db name at ≡ Some v)
change_gives es at txn db name None behind = tt
change_gives es at txn db name (Some v) behind =
    ap (λ (o : Option Entry). option_and_then (data_in db name) o) (entry_is_last es at (Put txn db name v) (none_named es at behind)) ∙ own_data
  where
    own_data : cond ((db == db) && is_eq (name_cmp name name)) (Some v) None ≡ Some v
    own_data = cond-true ((db == db) && is_eq (name_cmp name name)) (Some v) None (own_name db name)

pub change_counts : (es : List Placed) (base at : ℕ) (txn : TxnId) (db : ℕ) (name : Name) (value : Option (List ℕ)) → base ≤ at → at ≤ logged_at base (es ++ (at, entry_for txn db name value) ∷ []) db name txn.0
change_counts es base at txn db name value le =
    subst (λ (r : Redo). at ≤ latest_of db name (r.done ++ r.pending txn.0)) (sym (redone-in base es (at, entry_for txn db name value) le)) (by_value value)
  where
    by_value : (v : Option (List ℕ)) → at ≤ latest_of db name ((redo_entry at (entry_for txn db name v) (redone base es)).done ++ (redo_entry at (entry_for txn db name v) (redone base es)).pending txn.0)
    by_value None =
        subst (λ (t : Bool). at ≤ latest_of db name ((redone base es).done ++ cond t ((redone base es).pending txn.0 ++ unset_at at db name ∷ []) ((redone base es).pending txn.0))) (sym (eq-eqb txn.0 txn.0 refl))
        (le_trans (latest_own db name ((redone base es).pending txn.0) (unset_at at db name) (own_name db name)) (latest_behind db name (redone base es).done ((redone base es).pending txn.0 ++ unset_at at db name ∷ [])))
    by_value (Some v) =
        subst (λ (t : Bool). at ≤ latest_of db name ((redone base es).done ++ cond t ((redone base es).pending txn.0 ++ set_at at db name v ∷ []) ((redone base es).pending txn.0))) (sym (eq-eqb txn.0 txn.0 refl))
        (le_trans (latest_own db name ((redone base es).pending txn.0) (set_at at db name v) (own_name db name)) (latest_behind db name (redone base es).done ((redone base es).pending txn.0 ++ set_at at db name v ∷ [])))

-- an entry of a change is one of its transaction
pub change_own : (es : List Placed) (base at : ℕ) (txn : TxnId) (db : ℕ) (name : Name) (value : Option (List ℕ)) → base ≤ at → has_changed (es ++ (at, entry_for txn db name value) ∷ []) base txn.0 at ≡ true
change_own es base at txn db name value le =
    changed_last es base txn.0 at (entry_for txn db name value) le (by_value value)
  where
    by_value : (v : Option (List ℕ)) → is_change_by txn.0 (entry_for txn db name v) ≡ true
    by_value None = eq-eqb txn.0 txn.0 refl
    by_value (Some v) = eq-eqb txn.0 txn.0 refl

-- there is an entry
pub some_entry : (e : Entry) → e ∷ [] ≡ [] → ⊥
some_entry e none = absurd (omega (arith, ap length none))

module _ {D : Type 0} (meaning : DiskMeaning D) where
  pub image_logged : (old new : LogBuffer D) (before after : DbTree) (image : NodeImage) (at : ℕ) → GrewFitting meaning old new ((finished before.levels image).entry ∷ []) →
      at ≡ pos_lsn (placed_at (file_max_of old) (end_of old) (size_of (finished before.levels image).entry)) → IsEntry (finished before.levels image).entry → is_start (finished before.levels image).entry ≡ false → HasNoted image at before after →
      GrewTree meaning old new before after (image ∷ []) [] ((finished before.levels image).entry ∷ [])
  image_logged old new before after image at grew at_is entry plain h = record {
    fitting = grew;
    fits = λ home last d rest log base has begun is. (let a = is_appended meaning old new (finished before.levels image).entry log base at grew at_is has begun in
        let there = due_there_now (placed log) base home last d before image rest is.0 in
        subst (λ (es : List Placed). IsFitDue home last d after rest es base) (sym a.is) (
          image_noted (placed log) base home last d before after image rest at h a.behind a.begun entry is.0,
          image_notes (placed log) base at (finished before.levels image).entry before.levels after.levels image rest a.behind a.begun plain (lows_length before.levels after.levels (h.noted there).lows) (h.up there) is.1,
        ));
    still = λ none. absurd (some_entry (finished before.levels image).entry none);
  }

  -- the same of the image as it was finished
  pub logs_image : (old new : LogBuffer D) (before after : DbTree) (image done : NodeImage) (at : ℕ) → done ≡ finished before.levels image → IsLoggable done.entry → size_of done.entry ≡ size_of image.entry →
      GrewFitting meaning old new (done.entry ∷ []) → at ≡ pos_lsn (placed_at (file_max_of old) (end_of old) (size_of done.entry)) → HasNoted done at before after →
      LogsImage meaning image old new before after
  logs_image old new before after image done at is =
      subst (λ (i : NodeImage). IsLoggable i.entry → size_of i.entry ≡ size_of image.entry → GrewFitting meaning old new (i.entry ∷ []) → at ≡ pos_lsn (placed_at (file_max_of old) (end_of old) (size_of i.entry)) →
      HasNoted i at before after → LogsImage meaning image old new before after) (sym is)
      (λ loggable size grew at_is h. (
        (finished before.levels image).entry,
        loggable.1,
        size,
        image_logged old new before after image at grew at_is loggable.0 (image_plain (finished before.levels image).entry loggable.1) (record { cells = h.cells; parts = h.parts; noted = h.noted; up = h.up; exact = h.exact; keeps = h.keeps }),
      ))

  -- ---- the images of a slot

  pub room_logged : (old new : LogBuffer D) (before after : Forest) (db : ℕ) (tree next : DbTree) (images : List NodeImage) (entries : List Entry) → Some tree ≡ get nat_cmp before db → Replaces before after db (Some next) →
      next.cells ≡ tree.cells → AreImages entries → GrewTree meaning old new tree next images [] entries → GrewSlot meaning old new before after db images entries
  room_logged old new before after db tree next images entries was has cells plain grew due = record { fitting = grew.fitting; fits = λ last log base hl begun f. fits last log base hl begun f; still = λ none es base last f. still none es base last f } where
    more : List Placed
    more = placed_by (file_max_of old) (end_of old) entries

    still : entries ≡ [] → (es : List Placed) (base last : ℕ) → ForestDue es base last (trees_at before) (λ d. due_one db images d ++ due d) → ForestDue es base last (trees_at after) due
    still none es base last f =
        (forest_here es base last last db (trees_at before) (trees_at after) (λ d. due_one db images d ++ due d) due f.home f (λ number within. refl) (le_refl last)
        (λ d away. others_away before after db (Some next) has d away) (λ d away. sym (ap (λ (l : List NodeImage). l ++ due d) (due_there db images d away)))
        (λ t there. subst (λ (u : DbTree). FitsDue es base f.home last db u (due db)) (is_next before after db next t has there)
        (one none es base last f).0)
        (λ t there. subst (λ (u : DbTree). AreLogged es base db u.cells) (is_next before after db next t has there)
        (subst (λ (l : List (Name × Cell)). AreLogged es base db l) (sym cells) (f.writes db tree (sym was))))
        (λ t there. subst (λ (u : DbTree). HasNotes es base (due db) u.levels) (is_next before after db next t has there) (one none es base last f).1)).0
      where
        one : entries ≡ [] → (es : List Placed) (base last : ℕ) (f : ForestDue es base last (trees_at before) (λ d. due_one db images d ++ due d)) → IsFitDue f.home last db next (due db) es base
        one none es base last f =
            grew.still none es base f.home last db (due db)
            (subst (λ (l : List NodeImage). IsFitDue f.home last db tree (l ++ due db) es base) (due_here db images) (f.fits db tree (sym was), f.notes db tree (sym was)))

    fits : (last : ℕ) (log : Log) (base : ℕ) → HasLog meaning.observable (now (meaning.history (disk_of old))) old log → base ≤ pos_lsn (end_of old) → ForestDue (placed log) base last (trees_at before) (λ d. due_one db images d ++ due d) →
        ForestDue (placed (longer old entries log)) base last (trees_at after) due
    fits last log base hl begun f =
        subst (λ (es : List Placed). ForestDue es base last (trees_at after) due) (sym longer_is)
        ((forest_step (placed log) more base last last db (trees_at before) (trees_at after) (λ d. due_one db images d ++ due d) due f.home f (λ number within. refl) (le_refl last)
        (λ d away. others_away before after db (Some next) has d away) (λ d away. sym (ap (λ (l : List NodeImage). l ++ due d) (due_there db images d away)))
        (λ t there. subst (λ (u : DbTree). FitsDue (placed log ++ more) base f.home last db u (due db)) (is_next before after db next t has there) here.0)
        (λ t there. subst (λ (u : DbTree). AreLogged (placed log ++ more) base db u.cells) (is_next before after db next t has there)
        (subst (λ (l : List (Name × Cell)). AreLogged (placed log ++ more) base db l) (sym cells) (writes_stay (placed log) more base db tree.cells (f.writes db tree (sym was)))))
        (images_plain (file_max_of old) (end_of old) entries plain)
        (λ t there. subst (λ (u : DbTree). HasNotes (placed log ++ more) base (due db) u.levels) (is_next before after db next t has there) here.1)).0)
      where
        longer_is : placed (longer old entries log) ≡ placed log ++ more
        longer_is = more_placed meaning old entries log hl

        here : IsFitDue f.home last db next (due db) (placed log ++ more) base
        here =
            subst (λ (es : List Placed). IsFitDue f.home last db next (due db) es base) longer_is
            (grew.fits f.home last db (due db) log base hl begun
            (subst (λ (l : List NodeImage). IsFitDue f.home last db tree (l ++ due db) (placed log) base) (due_here db images) (f.fits db tree (sym was), f.notes db tree (sym was))))

  -- ---- a change

  pub change_written : (old new : LogBuffer D) (before after : Forest) (txn : TxnId) (db : ℕ) (name : Name) (value : Option (List ℕ)) (write : Box Write Global) (at : ℕ) →
      GrewFitting meaning old new (entry_for txn db name value ∷ []) → at ≡ pos_lsn (placed_at (file_max_of old) (end_of old) (size_of (entry_for txn db name value))) →
      IsStepIn db (HasWritten name write) before after → write.value ≡ record { txn = txn; at = at; value = value } → (due : ℕ → List NodeImage) →
      GrewForest meaning old new before after due due (entry_for txn db name value ∷ [])
  change_written old new before after txn db name value write at grew at_is s write_is due = record { fitting = grew; fits = λ last log base hl begun f. fits last log base hl begun f; still = λ none. absurd (some_entry (entry_for txn db name value) none) } where
    entry : Entry
    entry = entry_for txn db name value

    fits : (last : ℕ) (log : Log) (base : ℕ) → HasLog meaning.observable (now (meaning.history (disk_of old))) old log → base ≤ pos_lsn (end_of old) → ForestDue (placed log) base last (trees_at before) due →
        ForestDue (placed (longer old (entry ∷ []) log)) base last (trees_at after) due
    fits last log base hl begun f =
        let a = is_appended meaning old new entry log base at grew at_is hl begun in
        let es : List Placed = placed log ++ (at, entry) ∷ [] in
        let was = f.fits db s.tree s.was in
        subst (λ (l : List Placed). ForestDue l base last (trees_at after) due) (sym a.is)
        ((forest_step (placed log) ((at, entry) ∷ []) base last last db (trees_at before) (trees_at after) due due f.home f (λ number within. refl) (le_refl last)
        (λ d away. others_away before after db (Some s.next) s.has d away) (λ d away. refl)
        (λ t there. subst (λ (u : DbTree). FitsDue es base f.home last db u (due db)) (is_next before after db s.next t s.has there)
        (written_fits es base f.home last db name write s.tree s.next (due db) s.step
        (subst (λ (w : Write). IfSome w.value (λ v. data_of es db name w.at ≡ Some v)) (sym write_is) (change_gives (placed log) at txn db name value a.behind))
        (fits_stay (placed log) ((at, entry) ∷ []) base f.home f.home last last db s.tree (due db) (λ number within. refl) (le_refl last) was)))
        (λ t there. subst (λ (u : DbTree). AreLogged es base db u.cells) (is_next before after db s.next t s.has there)
        (written_logged es base db name write s.tree s.next s.step
        (subst (λ (w : Write). IsLoggedWrite es base db name w) (sym write_is)
        (record { upto = change_counts (placed log) base at txn db name value a.begun; own = change_own (placed log) base at txn db name value a.begun }))
        (writes_stay (placed log) ((at, entry) ∷ []) base db s.tree.cells (f.writes db s.tree s.was))))
        (change_plain txn db name value, tt)
        (λ t there. subst (λ (u : DbTree). HasNotes es base (due db) u.levels) (is_next before after db s.next t s.has there)
        (subst (λ (rows : List NodeRow). HasNotes es base (due db) rows) (sym s.step.levels)
        (notes_stay (placed log) ((at, entry) ∷ []) base (due db) s.tree.levels (change_plain txn db name value, tt) (f.notes db s.tree s.was))))).0)

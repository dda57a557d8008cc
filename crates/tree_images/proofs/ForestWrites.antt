-- One tree that fits its log, and its cells' changes, while a cell is set.
use Rattle.std.proofs.Common.{◌≡◌, ◌≤◌, ◌⊎◌, ◌++◌, ℕ, zero, suc, List, [], ◌∷◌, Bool, true, false, cond, Option, None, Some, option_map, refl, ap, sym, subst, ◌∙◌, inl, inr, is_eq, filter, map}
use Rattle.std.specs.Prelude.{IfSome, Box}
use Rattle.std.specs.Global.{Global}
use Rattle.std.specs.List.{AllByRecursion}
use Rattle.std.specs.Map.{keys_of, set_value}
use Rattle.std.specs.BTreeMap.{is_at}
use Rattle.std.proofs.lemmas.Map.{keys-set_value}
use Rattle.std.proofs.lemmas.Option.{none-some, same_Some}
use Rattle.std.proofs.Math.Nat.{le_trans}
use Rattle.std.specs.List.Sorted.{IsStrictlySortedBy}
use Rattle.node_core.specs.Changes.{is_committed}
use Rattle.je_order.specs.Edges.{is_between}
use Rattle.je_order.specs.Edges.Edge.{At}
use Rattle.je_order.specs.Order.{name_cmp}
use Rattle.je_order.specs.declared.name.Name.{Name}
use Rattle.je_order.proofs.Lists.{all_weaker}
use Rattle.log_entry.specs.declared.record_slot.RecordSlot.{RecordSlot}
use Rattle.log_entry.specs.declared.entry.Entry.TheVariants.{Bin}
use Rattle.record_map.specs.declared.cell.Cell.{Cell}
use Rattle.record_map.specs.declared.write.Write.{Write}
use Rattle.record_map.specs.Cells.{value_at, upper_edge, with_write, with_committed, committed, committed_by, IsRising}
use Rattle.record_map.proofs.NameLaws.{same_or_other, same_gets, other_stays}
use Rattle.tree_nodes.specs.Nodes.{NodeRow, least, low_behind}
use Rattle.tree_nodes.specs.Levels.{row_of}
use Rattle.log_trees.specs.Trees.{data_of}
use Rattle.log_trees.specs.Sound.{Home}
use Rattle.db_tree.specs.declared.node_image.NodeImage.{NodeImage}
use Rattle.db_tree.specs.declared.tree.DbTree.{DbTree}
use Rattle.db_tree.specs.Content.{record_slots, slot_for}
use Rattle.db_tree.specs.Images.{Placed}
use Rattle.db_tree.specs.NodeImages.{node_entry, node_of, number_of, IsNodeImage}
use Rattle.db_tree.specs.Dirty.{IsCommitAt, IsCommittedOver}
use Rattle.db_tree.specs.NodeSteps.{written_lsn}
use Rattle.db_tree.specs.Trees.{given_up}
use Rattle.tree_images.specs.Sound.{IsNumber}
use Rattle.db_tree.specs.Dirty.{AreExact}
use Rattle.tree_images.proofs.Exact.{new_exact}
use Rattle.tree_images.specs.Fits.{AreImaged, AreRecorded, IsRecorded}
use Rattle.tree_images.specs.Forest.{latest_at, logged_at, AreLogged, FitsDue, IsLoggedWrite}
use Rattle.tree_images.specs.Laws.{HasSet}
use Rattle.tree_images.specs.LogLaws.{AreDue}
use Rattle.tree_images.specs.Notes.{HasNotes, NotesHold, has_begun, has_changed, is_late}
use Rattle.tree_images.specs.TreeSteps.{HasWritten, HasCommitted, HasGivenUp, IsNewTree}
use Rattle.tree_images.proofs.NodeSteps.{same_imaged, new_imaged}
use Rattle.tree_images.proofs.NotedNodes.{notes_marked, notes_settled}
use Rattle.tree_images.proofs.Recorded.{cells_are_set, write_recorded, committed_recorded, given_up_recorded}

-- ---- what images show of cells

-- cells as they are after a name's one changed, where its version did not
module _ (name : Name) (cell next : Cell) (same : next.version ≡ cell.version) where
  slots_same : (p : Name → Bool) (cells : List (Name × Cell)) → value_at name cells ≡ Some cell →
      record_slots (filter (λ (e : Name × Cell). p e.0) (set_value (is_at (name_cmp name)) cells next)) ≡ record_slots (filter (λ (e : Name × Cell). p e.0) cells)
  slots_same p [] there = refl
  slots_same p (e ∷ cells) there = by_test (is_at (name_cmp name) e.0) there (slots_same p cells)
    where
      first : (t : Bool) → e.1 ≡ cell → record_slots (cond t ((e.0, next) ∷ filter (λ (f : Name × Cell). p f.0) cells) (filter (λ (f : Name × Cell). p f.0) cells)) ≡ record_slots (cond t (e ∷ filter (λ (f : Name × Cell). p f.0) cells) (filter (λ (f : Name × Cell). p f.0) cells))
      first true is = ap (λ v. slot_for e.0 v ++ record_slots (filter (λ (f : Name × Cell). p f.0) cells)) (same ∙ sym (ap (λ (c : Cell). c.version) is))
      first false is = refl

      later : (t : Bool) (a b : List (Name × Cell)) → record_slots a ≡ record_slots b → record_slots (cond t (e ∷ a) a) ≡ record_slots (cond t (e ∷ b) b)
      later true a b h = ap (λ (l : List RecordSlot). slot_for e.0 e.1.version ++ l) h
      later false a b h = h

      by_test : (t : Bool) → cond t (Some e.1) (value_at name cells) ≡ Some cell →
          (value_at name cells ≡ Some cell → record_slots (filter (λ (f : Name × Cell). p f.0) (set_value (is_at (name_cmp name)) cells next)) ≡ record_slots (filter (λ (f : Name × Cell). p f.0) cells)) →
          record_slots (filter (λ (f : Name × Cell). p f.0) (cond t ((e.0, next) ∷ cells) (e ∷ set_value (is_at (name_cmp name)) cells next))) ≡ record_slots (cond (p e.0) (e ∷ filter (λ (f : Name × Cell). p f.0) cells) (filter (λ (f : Name × Cell). p f.0) cells))
      by_test true found rest = first (p e.0) (same_Some e.1 cell found)
      by_test false found rest = later (p e.0) (filter (λ (f : Name × Cell). p f.0) (set_value (is_at (name_cmp name)) cells next)) (filter (λ (f : Name × Cell). p f.0) cells) (rest found)

  entry_same : (d level : ℕ) (low : Name) (rows : List NodeRow) (cells : List (Name × Cell)) → value_at name cells ≡ Some cell →
      node_entry d level low rows cells ≡ node_entry d level low rows (set_value (is_at (name_cmp name)) cells next)
  entry_same d zero low rows cells there =
      ap (Bin d (number_of rows zero low)) (sym (slots_same (λ x. is_between (At low) (upper_edge (low_behind low (row_of rows 0))) x) cells there))
  entry_same d (suc k) low rows cells there = refl

  images_same : (d : ℕ) (rows : List NodeRow) (cells : List (Name × Cell)) (images : List NodeImage) → value_at name cells ≡ Some cell → AllByRecursion (IsNodeImage d rows cells) images →
      AllByRecursion (IsNodeImage d rows (set_value (is_at (name_cmp name)) cells next)) images
  images_same d rows cells images there made =
      all_weaker (IsNodeImage d rows cells) (IsNodeImage d rows (set_value (is_at (name_cmp name)) cells next))
      (λ image is. record { entry = is.entry ∙ entry_same d image.level image.low rows cells there; children = is.children }) images made

-- ---- changes

-- changes of cells are logged still where a name's cell is set to one whose change is
pub logged_set : (es : Placed) (base d : ℕ) (old new : List (Name × Cell)) (name : Name) (o : Option Cell) → HasSet old new name o →
    IfSome o (λ cell. IfSome cell.write (λ w. IsLoggedWrite es base d name w.value)) → AreLogged es base d old → AreLogged es base d new
logged_set es base d old new name o has set all x cell there = by_name (same_or_other name x)
  where
    by_option : (p : Option Cell) → IfSome p (λ c. IfSome c.write (λ w. IsLoggedWrite es base d name w.value)) → p ≡ Some cell → IfSome cell.write (λ w. IsLoggedWrite es base d name w.value)
    by_option None h is = absurd (none-some cell is)
    by_option (Some c) h is = subst (λ (e : Cell). IfSome e.write (λ w. IsLoggedWrite es base d name w.value)) (same_Some c cell is) h

    by_name : (name ≡ x) ⊎ (is_eq (name_cmp name x) ≡ false) → IfSome cell.write (λ w. IsLoggedWrite es base d x w.value)
    by_name (inl same) =
        subst (λ (y : Name). IfSome cell.write (λ w. IsLoggedWrite es base d y w.value)) same
        (by_option o set (sym (same_gets name o (value_at name old)) ∙ sym (has name) ∙ ap (λ (y : Name). value_at y new) same ∙ there))
    by_name (inr other) = all x cell (sym (other_stays name x o (value_at x old) other) ∙ sym (has x) ∙ there)

-- ---- a tree with a change more

-- the name's cell is recorded
written_cell : (es : Placed) (d : ℕ) (x : Name) (write : Box Write Global) (cells : List (Name × Cell)) → AreRecorded es d cells →
    IfSome write.value.value (λ v. data_of es d x write.value.at ≡ Some v) → IfSome (option_map (with_write (Some write)) (value_at x cells)) (IsRecorded es d x)
written_cell es d x write cells all stands = by_cell (value_at x cells) refl
  where
    by_cell : (o : Option Cell) → value_at x cells ≡ o → IfSome (option_map (with_write (Some write)) o) (IsRecorded es d x)
    by_cell None there = tt
    by_cell (Some cell) there = write_recorded es d x cell write stands (all x cell there)

pub written_recorded : (es : Placed) (d : ℕ) (x : Name) (write : Box Write Global) (old new : DbTree) → HasWritten x write old new →
    IfSome write.value.value (λ v. data_of es d x write.value.at ≡ Some v) → AreRecorded es d old.cells → AreRecorded es d new.cells
written_recorded es d x write old new h stands all =
    cells_are_set es d old.cells new.cells x (option_map (with_write (Some write)) (value_at x old.cells)) h.set (written_cell es d x write old.cells all stands) all

-- it fits as it did, but for the same images
pub written_fits : (es : Placed) (base : ℕ) (home : ℕ → Home) (last d : ℕ) (x : Name) (write : Box Write Global) (old new : DbTree) (images : List NodeImage) → HasWritten x write old new →
    IfSome write.value.value (λ v. data_of es d x write.value.at ≡ Some v) → FitsDue es base home last d old images → FitsDue es base home last d new images
written_fits es base home last d x write old new [] h stands fits = record {
  tree = h.keeps es base (latest_at base es d) fits.tree;
  imaged = subst (λ (rows : List NodeRow). AreImaged es home last d [] rows) (sym h.levels) fits.imaged;
  recorded = written_recorded es d x write old new h stands fits.recorded;
  exact = h.exact [] fits.exact;
}
written_fits es base home last d x write old new (image ∷ images) h stands is =
    let due = is.due in
    record {
      before = is.before;
      due = subst (λ (rows : List NodeRow). AreDue es home last d is.before rows new.cells (image ∷ images)) (sym h.levels) (record {
        parts = due.parts;
        rising = rising due.rising;
        imaged = due.imaged;
        recorded = written_recorded es d x write old new h stands due.recorded;
        exact = subst (λ (rows : List NodeRow). AreExact (map node_of (image ∷ images)) rows new.cells) h.levels (h.exact (map node_of (image ∷ images)) due.exact);
        order = due.order;
        made = subst (λ (cells : List (Name × Cell)). AllByRecursion (IsNodeImage d is.before cells) (image ∷ images)) (sym h.list)
            (images_same x h.cell (with_write (Some write) h.cell) refl d is.before old.cells (image ∷ images) h.there due.made);
        lows = due.lows;
        numbers = due.numbers;
      });
      is_tree = h.keeps es base (latest_at base es d) is.is_tree;
    }
  where
    rising : IsRising old.cells → IsRising new.cells
    rising up =
        subst (λ (keys : List Name). IsStrictlySortedBy name_cmp keys)
        (sym (ap (λ (cells : List (Name × Cell)). keys_of cells) h.list ∙ keys-set_value (is_at (name_cmp x)) old.cells (with_write (Some write) h.cell))) up

-- and its changes are logged
pub written_logged : (es : Placed) (base d : ℕ) (x : Name) (write : Box Write Global) (old new : DbTree) → HasWritten x write old new → IsLoggedWrite es base d x write.value →
    AreLogged es base d old.cells → AreLogged es base d new.cells
written_logged es base d x write old new h le = logged_set es base d old.cells new.cells x (option_map (with_write (Some write)) (value_at x old.cells)) h.set (by_cell (value_at x old.cells))
  where
    by_cell : (o : Option Cell) → IfSome (option_map (with_write (Some write)) o) (λ cell. IfSome cell.write (λ w. IsLoggedWrite es base d x w.value))
    by_cell None = tt
    by_cell (Some cell) = le

-- ---- a tree with a change committed

-- it fits where the log has the change committed
pub committed_fits : (es : Placed) (base : ℕ) (home : ℕ → Home) (last d : ℕ) (x : Name) (at : ℕ) (old new : DbTree) → HasCommitted x at old new →
    IfSome (written_lsn (value_at x old.cells)) (λ from. from ≤ latest_at base es d x) → IsCommitAt es at → FitsDue es base home last d old [] → FitsDue es base home last d new []
committed_fits es base home last d x at old new h le commit fits = record {
  tree = h.keeps es base (latest_at base es d) le commit fits.tree;
  imaged = same_imaged es home last d [] old.levels new.levels h.nodes fits.imaged;
  recorded = cells_are_set es d old.cells new.cells x (option_map (committed at h.last) (value_at x old.cells)) h.set (by_cell (value_at x old.cells) refl) fits.recorded;
  exact = h.exact [] fits.exact;
}
  where
    by_cell : (o : Option Cell) → value_at x old.cells ≡ o → IfSome (option_map (committed at h.last) o) (IsRecorded es d x)
    by_cell None there = tt
    by_cell (Some cell) there = committed_recorded es d x cell at h.last (fits.recorded x cell there)

pub committed_logged : (es : Placed) (base d : ℕ) (x : Name) (at : ℕ) (old new : DbTree) → HasCommitted x at old new → AreLogged es base d old.cells → AreLogged es base d new.cells
committed_logged es base d x at old new h = logged_set es base d old.cells new.cells x (option_map (committed at h.last) (value_at x old.cells)) h.set (by_cell (value_at x old.cells))
  where
    IsFine : Cell → Type 0
    IsFine cell = IfSome cell.write (λ w. IsLoggedWrite es base d x w.value)

    by_value : (cell : Cell) (lsn : ℕ) (v : Option (List ℕ)) → IsFine (with_committed lsn v at h.last (with_write None cell))
    by_value cell lsn (Some v) = tt
    by_value cell lsn None = tt

    by_write : (cell : Cell) (o : Option (Box Write Global)) → cell.write ≡ o → IsFine (committed_by (option_map (λ w. w.value) o) at h.last cell)
    by_write cell None is = subst (λ (o : Option (Box Write Global)). IfSome o (λ w. IsLoggedWrite es base d x w.value)) (sym is) tt
    by_write cell (Some w) is = by_value cell w.value.at w.value.value

    by_cell : (o : Option Cell) → IfSome (option_map (committed at h.last) o) IsFine
    by_cell None = tt
    by_cell (Some cell) = by_write cell cell.write refl

-- where a name's change is committed by an entry, the log has it committed
pub commit_is_latest : (es later : Placed) (base d : ℕ) (x : Name) (t : ℕ) (cells : List (Name × Cell)) → AreLogged es base d cells → ((cell : Cell) → value_at x cells ≡ Some cell → IfSome cell.write (λ w. w.value.txn.0 ≡ t)) →
    logged_at base es d x t ≤ latest_at base later d x → IfSome (written_lsn (value_at x cells)) (λ from. from ≤ latest_at base later d x)
commit_is_latest es later base d x t cells all own le = by_cell (value_at x cells) refl
  where
    by_write : (o : Option (Box Write Global)) → IfSome o (λ w. IsLoggedWrite es base d x w.value) → IfSome o (λ w. w.value.txn.0 ≡ t) → IfSome (option_map (λ w. w.value.at) o) (λ from. from ≤ latest_at base later d x)
    by_write None logged is = tt
    by_write (Some w) logged is = le_trans (subst (λ (u : ℕ). w.value.at ≤ logged_at base es d x u) is logged.upto) le

    by_cell : (o : Option Cell) → value_at x cells ≡ o → IfSome (written_lsn o) (λ from. from ≤ latest_at base later d x)
    by_cell None there = tt
    by_cell (Some cell) there = by_write cell.write (all x cell there) (own cell there)

-- what a checkpoint noted is noted still: the BIN's mark is that of a change whose transaction committed behind the checkpoint's beginning
pub committed_notes : (es : Placed) (base d : ℕ) (x : Name) (t at : ℕ) (old new : DbTree) → HasCommitted x at old new → AreLogged es base d old.cells →
    ((cell : Cell) → value_at x old.cells ≡ Some cell → IfSome cell.write (λ w. w.value.txn.0 ≡ t)) →
    ((start : ℕ) → has_begun es base start ≡ true → (lsn : ℕ) → has_changed es base t lsn ≡ true → is_late es base start lsn ≡ true) → HasNotes es base [] old.levels → HasNotes es base [] new.levels
committed_notes es base d x t at old new h all own late notes start begun = by_written (written_lsn (value_at x old.cells)) (by_cell (value_at x old.cells) refl) h.marked
  where
    by_write : (o : Option (Box Write Global)) → IfSome o (λ w. IsLoggedWrite es base d x w.value) → IfSome o (λ w. w.value.txn.0 ≡ t) → IfSome (option_map (λ w. w.value.at) o) (λ from. is_late es base start from ≡ true)
    by_write None logged is = tt
    by_write (Some w) logged is = late start begun w.value.at (subst (λ (u : ℕ). has_changed es base u w.value.at ≡ true) is logged.own)

    by_cell : (o : Option Cell) → value_at x old.cells ≡ o → IfSome (written_lsn o) (λ from. is_late es base start from ≡ true)
    by_cell None there = tt
    by_cell (Some cell) there = by_write cell.write (all x cell there) (own cell there)

    by_written : (o : Option ℕ) → IfSome o (λ from. is_late es base start from ≡ true) → IsCommittedOver o new.cells old.levels new.levels x → NotesHold (λ level low lsn. is_late es base start lsn) new.levels
    by_written None passed same = subst (NotesHold (λ level low lsn. is_late es base start lsn)) (sym same) (notes start begun)
    by_written (Some from) passed marked =
        notes_settled (λ level low lsn. is_late es base start lsn) new.cells marked.0 new.levels x marked.2
        (notes_marked (λ level low lsn. is_late es base start lsn) old.levels marked.0 0 x from marked.1 (λ low. passed) (notes start begun))

-- ---- a tree with a change given up

pub given_up_fits : (es : Placed) (base : ℕ) (home : ℕ → Home) (last d : ℕ) (x : Name) (old new : DbTree) → HasGivenUp x old new → FitsDue es base home last d old [] → FitsDue es base home last d new []
given_up_fits es base home last d x old new h fits = record {
  tree = h.keeps es base (latest_at base es d) fits.tree;
  imaged = subst (λ (rows : List NodeRow). AreImaged es home last d [] rows) (sym h.levels) fits.imaged;
  recorded = cells_are_set es d old.cells new.cells x (given_up (value_at x old.cells)) h.set (given_up_recorded es d x (value_at x old.cells) (by_cell (value_at x old.cells) refl)) fits.recorded;
  exact = h.exact es base (latest_at base es d) fits.tree [] fits.exact;
}
  where
    by_cell : (o : Option Cell) → value_at x old.cells ≡ o → IfSome o (IsRecorded es d x)
    by_cell None there = tt
    by_cell (Some cell) there = fits.recorded x cell there

pub given_up_logged : (es : Placed) (base d : ℕ) (x : Name) (old new : DbTree) → HasGivenUp x old new → AreLogged es base d old.cells → AreLogged es base d new.cells
given_up_logged es base d x old new h = logged_set es base d old.cells new.cells x (given_up (value_at x old.cells)) h.set (by_cell (value_at x old.cells))
  where
    by_test : (t : Bool) (cell : Cell) → IfSome (cond t (Some (with_write None cell)) None) (λ c. IfSome c.write (λ w. IsLoggedWrite es base d x w.value))
    by_test true cell = tt
    by_test false cell = tt

    by_cell : (o : Option Cell) → IfSome (given_up o) (λ c. IfSome c.write (λ w. IsLoggedWrite es base d x w.value))
    by_cell None = tt
    by_cell (Some cell) = by_test (is_committed cell.version) cell

-- ---- a new tree

pub new_fits : (es : Placed) (base : ℕ) (home : ℕ → Home) (last d number : ℕ) (tree : DbTree) → IsNewTree number tree → IsNumber home last d number 0 least → FitsDue es base home last d tree []
new_fits es base home last d number tree h own = record {
  tree = h.is_tree es base (latest_at base es d);
  imaged = new_imaged es home last d number tree.levels h.root own;
  recorded = subst (λ (cells : List (Name × Cell)). AreRecorded es d cells) (sym h.cells) (λ x cell there. absurd (none-some cell there));
  exact = new_exact [] number tree.levels tree.cells h.root;
}

pub new_logged : (es : Placed) (base d number : ℕ) (tree : DbTree) → IsNewTree number tree → AreLogged es base d tree.cells
new_logged es base d number tree h = subst (λ (cells : List (Name × Cell)). AreLogged es base d cells) (sym h.cells) (λ x cell there. absurd (none-some cell there))

-- What calls on the trees of an environment do to trees that fit their log.
use Rattle.std.proofs.Common.{◌≡◌, ◌<◌, ◌≤◌, ◌+◌, ◌*◌, ◌==◌, ◌&&◌, ◌++◌, ℕ, Bool, true, false, cond, List, [], ◌∷◌, Option, None, Some, option_map, length, refl, ap, ap₂, sym, subst, ◌∙◌, inl, inr, arith, is_eq}
use Rattle.std.specs.Prelude.{IfSome, Box}
use Rattle.std.specs.Global.{Global}
use Rattle.std.specs.List.{AllByRecursion}
use Rattle.std.specs.Ordering.{nat_cmp}
use Rattle.std.specs.BTreeMap.{get}
use Rattle.std.proofs.lemmas.Bool.{eq-eqb, eqb-true, cond-true}
use Rattle.std.proofs.lemmas.List.{append-nil}
use Rattle.std.proofs.lemmas.Option.{none-some}
use Rattle.std.proofs.Math.Nat.{le_refl}
use Rattle.je_disk.specs.DiskMeaning.{DiskMeaning}
use Rattle.je_order.specs.Order.{name_cmp}
use Rattle.je_order.specs.declared.name.Name.{Name}
use Rattle.je_order.specs.declared.txn_id.TxnId.{TxnId}
use Rattle.log_entry.specs.Encoding.{size_of}
use Rattle.log_entry.specs.declared.entry.Entry.{Entry}
use Rattle.log_entry.specs.declared.entry.Entry.TheVariants.{Commit}
use Rattle.log_buffer.specs.declared.buffer.LogBuffer.{LogBuffer}
use Rattle.log_buffer.specs.Buffer.{end_of, file_max_of, IsUnchanged}
use Rattle.log_buffer.specs.declared.log_pos.LogPos.{LogPos}
use Rattle.log_buffer.specs.Flip.{pos_lsn, placed_at}
use Rattle.log_buffer.specs.Laws.{placed_by}
use Rattle.record_map.specs.declared.cell.Cell.{Cell}
use Rattle.record_map.specs.declared.write.Write.{Write}
use Rattle.record_map.specs.Cells.{value_at}
use Rattle.tree_nodes.specs.Nodes.{NodeRow}
use Rattle.record_tree.specs.declared.tree_change.TreeChange.{TreeChange}
use Rattle.record_tree.specs.declared.tree_name.TreeName.{TreeName}
use Rattle.record_tree.specs.Logged.{first_change, LogsChanges, most_entries}
use Rattle.record_tree.specs.Occupied.{Occupied, AreFewNew, IsFreeFor, if_occupied, write_in, value_after, after_commit, committed_value}
use Rattle.log_trees.specs.Placed.{Placed, placed}
use Rattle.log_trees.specs.Changes.{LoggedChange}
use Rattle.log_meaning.specs.Redo.{Redo, redone, redo_entry}
use Rattle.log_meaning.proofs.RedoLaws.{redone-in}
use Rattle.db_tree.specs.declared.slot_room.SlotRoom.{SlotRoom}
use Rattle.db_tree.specs.declared.tree.DbTree.{DbTree}
use Rattle.db_tree.specs.Dirty.{IsCommitAt}
use Rattle.db_tree.specs.Images.{IsBin, entry_at}
use Rattle.db_tree.specs.Seen.{occupied, seen}
use Rattle.db_tree.proofs.Seen.{seen_at}
use Rattle.tree_images.specs.Forest.{latest_at, latest_of, logged_at, AreLogged, FitsDue, ForestDue, ForestFits}
use Rattle.tree_images.specs.Notes.{HasNotes, has_begun, has_changed, is_late}
use Rattle.tree_images.specs.TreeSteps.{HasCommitted, HasGivenUp}
use Rattle.tree_images.proofs.ForestSteps.{forest_here, forest_same, forest_stays}
use Rattle.tree_images.proofs.ForestWrites.{commit_is_latest, committed_fits, committed_logged, committed_notes, given_up_fits, given_up_logged}
use Rattle.tree_images.proofs.LateMarks.{begun_back, begun_before, late_committed}
use Rattle.in_tree.specs.declared.logged_trees.LogTrees.{LogTrees}
use Rattle.in_tree.specs.Carrying.{carries_then}
use Rattle.in_tree.specs.Fitting.{fitting_none, fitting_then, fitting_unchanged}
use Rattle.in_tree.specs.Forest.{Forest, cells_of, cells_seen, HasChange, IsSameForest, MayStepIn, MakesSteps, CommitsName, GivesUpName}
use Rattle.in_tree.specs.Growing.{trees_at, none_due, IsForestDue, GrewForest, TreesGrew}
use Rattle.in_tree.specs.Logging.{first_in}
use Rattle.in_tree.specs.Limits.{GrewFitting}
use Rattle.in_tree.specs.Observed.{trees_of, last_node_of}
use Rattle.in_tree.specs.Placing.{due_of}
use Rattle.in_tree.specs.Ready.{IsReady}
use Rattle.in_tree.proofs.Appending.{is_appended}
use Rattle.in_tree.proofs.DueLogging.{is_next, some_entry}
use Rattle.in_tree.proofs.Forests.{others_away}

-- ---- a Commit

-- behind a transaction's Commit all that it changed is committed
commit_latest : (es : List Placed) (base at : ℕ) (t : TxnId) (d : ℕ) (x : Name) → base ≤ at → logged_at base (es ++ (at, Commit t) ∷ []) d x t.0 ≤ latest_at base (es ++ (at, Commit t) ∷ []) d x
commit_latest es base at t d x le = subst (λ (r : Redo). latest_of d x (r.done ++ r.pending t.0) ≤ latest_of d x r.done) (sym (redone-in base es (at, Commit t) le)) none_waits
  where
    r : Redo
    r = redo_entry at (Commit t) (redone base es)

    none_waits : latest_of d x (r.done ++ r.pending t.0) ≤ latest_of d x r.done
    none_waits =
        subst (λ (l : List LoggedChange). latest_of d x (r.done ++ l) ≤ latest_of d x r.done) (sym (cond-true (t.0 == t.0) [] ((redone base es).pending t.0) (eq-eqb t.0 t.0 refl)))
        (subst (λ (l : List LoggedChange). latest_of d x l ≤ latest_of d x r.done) (sym (append-nil r.done)) (le_refl (latest_of d x r.done)))

-- no other transaction has a change of these names
abbrev AreFree : TxnId → Forest → List TreeName → Type 0
AreFree t forest names = AllByRecursion (λ n. IsFreeFor t (write_in (value_at n.name (cells_seen forest n.db)))) names

-- a cell's change is seen
written_seen : (v : Option (List ℕ)) (o : Option Write) (w : Write) → o ≡ Some w → write_in (if_occupied (record { value = v; write = o })) ≡ Some w
written_seen v o w is = subst (λ (p : Option Write). write_in (if_occupied (record { value = v; write = p })) ≡ Some w) (sym is) (by_value v)
  where
    by_value : (u : Option (List ℕ)) → write_in (if_occupied (record { value = u; write = Some w })) ≡ Some w
    by_value None = refl
    by_value (Some x) = refl

-- a free name's cell has a change of the transaction's own, or none
free_cell : (t : TxnId) (cell : Cell) → IsFreeFor t (write_in (seen (Some cell))) → IfSome cell.write (λ w. w.value.txn.0 ≡ t.0)
free_cell t cell free = by_write cell.write refl
  where
    by_write : (o : Option (Box Write Global)) → cell.write ≡ o → IfSome o (λ w. w.value.txn.0 ≡ t.0)
    by_write None is = tt
    by_write (Some w) is =
        ap (λ (u : TxnId). u.0)
        (subst (IsFreeFor t) (written_seen (committed_value cell.version cell.«data») (option_map (λ (b : Box Write Global). b.value) cell.write) w.value (ap (option_map (λ (b : Box Write Global). b.value)) is)) free)

-- a commit of a name leaves the others free
free_stays : (t : TxnId) (n : TreeName) (old new : Forest) (names : List TreeName) → HasChange (cells_seen old) (cells_seen new) n.db n.name after_commit → AreFree t old names → AreFree t new names
free_stays t n old new [] has free = tt
free_stays t n old new (e ∷ names) has free = (
  subst (λ (o : Option Occupied). IsFreeFor t (write_in o)) (sym (has e.db e.name)) (by_test ((e.db == n.db) && is_eq (name_cmp n.name e.name)) (value_at e.name (cells_seen old e.db)) free.0),
  free_stays t n old new names has free.1,
)
  where
    none_left : (v : Option (List ℕ)) → write_in (if_occupied (record { value = v; write = None })) ≡ None
    none_left None = refl
    none_left (Some x) = refl

    by_option : (o : Option Occupied) → IsFreeFor t (write_in (after_commit o))
    by_option None = tt
    by_option (Some o) = subst (IsFreeFor t) (sym (none_left (value_after o.value o.write))) tt

    by_test : (b : Bool) (o : Option Occupied) → IsFreeFor t (write_in o) → IsFreeFor t (write_in (cond b (after_commit o) o))
    by_test true o h = by_option o
    by_test false o h = h

-- a Commit at the end of a log stands behind all images of BINs, and before all that is logged next
bins_before : (es : List Placed) (at lsn : ℕ) (t : TxnId) → AllByRecursion (λ p. p.0 < at) es → IsBin (entry_at (es ++ (at, Commit t) ∷ []) lsn) → lsn < at
bins_before [] at lsn t all bin = by_test (at == lsn) bin
  where
    by_test : (b : Bool) → IsBin (cond b (Some (Commit t)) None) → lsn < at
    by_test true h = absurd h
    by_test false h = absurd h
bins_before (p ∷ es) at lsn t all bin = by_test (p.0 == lsn) refl bin (bins_before es at lsn t all.1)
  where
    by_test : (b : Bool) → (p.0 == lsn) ≡ b → IsBin (cond b (Some p.1) (entry_at (es ++ (at, Commit t) ∷ []) lsn)) → (IsBin (entry_at (es ++ (at, Commit t) ∷ []) lsn) → lsn < at) → lsn < at
    by_test true is h rest = subst (λ (n : ℕ). n < at) (eqb-true p.0 lsn is) all.0
    by_test false is h rest = rest h

last_before : (es : List Placed) (at next : ℕ) (t : TxnId) → AllByRecursion (λ p. p.0 < next) (es ++ (at, Commit t) ∷ []) → at ≤ next
last_before [] at next t all = let less : at < next = all.0 in omega (arith, less)
last_before (p ∷ es) at next t all = last_before es at next t all.1

commit_last : (es : List Placed) (at : ℕ) (t : TxnId) → AllByRecursion (λ p. p.0 < at) es → IsCommitAt (es ++ (at, Commit t) ∷ []) at
commit_last es at t all = record { behind = λ lsn bin. bins_before es at lsn t all bin; before = λ next behind. last_before es at next t behind }

-- names are committed where the log has their changes committed
pub commits_fit : (es : List Placed) (base last at : ℕ) (t : TxnId) (names : List TreeName) (old new : Forest) → MakesSteps (CommitsName at) names old new → AreFree t old names →
    IsCommitAt es at → ((d : ℕ) (x : Name) → logged_at base es d x t.0 ≤ latest_at base es d x) → ((start : ℕ) → has_begun es base start ≡ true → (lsn : ℕ) → has_changed es base t.0 lsn ≡ true → is_late es base start lsn ≡ true) →
    ForestDue es base last (trees_at old) none_due → ForestDue es base last (trees_at new) none_due
commits_fit es base last at t [] old new steps free commit le late f = forest_same es base last (trees_at old) (trees_at new) none_due steps f
commits_fit es base last at t (n ∷ names) old new steps free commit le late f =
    commits_fit es base last at t names steps.0 new steps.2 (free_stays t n old steps.0 names steps.1.seen free.1) commit le late (by_step steps.1.step)
  where
    by_step : MayStepIn n.db (HasCommitted n.name at) old steps.0 → ForestDue es base last (trees_at steps.0) none_due
    by_step (inl same) = forest_same es base last (trees_at old) (trees_at steps.0) none_due same f
    by_step (inr s) =
        (forest_here es base last last n.db (trees_at old) (trees_at steps.0) none_due none_due f.home f (λ number within. refl) (le_refl last)
        (λ d away. others_away old steps.0 n.db (Some s.next) s.has d away) (λ d away. refl)
        (λ u there. subst (λ (v : DbTree). FitsDue es base f.home last n.db v []) (is_next old steps.0 n.db s.next u s.has there)
        (committed_fits es base f.home last n.db n.name at s.tree s.next s.step
        (commit_is_latest es es base n.db n.name t.0 s.tree.cells (f.writes n.db s.tree s.was) own (le n.db n.name)) commit (f.fits n.db s.tree s.was)))
        (λ u there. subst (λ (v : DbTree). AreLogged es base n.db v.cells) (is_next old steps.0 n.db s.next u s.has there)
        (committed_logged es base n.db n.name at s.tree s.next s.step (f.writes n.db s.tree s.was)))
        (λ u there. subst (λ (v : DbTree). HasNotes es base [] v.levels) (is_next old steps.0 n.db s.next u s.has there)
        (committed_notes es base n.db n.name t.0 at s.tree s.next s.step (f.writes n.db s.tree s.was) own late (f.notes n.db s.tree s.was)))).0
      where
        seen_is : value_at n.name (cells_seen old n.db) ≡ seen (value_at n.name s.tree.cells)
        seen_is = ap (λ (o : Option DbTree). value_at n.name (occupied (cells_of o))) s.was ∙ seen_at s.tree.cells n.name s.step.rising

        own : (cell : Cell) → value_at n.name s.tree.cells ≡ Some cell → IfSome cell.write (λ w. w.value.txn.0 ≡ t.0)
        own cell there = free_cell t cell (subst (λ (o : Option Occupied). IsFreeFor t (write_in o)) (seen_is ∙ ap seen there) free.0)

-- names are given up
pub aborts_fit : (es : List Placed) (base last : ℕ) (names : List TreeName) (old new : Forest) → MakesSteps GivesUpName names old new → ForestDue es base last (trees_at old) none_due → ForestDue es base last (trees_at new) none_due
aborts_fit es base last [] old new steps f = forest_same es base last (trees_at old) (trees_at new) none_due steps f
aborts_fit es base last (n ∷ names) old new steps f = aborts_fit es base last names steps.0 new steps.2 (by_step steps.1)
  where
    by_step : MayStepIn n.db (HasGivenUp n.name) old steps.0 → ForestDue es base last (trees_at steps.0) none_due
    by_step (inl same) = forest_same es base last (trees_at old) (trees_at steps.0) none_due same f
    by_step (inr s) =
        (forest_here es base last last n.db (trees_at old) (trees_at steps.0) none_due none_due f.home f (λ number within. refl) (le_refl last)
        (λ d away. others_away old steps.0 n.db (Some s.next) s.has d away) (λ d away. refl)
        (λ u there. subst (λ (v : DbTree). FitsDue es base f.home last n.db v []) (is_next old steps.0 n.db s.next u s.has there)
        (given_up_fits es base f.home last n.db n.name s.tree s.next s.step (f.fits n.db s.tree s.was)))
        (λ u there. subst (λ (v : DbTree). AreLogged es base n.db v.cells) (is_next old steps.0 n.db s.next u s.has there)
        (given_up_logged es base n.db n.name s.tree s.next s.step (f.writes n.db s.tree s.was)))
        (λ u there. subst (λ (v : DbTree). HasNotes es base [] v.levels) (is_next old steps.0 n.db s.next u s.has there)
        (subst (λ (rows : List NodeRow). HasNotes es base [] rows) (sym s.step.levels) (f.notes n.db s.tree s.was)))).0

-- a tree goes
pub drop_fits : (es : List Placed) (base last db : ℕ) (old new : Forest) → ((d : ℕ) → get nat_cmp new d ≡ cond (d == db) None (get nat_cmp old d)) → ForestDue es base last (trees_at old) none_due →
    ForestDue es base last (trees_at new) none_due
drop_fits es base last db old new gone f = record {
  home = f.home;
  fits = λ d tree there. f.fits d tree (was d tree there);
  writes = λ d tree there. f.writes d tree (was d tree there);
  notes = λ d tree there. f.notes d tree (was d tree there);
}
  where
    was : (d : ℕ) (tree : DbTree) → get nat_cmp new d ≡ Some tree → get nat_cmp old d ≡ Some tree
    was d tree there = by_test (d == db) (sym (gone d) ∙ there)
      where
        by_test : (b : Bool) → cond b None (get nat_cmp old d) ≡ Some tree → get nat_cmp old d ≡ Some tree
        by_test true is = absurd (none-some tree is)
        by_test false is = is

-- ---- calls

module _ {D : Type 0} (meaning : DiskMeaning D) where
  -- trees and their log are as they were
  pub trees_stay : (old new : LogBuffer D) (last later : ℕ) (before after : Forest) → IsUnchanged old new → IsSameForest before after → later ≡ last →
      TreesGrew meaning old new last later (trees_at before) (trees_at after) []
  trees_stay old new last later before after same trees last_is = record {
    fitting = fitting_unchanged meaning old new same;
    fits = λ log base has begun f. subst (λ (n : ℕ). ForestFits (placed log) base n (trees_at after)) (sym last_is) (forest_same (placed log) base last (trees_at before) (trees_at after) none_due trees f);
    still = λ none es base f. subst (λ (n : ℕ). ForestFits es base n (trees_at after)) (sym last_is) (forest_same es base last (trees_at before) (trees_at after) none_due trees f);
  }

  -- changes were made ready, and logged
  pub changes_grow : (txn : TxnId) (changes : List TreeChange) (rooms : List SlotRoom) (owed : ℕ) (old mid : LogTrees D) (new : LogBuffer D) (forest : Forest) (images before between after : ℕ) (first : Option ℕ) → IsUnchanged old.log mid.log →
      AreFewNew (cells_seen old.trees.forest) changes → IsReady old mid changes rooms owed → images + between ≤ before + 129 * length changes → after ≤ between →
      (a : List Entry) × LogsChanges txn changes a × GrewForest meaning mid.log new mid.trees.forest forest (due_of changes rooms) none_due a × (length a ≡ images + length changes)
      × (first ≡ first_in mid.log a) →
      (a : List Entry) × LogsChanges txn changes a × TreesGrew meaning old.log new (last_node_of old) (last_node_of mid) (trees_of old) (trees_at forest) a
      × (length a + after ≤ before + most_entries (length changes)) × (first ≡ first_in old.log a)
  changes_grow txn changes rooms owed old mid new forest images before between after first same new_few ready few less grew = (
    grew.0,
    grew.1,
    record {
      fitting = fitting_then meaning old.log mid.log new [] grew.0 kept grew.2.fitting;
      fits = carries_then meaning old.log mid.log [] grew.0 (IsForestDue (last_node_of old) old.trees.forest none_due) (IsForestDue (last_node_of mid) mid.trees.forest (due_of changes rooms))
          (IsForestDue (last_node_of mid) forest none_due) kept (λ log base has begun f. ready.fits (placed log) base new_few f) (grew.2.fits (last_node_of mid));
      still = λ none es base f. grew.2.still none es base (last_node_of mid) (ready.fits es base new_few f);
    },
    (let count = grew.3 in omega (arith, few, less, count)),
    grew.4 ∙ ap₂ (λ (m : ℕ) (end : LogPos). first_change (placed_by m end grew.0)) same.kept.max same.kept.end,
  )
    where
      kept : GrewFitting meaning old.log mid.log []
      kept = fitting_unchanged meaning old.log mid.log same

  -- a Commit was logged, and its names committed
  pub commit_grows : (t : TxnId) (at : ℕ) (names : List TreeName) (old new : LogBuffer D) (last : ℕ) (before after : Forest) → GrewFitting meaning old new (Commit t ∷ []) →
      at ≡ pos_lsn (placed_at (file_max_of old) (end_of old) (size_of (Commit t))) → AreFree t before names → MakesSteps (CommitsName at) names before after →
      TreesGrew meaning old new last last (trees_at before) (trees_at after) (Commit t ∷ [])
  commit_grows t at names old new last before after grew at_is free steps = record {
    fitting = grew;
    fits = λ log base has begun f. (let a = is_appended meaning old new (Commit t) log base at grew at_is has begun in
        subst (λ (es : List Placed). ForestFits es base last (trees_at after)) (sym a.is)
        (commits_fit (placed log ++ (at, Commit t) ∷ []) base last at t names before after steps free (commit_last (placed log) at t a.behind) (λ d x. commit_latest (placed log) base at t d x a.begun)
        (λ start started lsn changed. late_committed (placed log) base start at lsn t (begun_before (placed log) base start at a.behind (begun_back (placed log) ((at, Commit t) ∷ []) base start (refl, tt) started)) changed)
        (forest_stays (placed log) ((at, Commit t) ∷ []) base last last (trees_at before) (trees_at before) none_due (le_refl last) (λ d. refl) (refl, tt) f)));
    still = λ none. absurd (some_entry (Commit t) none);
  }

  -- names were given up
  pub abort_grows : (names : List TreeName) (log : LogBuffer D) (last : ℕ) (before after : Forest) → MakesSteps GivesUpName names before after →
      TreesGrew meaning log log last last (trees_at before) (trees_at after) []
  abort_grows names log last before after steps = record {
    fitting = fitting_none meaning log;
    fits = λ l base has begun f. aborts_fit (placed l) base last names before after steps f;
    still = λ none es base f. aborts_fit es base last names before after steps f;
  }

  -- a tree was taken out
  pub drop_grows : (db : ℕ) (log : LogBuffer D) (last : ℕ) (before after : Forest) → ((d : ℕ) → get nat_cmp after d ≡ cond (d == db) None (get nat_cmp before d)) →
      TreesGrew meaning log log last last (trees_at before) (trees_at after) []
  drop_grows db log last before after gone = record {
    fitting = fitting_none meaning log;
    fits = λ l base has begun f. drop_fits (placed l) base last db before after gone f;
    still = λ none es base f. drop_fits es base last db before after gone f;
  }

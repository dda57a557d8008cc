-- Records in trees are those of a redo.
use Rattle.std.proofs.Common.{◌≡◌, ℕ, ◌+◌, Bool, true, false, cond, List, [], ◌∷◌, Option, None, Some, Result, Ok, Err, max, map, length, sum_by, option_map, unwrap_or, is_eq, refl, sym, ap, ap₂, subst, ◌∙◌}
use mathlib.Core.Path.{fun_ext}
use Rattle.std.proofs.lemmas.List.Sums.{sum_by-cons}
use Rattle.std.proofs.lemmas.List.{append-nil, length-map}
use Rattle.std.specs.Map.{keys_of}
use Rattle.std.specs.List.Sorted.{IsStrictlySortedBy}
use Rattle.je_order.specs.Order.{name_cmp}
use Rattle.je_order.specs.declared.name.Name.{Name}
use Rattle.store_model.specs.declared.store.Store.{Store}
use Rattle.store_model.specs.declared.store.Database.{Database}
use Rattle.store_model.specs.Store.{record_count}
use Rattle.record_map.specs.Cells.{value_at, IsRising as AreRising}
use Rattle.record_tree.specs.Stored.{Stored, AllStored, stored_at}
use Rattle.log_replay.specs.declared.corruption.Corruption.{Corruption}
use Rattle.log_replay.specs.declared.corruption.Corruption.TheVariants.{Tree}
use Rattle.log_replay.specs.Rows.{Row, Rows, IsRising, catalog_number, catalog_kind, numbers_of, store_of, database_in, no_rows, pair_of}
use Rattle.log_replay.specs.Wrong.{wrong_record}
use Rattle.log_replay.proofs.LoadedRows.{found, same_rows}
use Rattle.log_replay.proofs.MapRows.{rising_from_keys}
use Rattle.log_trees.specs.Placed.{Placed}
use Rattle.log_trees.specs.Changes.{Written, unwritten, LoggedChange, last_of}
use Rattle.log_trees.specs.Walk.{Walk, and_then, read_roots}
use Rattle.log_meaning.specs.Redo.{Redo, nothing_redone, redo_entry, redo_all, from, redone, record_at}
use Rattle.log_meaning.specs.Checkpoint.{Checkpoint, last_end, last_checkpoint, behind}
use Rattle.log_meaning.specs.Meaning.{Meaning, most, node_number, db_number, db_given, rows_of, lsn_there, wrong_lsn}
use Rattle.log_meaning.specs.Reading.{redo_corruption, unless, validated, validated_by, meaning_in}
use Rattle.log_replay.specs.Replay.{txn_in}
use Rattle.log_entry.specs.declared.root.Root.{Root}
use Rattle.std.specs.Prelude.{IsErrAnd, IfErr}
use Rattle.log_meaning.proofs.Listing.{found-after, rising-after}
use Rattle.log_meaning.proofs.RedoLaws.{behind-entry}
use Rattle.log_replay.proofs.RowLaws.{rising-nil}
use Rattle.recovery_je.specs.Redoing.{waits, there, IsRedoAt}
use Rattle.recovery_je.specs.Checking.{values_of, values_in, lsn_of, wrong_lsn_in}
use Rattle.recovery_je.specs.Finishing.{is_kept, IsFinished}
use Rattle.recovery_je.specs.declared.read_err.ReadErr.{ReadErr}
use Rattle.recovery_je.specs.declared.read_err.ReadErr.TheVariants.{Memory, Found}
use Rattle.recovery_je.specs.declared.roots.WalkNumbers.{WalkNumbers}
use Rattle.recovery_je.specs.Recovering.{HoldsChanges, HoldsRedo, HasTrees, IsSettled, IsWrong, IsWalked, IsMeant, IsFoundBy}

-- ---- records without their LSNs

found_value : (records : List (Name × Stored)) (x : Name) → found (values_of records) x ≡ option_map (λ s. s.value) (value_at x records)
found_value [] x = refl
found_value (r ∷ records) x = ap (λ (o : Option (List ℕ)). cond (is_eq (name_cmp x r.0)) (Some r.1.value) o) (found_value records x) ∙ by_test (is_eq (name_cmp x r.0))
  where
    by_test : (b : Bool) → cond b (Some r.1.value) (option_map (λ (s : Stored). s.value) (value_at x records)) ≡ option_map (λ (s : Stored). s.value) (cond b (Some r.1) (value_at x records))
    by_test true = refl
    by_test false = refl

there_value : (w : Written) → option_map (λ (s : Stored). s.value) (there w) ≡ w.value
there_value w = by_value w.at w.value
  where
    by_value : (at : ℕ) (value : Option (List ℕ)) → option_map (λ (s : Stored). s.value) (stored_at at value) ≡ value
    by_value at None = refl
    by_value at (Some value) = refl

pub there_lsn : (w : Written) → unwrap_or (option_map (λ (s : Stored). s.at) (there w)) 0 ≡ lsn_there w
there_lsn w = by_value w.at w.value
  where
    by_value : (at : ℕ) (value : Option (List ℕ)) → unwrap_or (option_map (λ (s : Stored). s.at) (stored_at at value)) 0 ≡ unwrap_or (option_map (λ (v : List ℕ). at) value) 0
    by_value at None = refl
    by_value at (Some value) = refl

keys_same : (records : List (Name × Stored)) → keys_of (values_of records) ≡ keys_of records
keys_same [] = refl
keys_same (r ∷ records) = ap (λ (l : List Name). r.0 ∷ l) (keys_same records)

pub values_rise : (records : List (Name × Stored)) → AreRising records → IsRising (values_of records)
values_rise records up = rising_from_keys (values_of records) (subst (IsStrictlySortedBy name_cmp) (sym (keys_same records)) up)

-- records of a database that are those of a redo, name by name, are the redo's
rows_at : (redo : Redo) (d : ℕ) (records : List (Name × Stored)) → ((x : Name) → value_at x records ≡ there (record_at redo d x)) → AreRising records → values_of records ≡ rows_of redo d
rows_at redo d records holds up =
    same_rows (values_of records) (rows_of redo d) (values_rise records up) (rising-after redo.done no_rows (λ e. rising-nil) d)
    (λ x. found_value records x ∙ ap (λ (o : Option Stored). option_map (λ (s : Stored). s.value) o) (holds x) ∙ there_value (record_at redo d x)
    ∙ sym (found-after redo.done no_rows unwritten d x refl))

-- the records of trees that hold a redo are the redo's
pub rows_are : (redo : Redo) (stored : AllStored) → HoldsRedo redo stored → ((d : ℕ) → AreRising (stored d)) → values_in stored ≡ rows_of redo
rows_are redo stored holds up = fun_ext (λ d. rows_at redo d (stored d) (holds d) (up d))

-- and so are those of an environment's trees
pub rows_in_trees : (redo : Redo) (has : ℕ → Bool) (stored : AllStored) (d : ℕ) → HasTrees redo has stored → is_kept (numbers_of (rows_of redo)) d ≡ true → values_of (stored d) ≡ rows_of redo d
rows_in_trees redo has stored d trees kept = rows_at redo d (stored d) (λ x. trees.records d x kept) (trees.rising d)

-- and so is the LSN of the first wrong one
abbrev wrong_by : (ℕ → Name → ℕ) → Rows → Option ℕ
wrong_by lsns rows = option_map (λ place. lsns place.db place.name) (wrong_record rows)

pub wrong_is : (redo : Redo) (stored : AllStored) → HoldsRedo redo stored → ((d : ℕ) → AreRising (stored d)) → wrong_lsn_in stored ≡ wrong_lsn redo
wrong_is redo stored holds up =
    let lsns : lsn_of stored ≡ (λ d x. lsn_there (record_at redo d x)) =
    fun_ext (λ d. fun_ext (λ x. ap (λ (o : Option Stored). unwrap_or (option_map (λ (s : Stored). s.at) o) 0) (holds d x) ∙ there_lsn (record_at redo d x))) in
    ap₂ wrong_by lsns (rows_are redo stored holds up)

pub wrong_at : (redo : Redo) (stored : AllStored) (lsn : ℕ) → HoldsRedo redo stored → ((d : ℕ) → AreRising (stored d)) → Some lsn ≡ wrong_lsn_in stored → IsWrong redo (Tree lsn)
wrong_at redo stored lsn holds up wrong = (lsn, refl, sym (wrong ∙ wrong_is redo stored holds up))

sorted_nil : AreRising {V = Stored} []
unfolding IsStrictlySortedBy
sorted_nil = tt

-- ---- counts

counted : (rows : Rows) (catalog : List Row) →
    sum_by (λ n. length (rows n)) (map (λ (r : Row). catalog_number r.1) catalog) ≡ sum_by (λ (d : Database). length d.pairs) (map (database_in rows) catalog)
counted rows [] = refl
counted rows (r ∷ catalog) =
    sum_by-cons (λ n. length (rows n)) (catalog_number r.1) (map (λ (s : Row). catalog_number s.1) catalog)
    ∙ ap₂ (λ a b. a + b) (sym (length-map (rows (catalog_number r.1)) (pair_of (catalog_kind r.1)))) (counted rows catalog)
    ∙ sym (sum_by-cons (λ (d : Database). length d.pairs) (database_in rows r) (map (database_in rows) catalog))

sum_same : (f g : ℕ → ℕ) (ns : List ℕ) → ((n : ℕ) → f n ≡ g n) → sum_by f ns ≡ sum_by g ns
sum_same f g ns same = ap (λ (h : ℕ → ℕ). sum_by h ns) (fun_ext same)

-- ---- the whole

pub settled : (redo : Redo) (has : ℕ → Bool) (before after : AllStored) (opening : Store) (numbers : List ℕ) (databases records : ℕ) → HoldsRedo redo before → ((d : ℕ) → AreRising (before d)) →
    wrong_lsn_in before ≡ None → opening ≡ store_of (values_in before) → numbers ≡ map (λ r. catalog_number r.1) (values_of (before 0)) → databases ≡ length numbers →
    records ≡ sum_by (λ n. length (before n)) numbers → IsFinished numbers has before after → IsSettled redo has after opening databases records
settled redo has before after opening numbers databases records holds up right opening_is numbers_are databases_are records_are done =
    let same : values_in before ≡ rows_of redo = rows_are redo before holds up in
    let catalog : numbers ≡ numbers_of (rows_of redo) = numbers_are ∙ ap numbers_of same in
    let store : opening ≡ store_of (rows_of redo) = opening_is ∙ ap store_of same in
    let finished : IsFinished (numbers_of (rows_of redo)) has before after = subst (λ (l : List ℕ). IsFinished l has before after) catalog done in
    record {
      trees = record {
        trees = finished.trees;
        records = λ d x kept. ap (value_at x) (finished.kept d kept) ∙ holds d x;
        none = finished.none;
        rising = λ d. rising_by d (is_kept (numbers_of (rows_of redo)) d) refl finished;
      };
      right = sym (wrong_is redo before holds up) ∙ right;
      opening_is = store;
      databases_are =
          databases_are ∙ ap length catalog ∙ length-map (rows_of redo 0) (λ r. catalog_number r.1) ∙ sym (length-map (rows_of redo 0) (database_in (rows_of redo))) ∙ ap (λ (s : Store). length s.databases) (sym store);
      records_are =
          records_are ∙ sum_same (λ n. length (before n)) (λ n. length (values_in before n)) numbers (λ n. sym (length-map (before n) (λ r. (r.0, r.1.value))))
          ∙ ap₂ (λ (rows : Rows) (l : List ℕ). sum_by (λ n. length (rows n)) l) same catalog ∙ counted (rows_of redo) (rows_of redo 0) ∙ ap record_count (sym store);
    }
  where
    rising_by : (d : ℕ) (k : Bool) → is_kept (numbers_of (rows_of redo)) d ≡ k → IsFinished (numbers_of (rows_of redo)) has before after → AreRising (after d)
    rising_by d true k finished = subst AreRising (sym (finished.kept d k)) (up d)
    rising_by d false k finished = subst AreRising (sym (finished.none d k)) sorted_nil

-- a redo over what stood before
behind_all : (rows : List LoggedChange) (es : List Placed) (redo : Redo) → redo_all es (behind rows redo) ≡ behind rows (redo_all es redo)
behind_all rows [] redo = refl
behind_all rows (p ∷ es) redo = ap (redo_all es) (behind-entry rows p.0 p.1 redo) ∙ behind_all rows es (redo_entry p.0 p.1 redo)

pub redo_begins : (rows : List LoggedChange) (stored : AllStored) (kept : List (ℕ × List LoggedChange)) → HoldsChanges rows stored → ((t : ℕ) → waits kept t ≡ []) → IsRedoAt stored kept (behind rows nothing_redone)
redo_begins rows stored kept holds none = record {
  records = λ d x. holds d x ∙ ap (λ (l : List LoggedChange). there (last_of d x l unwritten)) (sym (append-nil rows));
  pending = none;
}

pub redo_ends : (rows : List LoggedChange) (redo : ℕ) (es : List Placed) (stored : AllStored) (kept : List (ℕ × List LoggedChange)) → IsRedoAt stored kept (redo_all (from redo es) (behind rows nothing_redone)) →
    HoldsRedo (behind rows (redone redo es)) stored
redo_ends rows redo es stored kept at d x = at.records d x ∙ ap (λ (r : Redo). there (record_at r d x)) (behind_all rows (from redo es) nothing_redone)

pub same_stored : (rows : List LoggedChange) (a b : AllStored) → ((d : ℕ) → b d ≡ a d) → HoldsChanges rows a → HoldsChanges rows b
same_stored rows a b same holds d x = ap (value_at x) (same d) ∙ holds d x

-- ---- the meaning

abbrev meaning_with : List ℕ → List Placed → Checkpoint → Result Meaning Corruption
meaning_with files es e = and_then (read_roots files es e.at e.roots) (λ walk. unless (redo_corruption files (last_end es)) (validated es e walk))

pub meant : (files : List ℕ) (es : List Placed) (e : Checkpoint) (corruption : Option Corruption) (numbers : WalkNumbers) (before stored : AllStored) (has : ℕ → Bool) (opening : Store) (databases records txn node db : ℕ)
    (walk : Walk) → e ≡ last_checkpoint es → corruption ≡ redo_corruption files (last_end es) → corruption ≡ None → IsWalked files es e numbers before walk →
    IsSettled (behind walk.rows (redone e.redo es)) has stored opening databases records → txn ≡ max e.last_txn (most (λ p. txn_in p.1) (from e.redo es)) →
    node ≡ max e.last_node (max numbers.node (most (λ p. node_number p.1) (from e.redo es))) →
    db ≡ max e.last_db (max (most (λ r. r.db) e.roots) (max numbers.db (most (λ p. db_number p.1) (from e.redo es)))) →
    IsMeant files es (record { store = opening; last_txn = txn; last_node = node; last_db = db; checkpoint = e.number }) has stored databases records
meant files es e corruption numbers before stored has opening databases records txn node db walk at right none walked made txn_is node_is db_is = record {
  meaning_is =
      ap (meaning_with files es) (sym at)
      ∙ ap (λ (r : Result Walk Corruption). and_then r (λ w. unless (redo_corruption files (last_end es)) (validated es e w))) walked.read
      ∙ ap (λ (o : Option Corruption). unless o (validated es e walk)) (sym right ∙ none)
      ∙ ap (validated_by es e walk) made.right
      ∙ ap Ok (ap (λ (s : Store). make s t_ n_ d_) (sym made.opening_is) ∙ ap (λ (t : ℕ). make opening t n_ d_) (sym txn_is) ∙ ap₂ (λ (n d : ℕ). make opening txn n d)
      (ap (λ (n : ℕ). max e.last_node (max n (most (λ (p : Placed). node_number p.1) (from e.redo es)))) (sym walked.node) ∙ sym node_is)
      (ap (λ (n : ℕ). max e.last_db (max (most (λ (r : Root). r.db) e.roots) (max n (most (λ (p : Placed). db_number p.1) (from e.redo es))))) (sym walked.db) ∙ sym db_is));
  walk = walk;
  walked = ap (λ (c : Checkpoint). read_roots files es c.at c.roots) (sym at) ∙ walked.read;
  trees = subst (λ (c : Checkpoint). HasTrees (behind walk.rows (redone c.redo es)) has stored) at made.trees;
  databases_are = made.databases_are;
  records_are = made.records_are;
}
  where
    t_ : ℕ
    t_ = max e.last_txn (most (λ (p : Placed). txn_in p.1) (from e.redo es))

    n_ : ℕ
    n_ = max e.last_node (max (most (λ (n : ℕ). n) walk.seen) (most (λ (p : Placed). node_number p.1) (from e.redo es)))

    d_ : ℕ
    d_ = max e.last_db (max (most (λ (r : Root). r.db) e.roots) (max (most db_given walk.rows) (most (λ (p : Placed). db_number p.1) (from e.redo es))))

    make : Store → ℕ → ℕ → ℕ → Meaning
    make s t n d = record { store = s; last_txn = t; last_node = n; last_db = d; checkpoint = e.number }

-- a corruption that was found
pub found_wrong : (files : List ℕ) (es : List Placed) (e : Checkpoint) (corruption : Option Corruption) (walk : Walk) (c : Corruption) → e ≡ last_checkpoint es →
    corruption ≡ redo_corruption files (last_end es) → corruption ≡ None → read_roots files es e.at e.roots ≡ Ok walk → IsWrong (behind walk.rows (redone e.redo es)) c → meaning_in files es ≡ Err c
found_wrong files es e corruption walk c at right none walked wrong =
    ap (meaning_with files es) (sym at)
    ∙ ap (λ (r : Result Walk Corruption). and_then r (λ w. unless (redo_corruption files (last_end es)) (validated es e w))) walked
    ∙ ap (λ (o : Option Corruption). unless o (validated es e walk)) (sym right ∙ none)
    ∙ ap (validated_by es e walk) wrong.2
    ∙ ap Err (sym wrong.1)

-- what holds of an error that was handed on
pub handed_on : {T : Type 0} (P Q : Corruption → Type 0) (r : Result T ReadErr) (e : ReadErr) → IsErrAnd r (λ x. x ≡ e) → IsFoundBy e P → ((c : Corruption) → P c → Q c) → IfErr r (λ x. IsFoundBy x Q)
handed_on P Q (Ok v) e is found more = absurd is
handed_on P Q (Err x) e is found more = by_error x (subst (λ (y : ReadErr). IsFoundBy y P) (sym is) found)
  where
    by_error : (y : ReadErr) → IsFoundBy y P → IsFoundBy y Q
    by_error Memory h = tt
    by_error (Found c) h = more c h

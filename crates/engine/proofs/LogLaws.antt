-- What logging planned changes needs, and what it comes to.
use Rattle.std.proofs.Common.{◌≡◌, ◌==◌, ◌||◌, ℕ, ◌+◌, ◌<◌, ◌≤◌, nat_lt, Bool, true, false, cond, List, [], ◌∷◌, Option, None, Some, IfSome, length, map, refl, ap, sym, subst, ◌∙◌, arith, ◌⊎◌, Ok, Err, Result, is_some, inl, inr}
use Rattle.std.specs.List.{AllByRecursion, list_any}
use Rattle.std.proofs.lemmas.Bool.{true≢false, eqb-true, eq-eqb, ne_eqb, ltb-true, ltb-false, and_parts, or_left, or_right}
use Rattle.je_disk.specs.DiskMeaning.{DiskMeaning}
use Rattle.je_order.specs.declared.txn_id.TxnId.{TxnId}
use Rattle.je_order.proofs.Lists.{all_weaker}
use Rattle.std.specs.declared.alloc.AllocError.{AllocError}
use Rattle.std.proofs.lemmas.Option.{none-some}
use Rattle.store_model.specs.declared.answer.Answer.TheVariants.{IdsEnded, Logged, DiskFault}
use Rattle.store_model.specs.declared.call.Call.{Call}
use Rattle.store_model.specs.declared.store.TheConstants.{LAST_DATABASE}
use Rattle.je_answers.specs.Alone.{Alone}
use Rattle.log_entry.specs.declared.entry.Entry.{Entry}
use Rattle.record_map.specs.Cells.{IsRising}
use Rattle.log_replay.specs.Rows.{numbers_of}
use Rattle.record_tree.specs.declared.tree_change.TreeChange.{TreeChange}
use Rattle.record_tree.specs.declared.tree_err.TreeErr.{TreeErr}
use Rattle.record_map.specs.Cells.{value_at}
use Rattle.record_map.specs.declared.write.Write.{Write}
use Rattle.record_tree.specs.Occupied.{IsFreeFor, write_in}
use Rattle.record_tree.specs.Logged.{LogsTransaction, is_made, last_change, makes_db, most_entries}
use Rattle.in_tree.specs.declared.logged_trees.LogTrees.{LogTrees}
use Rattle.in_tree.specs.Observed.{cells_of, has_tree_of, waits_of, GrewTrees, last_node_of, trees_of}
use Rattle.log_buffer.specs.declared.log_pos.LogPos.{LogPos}
use Rattle.log_buffer.specs.Buffer.{end_of, file_max_of, has_failed}
use Rattle.log_entry.specs.Encoding.{size_of}
use Rattle.txn_core.specs.declared.planned_changes.PlannedChanges.{PlannedChanges}
use Rattle.txn_core.specs.Known.{committed, has_number}
use Rattle.txn_core.specs.Planning.{IsPlannedLog, is_index}
use Rattle.txn_core.specs.Transactions.{HasCommitted, is_gone}
use Rattle.engine.specs.declared.kept.Kept.{Kept}
use Rattle.tree_images.specs.Forest.{ForestFits}
use Rattle.in_tree.specs.Carrying.{Carries}
use Rattle.engine.specs.Contents.{checkpoints_of, known, rows_after, IsSame, drawn_contents}
use Rattle.engine.specs.Limits.{last_number, limit_by, numbers_for}
use Rattle.engine.specs.Steps.{HasAppended, LogsChanges, refusal_by}
use Rattle.engine.specs.Whole.{AreTrees, LeavesCells, LeavesTrees, contents, end_file, AreLeft}
use Rattle.tree_images.proofs.ForestSteps.{forest_same}
use Rattle.in_tree.specs.Growing.{none_due}
use Rattle.record_tree.specs.Occupied.{AreSame}
use Rattle.log_buffer.specs.Buffer.{IsUnchanged}
use Rattle.in_tree.proofs.Far.{files_few}
use Rattle.std.proofs.lemmas.List.{length-map}
use Rattle.engine.proofs.ReachLaws.{file_within}
use Rattle.engine.proofs.CommittedRows.{committed_after, committed_same, trees_same}
use Rattle.record_tree.specs.declared.tree_err.TreeErr.TheVariants.{Fault, Full, IdsEnded as NoNumber, Memory}
use Rattle.store_model.specs.declared.answer.Answer.{Answer}

-- ---- no limit

-- where neither is so
pub neither : (a b : Bool) → (a || b) ≡ false → (a ≡ false) × (b ≡ false)
neither true b h = absurd (true≢false h)
neither false b h = (refl, h)

pub within_last : (last : ℕ) → nat_lt LAST_DATABASE last ≡ false → last ≤ LAST_DATABASE
within_last last h = let low = ltb-false LAST_DATABASE last h in omega (arith, low)

-- where the trees find no limit and numbers are left, there is none
pub no_limit : (found : Option TreeErr) (node count : ℕ) → found ≡ None → nat_lt last_number (node + numbers_for count) ≡ false → limit_by found node count ≡ None
no_limit found node count none left =
    ap (λ (f : Option TreeErr). limit_by f node count) none ∙ ap (λ (b : Bool). cond b (Some IdsEnded) None) left

-- ---- databases

by_makes : (Q : ℕ → Type 0) (o : Option ℕ) → ((d : ℕ) → makes_db d o ≡ true → Q d) → IfSome o Q
by_makes Q None h = tt
by_makes Q (Some d) h = h d (eq-eqb d d refl)

-- what holds of each database that changes make
each_made : (Q : ℕ → Type 0) (changes : List TreeChange) → ((d : ℕ) → is_made d changes ≡ true → Q d) → AllByRecursion (λ c. IfSome c.makes Q) changes
each_made Q [] h = tt
each_made Q (c ∷ changes) h = (
  by_makes Q c.makes (λ d made. h d (or_left (makes_db d c.makes) (is_made d changes) made)),
  each_made Q changes (λ d made. h d (or_right (makes_db d c.makes) (is_made d changes) made)),
)

none_of : (numbers : List ℕ) (last d : ℕ) → AllByRecursion (λ n. n ≤ last) numbers → last < d → list_any (λ n. n == d) numbers ≡ false
none_of [] last d all above = refl
none_of (n ∷ numbers) last d all above =
    ap (λ (b : Bool). b || list_any (λ m. m == d) numbers) (ne_eqb n d (λ e. (let low = all.0 in absurd (omega (arith, e, low, above))))) ∙ none_of numbers last d all.1 above

-- a number above the last one is that of no database
none_above : (numbers : List ℕ) (last d : ℕ) → AllByRecursion (λ n. n ≤ last) numbers → last < d → has_number numbers d ≡ false
none_above numbers last d all above =
    ap (λ (b : Bool). b || list_any (λ n. n == d) numbers) (ne_eqb d 0 (λ e. absurd (omega (arith, e, above)))) ∙ none_of numbers last d all above

-- where nobody has changed anything each name is free
free_one : (t : TxnId) (w : Option Write) → w ≡ None → IsFreeFor t w
free_one t None is = tt
free_one t (Some w) is = absurd (none-some w (sym is))

-- and nobody has afterwards
none_left : (a b : Bool) (w : Option Write) → w ≡ None → cond a None (cond b None w) ≡ None
none_left true b w is = refl
none_left false true w is = refl
none_left false false w is = is

module _ {D : Type 0} where
  -- each change is of a database that has a tree
  pub made_there : (trees : LogTrees D) (kept : Kept) (p : Alone) (session : ℕ) (call : Call) (planned : PlannedChanges) →
      ((d : ℕ) → has_tree_of trees d ≡ has_number (numbers_of (committed (cells_of trees))) d) → (log : IsPlannedLog (known (contents trees kept)) p session call planned) → is_index log.change ≡ false →
      AllByRecursion (λ c. has_tree_of trees c.db ≡ true) planned.changes.items
  made_there trees kept p session call planned made log other =
      all_weaker (λ (c : TreeChange). has_number (numbers_of (committed (cells_of trees))) c.db ≡ true) (λ c. has_tree_of trees c.db ≡ true) (λ c there. made c.db ∙ there) planned.changes.items (log.there other)

  pub trees_there : (trees : LogTrees D) (kept : Kept) (p : Alone) (session : ℕ) (call : Call) (planned : PlannedChanges) → AreTrees trees → (log : IsPlannedLog (known (contents trees kept)) p session call planned) → is_index log.change ≡ false →
      AllByRecursion (λ c. has_tree_of trees c.db ≡ true) planned.changes.items
  trees_there trees kept p session call planned are log other = made_there trees kept p session call planned are.made log other

  -- a database that changes make has none yet
  pub made_new : (trees : LogTrees D) (kept : Kept) (p : Alone) (session : ℕ) (call : Call) (planned : PlannedChanges) →
      ((d : ℕ) → has_tree_of trees d ≡ has_number (numbers_of (committed (cells_of trees))) d) → AllByRecursion (λ n. n ≤ kept.last_db) (numbers_of (committed (cells_of trees))) →
      IsPlannedLog (known (contents trees kept)) p session call planned → planned.last_db ≤ LAST_DATABASE → AllByRecursion (λ c. IfSome c.makes (λ d. has_tree_of trees d ≡ false)) planned.changes.items
  made_new trees kept p session call planned each below log low =
      each_made (λ d. has_tree_of trees d ≡ false) planned.changes.items
      (λ d made.
      let parts = and_parts (nat_lt kept.last_db planned.last_db) (d == planned.last_db) (sym (log.made (omega (arith, low)) d) ∙ made) in
      let later = ltb-true kept.last_db planned.last_db parts.0 in
      let is : d ≡ planned.last_db = eqb-true d planned.last_db parts.1 in
      each d ∙ none_above (numbers_of (committed (cells_of trees))) kept.last_db d below (omega (arith, later, is)))

  pub trees_new : (trees : LogTrees D) (kept : Kept) (p : Alone) (session : ℕ) (call : Call) (planned : PlannedChanges) → AreTrees trees → AllByRecursion (λ n. n ≤ kept.last_db) (numbers_of (committed (cells_of trees))) →
      IsPlannedLog (known (contents trees kept)) p session call planned → planned.last_db ≤ LAST_DATABASE → AllByRecursion (λ c. IfSome c.makes (λ d. has_tree_of trees d ≡ false)) planned.changes.items
  trees_new trees kept p session call planned are below log low = made_new trees kept p session call planned are.made below log low

  -- ---- other transactions

  pub all_free : (trees : LogTrees D) (t : TxnId) (changes : List TreeChange) → AreTrees trees → AllByRecursion (λ c. IsFreeFor t (write_in (value_at c.name (cells_of trees c.db)))) changes
  all_free trees t [] are = tt
  all_free trees t (c ∷ changes) are = (free_one t (write_in (value_at c.name (cells_of trees c.db))) (are.quiet c.db c.name), all_free trees t changes are)

  pub trees_left : (old new : LogTrees D) (planned : PlannedChanges) (result : Result Answer AllocError) → AreTrees old → LeavesCells old new planned 1 result → LeavesTrees old new planned result
  trees_left old new planned (Ok (Logged commit)) are leaves = (
    λ d x. leaves.writes d x ∙ none_left (is_gone d planned.gone) (is_some (last_change d x planned.changes.items)) (write_in (value_at x (cells_of old d))) (are.quiet d x),
    leaves.trees,
  )
  trees_left old new planned (Ok DiskFault) are leaves = tt
  trees_left old new planned (Ok answer) are leaves = trees_same old new are leaves.cells leaves.made
  trees_left old new planned (Err error) are leaves = trees_same old new are leaves.cells leaves.made

  -- ---- what was logged

  pub rows_logged : (old new : LogTrees D) (planned : PlannedChanges) (changes : List TreeChange) → changes ≡ planned.changes.items → HasCommitted changes planned.gone (cells_of old) (cells_of new) →
      ((d : ℕ) → IsRising (cells_of old d)) → ((d : ℕ) → IsRising (cells_of new d)) → (d : ℕ) → committed (cells_of new) d ≡ rows_after planned.changes.items planned.gone (committed (cells_of old)) d
  rows_logged old new planned changes same has up_old up_new =
      committed_after planned.changes.items planned.gone (cells_of old) (cells_of new) up_old up_new (subst (λ (cs : List TreeChange). HasCommitted cs planned.gone (cells_of old) (cells_of new)) same has)

  module _ (meaning : DiskMeaning D) where
    -- what a transaction logged
    abbrev pub Logs : LogTrees D → LogTrees D → TxnId → List TreeChange → Type 0
    Logs old new txn changes = (entries : List Entry) × LogsTransaction txn changes entries × GrewTrees meaning old new entries
        × (length entries + waits_of new ≤ waits_of old + (most_entries (length changes) + 1))

    pub appended_all : (old new : LogTrees D) (txn : TxnId) (planned : PlannedChanges) (changes : List TreeChange) → changes ≡ planned.changes.items → Logs old new txn changes →
        HasAppended meaning old.log new.log txn planned.changes.items
    appended_all old new txn planned changes same grew =
        let logs : LogsTransaction txn planned.changes.items grew.0 = subst (λ (cs : List TreeChange). LogsTransaction txn cs grew.0) same grew.1 in
        record { entries = grew.0; logs = logs; grew = grew.2.fitting.grew; fits = grew.2.fitting.fits }

    -- and trees that fitted the log fit it still
    pub carried_all : (old new : LogTrees D) (txn : TxnId) (planned : PlannedChanges) (changes : List TreeChange) (same : changes ≡ planned.changes.items) (grew : Logs old new txn changes) →
        Carries meaning old.log (appended_all old new txn planned changes same grew).entries (λ es base. ForestFits es base (last_node_of old) (trees_of old))
        (λ es base. ForestFits es base (last_node_of new) (trees_of new))
    unfolding appended_all
    carried_all old new txn planned changes same grew = grew.2.fits

    -- the log does not end farther than its entries may take it
    pub near_logged : (old new : LogTrees D) (txn : TxnId) (planned : PlannedChanges) (changes : List TreeChange) → changes ≡ planned.changes.items → Logs old new txn changes →
        end_file new ≤ end_file old + (most_entries (length planned.changes.items) + 1)
    near_logged old new txn planned changes same grew =
        let grown = grew.2.fitting.grew in
        let ends = ap (λ (e : LogPos). e.file) grown.end in
        let files = files_few (file_max_of old.log) (end_of old.log) (map size_of grew.0) in
        let mapped = length-map grew.0 size_of in
        let few = grew.3 in
        let count = ap (λ (cs : List TreeChange). length cs) same in
        file_within (has_failed old.log) (has_failed new.log) ((end_of old.log).file + waits_of old) ((end_of new.log).file + waits_of new) (most_entries (length planned.changes.items) + 1)
        grown.failed (omega (arith, ends, files, mapped, few, count))

  -- ---- trees as they were

  -- trees that are left as they were fit as they did
  pub trees_left_same : (old new : LogTrees D) → AreSame (cells_of old) (cells_of new) × ((d : ℕ) → has_tree_of new d ≡ has_tree_of old d) × (waits_of new ≡ waits_of old) × IsUnchanged old.log new.log →
      ((d : ℕ) → trees_of new d ≡ trees_of old d) × (last_node_of new ≡ last_node_of old) → AreLeft old new
  trees_left_same old new same trees = record {
    cells = same.0;
    made = same.1;
    log = same.3;
    waits = same.2;
    fits = λ es base f. subst (λ (n : ℕ). ForestFits es base n (trees_of new)) (sym trees.1) (forest_same es base (last_node_of old) (trees_of old) (trees_of new) none_due trees.0 f);
  }

  -- ---- where numbers may be lacking

  -- nothing but that a transaction number was allocated
  pub drawn_left : (old new : LogTrees D) (kept other : Kept) → AreLeft old new → other ≡ kept → IsSame (drawn_contents (contents old kept)) (contents new (record other { last_txn = kept.last_txn + 1 }))
  drawn_left old new kept other left is = record {
    rows = committed_same (cells_of old) (cells_of new) left.cells;
    totals = ap (λ (k : Kept). k.totals) is;
    last_txn = refl;
    last_db = ap (λ (k : Kept). k.last_db) is;
    last_node = ap (λ (k : Kept). k.last_node) is;
    commits = ap (λ (k : Kept). k.commits) is;
    fault = ap (λ (k : Kept). k.fault) is;
    checkpoints = ap (λ (k : Kept). checkpoints_of k) is;
    fits = left.fits;
  }

  module _ (meaning : DiskMeaning D) where
    -- the answer where numbers may be lacking
    pub refused_logs : (old new : LogTrees D) (kept other : Kept) (planned : PlannedChanges) (found : Option TreeErr) (answer : Answer) → answer ≡ refusal_by found →
        (nat_lt LAST_DATABASE planned.last_db || nat_lt last_number (kept.last_node + numbers_for (length planned.changes.items))) ≡ true → AreLeft old new → other ≡ kept →
        LogsChanges meaning old.log new.log (contents old kept) (contents new (record other { last_txn = kept.last_txn + 1 })) planned found (Ok answer)
    refused_logs old new kept other planned found answer is lacks left same = subst (Logs found) (sym is) (by_found found)
      where
        Logs : Option TreeErr → Answer → Type 0
        Logs found a =
            LogsChanges meaning old.log new.log (contents old kept) (contents new (record other { last_txn = kept.last_txn + 1 })) planned found (Ok a)

        ended : (a b : Bool) → (a || b) ≡ true → nat_lt LAST_DATABASE planned.last_db ≡ a → (cond b (Some IdsEnded) None ≡ Some IdsEnded) ⊎ ((cond b (Some IdsEnded) None ≡ None) × (LAST_DATABASE < planned.last_db))
        ended a true h test = inl refl
        ended true false h test = inr (refl, ltb-true LAST_DATABASE planned.last_db test)
        ended false false h test = cc

        by_number : (limit_by None kept.last_node (length planned.changes.items) ≡ Some IdsEnded)
            ⊎ ((limit_by None kept.last_node (length planned.changes.items) ≡ None) × (LAST_DATABASE < planned.last_db))
        by_number = ended (nat_lt LAST_DATABASE planned.last_db) (nat_lt last_number (kept.last_node + numbers_for (length planned.changes.items))) lacks refl

        drawn : IsSame (drawn_contents (contents old kept)) (contents new (record other { last_txn = kept.last_txn + 1 }))
        drawn = drawn_left old new kept other left same

        by_found : (found : Option TreeErr) → Logs found (refusal_by found)
        by_found None = (by_number, drawn, left.log)
        by_found (Some Full) = (refl, drawn, left.log)
        by_found (Some NoNumber) = (by_number, drawn, left.log)
        by_found (Some Fault) = (by_number, drawn, left.log)
        by_found (Some Memory) = (by_number, drawn, left.log)

-- An environment that was opened: where the model starts, and a guarded run that begins.
use Rattle.std.proofs.Common.{◌≡◌, ℕ, ◌+◌, ◌-◌, ◌<◌, ◌≤◌, ◌==◌, nat_lt, cond, Bool, true, false, List, [], ◌∷◌, Option, Some, None, IfSome, Result, Ok, Err, IfOk, IfErr, OnOk, is_err, length, refl, ap, sym, ◌∙◌, subst, arith, map}
use Rattle.std.specs.Prelude.{◌||◌, ◌++◌, ◌/◌, ◌^◌, is_some}
use Rattle.std.specs.List.{AllByRecursion, list_any}
use Rattle.std.proofs.lemmas.Bool.{eqb-true}
use Rattle.std.proofs.lemmas.Bool.Decides.{nat_tests}
use Rattle.std.proofs.lemmas.List.{append-nil}
use Rattle.je_disk.specs.States.{Files, State, synced_crash_states}
use Rattle.je_disk.specs.Moments.{History, now}
use Rattle.je_order.specs.declared.name.Name.{Name}
use Rattle.je_order.proofs.Lists.{all_weaker}
use Rattle.store_model.specs.declared.store.Store.{Store}
use Rattle.store_model.specs.declared.totals.Totals.{Totals}
use Rattle.je_answers.specs.Alone.{Alone, alone}
use Rattle.log_file.specs.Log.{AreFileEntries, IsLog, Log, entries_of, log_in}
use Rattle.log_buffer.specs.declared.buffer.LogBuffer.{LogBuffer}
use Rattle.log_buffer.specs.declared.log_pos.LogPos.{LogPos}
use Rattle.log_buffer.specs.Buffer.{end_of, file_max_of, first_of, has_failed}
use Rattle.log_buffer.specs.Crash.{Holds}
use Rattle.log_buffer.specs.Flip.{pos_lsn}
use Rattle.log_buffer.specs.Log.{EndsAt, HasLog}
use Rattle.log_buffer.proofs.LogChanges.{AreBelow, below_last}
use Rattle.checkpointer.specs.declared.under_way.UnderWay.{UnderWay}
use Rattle.txn_log.specs.Checkpoints.{BeginsUpTo, EndsFrom}
use Rattle.log_replay.proofs.FilesLaws.{entries_of-append}
use Rattle.log_replay.proofs.ListLaws.{all_to_map}
use Rattle.log_replay.specs.Logging.{number_named}
use Rattle.log_replay.specs.Rows.{Row, Rows, are_distinct, catalog_number, data_at, numbers_of, store_of}
use Rattle.log_replay.proofs.StoreLaws.{environment_parts}
use Rattle.record_tree.specs.Stored.{values_of}
use Rattle.index_map.specs.Made.{made_in}
use Rattle.index_map.specs.Map.{HasIndexes}
use Rattle.db_names.specs.Names.{HasNames, names_in}
use Rattle.log_trees.specs.Placed.{Placed, placed}
use Rattle.log_meaning.specs.Checkpoint.{last_checkpoint, restarted}
use Rattle.log_meaning.specs.Found.{IsBegun}
use Rattle.log_meaning.specs.Meaning.{Meaning, rows_of}
use Rattle.log_meaning.specs.Recovery.{IsOpened as IsOpenedWith}
use Rattle.log_meaning.specs.Redo.{Redo, record_at}
use Rattle.log_meaning.specs.Stands.{Stands}
use Rattle.crash_recovery.specs.Opening.{IsOpenedLog, first_of_found, found_log}
use Rattle.crash_recovery.proofs.FoundLogs.{found_logs_recover}
use Rattle.crash_recovery.proofs.RisingLsns.{logs_lie_below}
use Rattle.recovery_je.specs.Finishing.{is_kept}
use Rattle.recovery_je.specs.declared.recovered.Recovered.{Recovered}
use Rattle.in_tree.specs.declared.trees.Trees.{Trees}
use Rattle.log_entry.specs.declared.entry.Entry.{Entry}
use Rattle.tree_images.specs.Forest.{ForestFits}
use Rattle.tree_images.proofs.ForestSteps.{forest_same}
use Rattle.in_tree.specs.Growing.{none_due, trees_at}
use Rattle.in_tree.specs.Observed.{cells_of, last_node_of, trees_of}
use Rattle.in_tree.proofs.LoadedLaws.{read_fits}
use Rattle.in_tree.specs.Whole.{has_tree_in, last_number_of, stored_within, waits_within}
use Rattle.txn_core.specs.Known.{committed, committed_rows}
use Rattle.txn_core.proofs.RecordLaws.{all_found}
use Rattle.engine.specs.declared.engine.Engine.{Engine}
use Rattle.engine.specs.declared.kept.Kept.{Kept}
use Rattle.engine.specs.Contents.{Contents}
use Rattle.engine.specs.Files.{end_file_in}
use Rattle.engine.specs.Environment.{AreAlone, GivesRecords}
use Rattle.engine.specs.Limits.{IsWithin, last_number, numbers_for, waiting_for}
use Rattle.engine.specs.Opening.{AreNumbers, FitWhatWasRead, HasBegun, HasNoNumbers, StartsAt, WasRead, log_start_of, kept_at_start, meaning_read, node_bound, reach_in, since_at}
use Rattle.engine.specs.Whole.{AreTrees, IsAt, IsOpened, IsOpenedAt, IsOpenedSafely, KeepsIndexes, KeepsNames, contents_of, reach_of}
use Rattle.engine.proofs.TransactionGrowth.{gives_moved}
use Rattle.engine.proofs.WholeLaws.{file_is}
use Rattle.engine.proofs.ClosedLaws.{guarded_none}
use Rattle.engine.proofs.NumberLaws.{kept_numbers}
use Rattle.engine.proofs.OpeningLaws.{AreLogFiles, File, found_ends, found_named, no_corruption, starts_in}
use Rattle.engine.proofs.RecoveredLaws.{AreRecovered, among_within, are_quiet, are_recovered, each_among, or_true, recovered_environment, recovered_rising, recovered_store, rows_of_cells, same_named_numbers, same_numbers, trees_made}

-- a file that is begun adds no entry
pub entries_begun : (before : Log) (f : ℕ) → entries_of (before ++ (f, []) ∷ []) ≡ entries_of before
entries_begun before f = entries_of-append before ((f, []) ∷ []) ∙ append-nil (entries_of before)

pub on_ok_not_err : {T E : Type 0} (r : Result T E) (P : Type 0) → is_err r ≡ false → OnOk r P → P
on_ok_not_err (Ok x) P works h = h
on_ok_not_err (Err e) P works h = cc

pub if_ok_map : {T E : Type 0} (r : Result T E) (P Q : T → Type 0) → ((x : T) → P x → Q x) → IfOk r P → IfOk r Q
if_ok_map (Ok x) P Q f h = f x h
if_ok_map (Err e) P Q f h = tt

pub if_err_map : {T E : Type 0} (r : Result T E) (P Q : E → Type 0) → ((e : E) → P e → Q e) → IfErr r P → IfErr r Q
if_err_map (Ok x) P Q f h = tt
if_err_map (Err e) P Q f h = f e h

pub on_ok_map : {T E : Type 0} (r : Result T E) (P Q : Type 0) → (P → Q) → OnOk r P → OnOk r Q
on_ok_map (Ok x) P Q f h = f h
on_ok_map (Err e) P Q f h = tt

-- ---- the records that a log gives

-- the catalog, the databases that it names, and numbers that were not allocated
abbrev is_open_in : Redo → ℕ → ℕ → Bool
is_open_in redo last d = is_kept (numbers_of (rows_of redo)) d || nat_lt last d

-- the catalog names no later number
numbers_within : (first : ℕ) (es : List Placed) (base : ℕ) (meaning : Meaning) → IsOpenedWith first es meaning → IsBegun first es base meaning →
    AllByRecursion (λ n. n ≤ meaning.last_db) (numbers_of (rows_of (restarted es)))
numbers_within first es base meaning opened begun =
    all_to_map (λ (r : Row). catalog_number r.1) (λ n. n ≤ meaning.last_db) (rows_of (restarted es) 0)
    (all_weaker (λ (r : Row). data_at r.0 (rows_of (restarted es) 0) ≡ Some r.1) (λ r. catalog_number r.1 ≤ meaning.last_db)
    (λ r found. subst (λ (o : Option (List ℕ)). IfSome o (λ bytes. catalog_number bytes ≤ meaning.last_db)) (sym (begun.listed.data_is 0 r.0 refl) ∙ found) (opened.last_job.named r.0))
    (rows_of (restarted es) 0) (all_found (rows_of (restarted es) 0) (begun.listed.rising 0)))

-- a log that was found gives the records of the environment that was recovered from it
pub gives_records : (log : Log) (end : LogPos) (first : ℕ) (meaning : Meaning) (c : Contents) → IsOpenedWith first (placed log) meaning → IsBegun first (placed log) (pos_lsn end - 1) meaning →
    0 < pos_lsn end - 1 → AreRecovered (restarted (placed log)) c.rows → c.last_txn ≡ meaning.last_txn → c.last_db ≡ meaning.last_db → GivesRecords log end c
gives_records log end first meaning c opened begun some is txn db = record {
  base = base;
  next = base;
  is_open = open_;
  stands = subst (λ (n : ℕ). Stands es base base open_ (λ d x. data_at x (c.rows d)) (λ t. nat_lt n t) (λ t. [])) (sym txn) stands;
  below = omega (arith, some);
  listed = record {
    rising = recovered_rising redo c.rows is begun.listed.rising;
    data_is = λ d x h. refl;
    catalog = refl;
    named = subst (λ (ns : List ℕ). AllByRecursion (λ n. open_ n ≡ true) ns) (sym (same_numbers redo c.rows is)) (all_weaker (λ n. list_any (λ m. m == n) names ≡ true) (λ n. open_ n ≡ true)
        (λ n h. ap (λ (b : Bool). ((n == 0) || b) || nat_lt meaning.last_db n) h ∙ ap (λ (b : Bool). b || nat_lt meaning.last_db n) (or_true (n == 0))) names (each_among names));
    environment = recovered_environment redo c.rows is ∙ begun.listed.environment;
  };
  later = λ d late. ap (λ (b : Bool). is_kept names d || b) (past d late) ∙ or_true (is_kept names d);
  unused = λ d late. unused d late (is_kept names d) refl;
  numbers = subst (λ (ns : List ℕ). AllByRecursion (λ n. n ≤ c.last_db) ns) (sym (same_numbers redo c.rows is))
      (subst (λ (b : ℕ). AllByRecursion (λ n. n ≤ b) names) (sym db) within);
} where
  es : List Placed
  es = placed log

  base : ℕ
  base = pos_lsn end - 1

  redo : Redo
  redo = restarted es

  names : List ℕ
  names = numbers_of (rows_of redo)

  open_ : ℕ → Bool
  open_ = is_open_in redo meaning.last_db

  within : AllByRecursion (λ n. n ≤ meaning.last_db) names
  within = numbers_within first es base meaning opened begun

  past : (d : ℕ) → c.last_db < d → nat_lt meaning.last_db d ≡ true
  past d late = let same = db in grind (arith, nat_tests)

  unused : (d : ℕ) → c.last_db < d → (b : Bool) → is_kept names d ≡ b → c.rows d ≡ []
  unused d late false h = is.none d h
  unused d late true h = absurd (by_zero (d == 0) refl h)
    where
      by_zero : (b : Bool) → (d == 0) ≡ b → (b || list_any (λ n. n == d) names) ≡ true → ⊥
      by_zero true e h = let at : d ≡ 0 = eqb-true d 0 e in omega (arith, at, late)
      by_zero false e h = let low : d ≤ meaning.last_db = among_within meaning.last_db names d within h in omega (arith, low, late, db)

  same : (d : ℕ) (x : Name) → open_ d ≡ true → (record_at redo d x).value ≡ data_at x (c.rows d)
  same d x h = by_kept (is_kept names d) refl h
    where
      by_kept : (b : Bool) → is_kept names d ≡ b → (b || nat_lt meaning.last_db d) ≡ true → (record_at redo d x).value ≡ data_at x (c.rows d)
      by_kept true k h = sym (begun.listed.data_is d x refl) ∙ ap (λ (rows : List Row). data_at x rows) (sym (is.kept d k))
      by_kept false k h =
          let late : meaning.last_db < d = grind (arith, nat_tests) in
          ap (λ w. w.value) (opened.last_job.databases d x late) ∙ ap (λ (rows : List Row). data_at x rows) (sym (is.none d k))

  stands : Stands es base base open_ (λ d x. data_at x (c.rows d)) (λ t. nat_lt meaning.last_txn t) (λ t. [])
  stands = let s = begun.stands in record {
    begun = s.begun;
    reach = s.reach;
    past = s.past;
    past_own = s.past_own;
    same = same;
    own = s.own;
    redo = s.redo;
    tied = λ d x h behind. s.tied d x refl behind ∙ same d x h;
    later = s.later;
    alone = s.alone;
    apart = s.apart;
  }

-- ---- what was read

-- the files of a log that was read
pub files_read : (observable : Bool) (reads : Files) (r : Recovered Trees) (w : WasRead observable reads r) → AreLogFiles w.held r.tail
files_read observable reads r w = record { bytes = w.is.bytes; rising = w.is.rising; none = no_corruption w.held (meaning_read r) w.is.meaning_is; last = w.is.tail_is }

-- the log that is gone on from recovers the store that was read
opened_log : (observable : Bool) (reads : Files) (r : Recovered Trees) (w : WasRead observable reads r) → IsOpenedLog 0 w.held (log_start_of r.tail) (meaning_read r)
opened_log observable reads r w =
    let files = files_read observable reads r w in
    let ends = found_ends w.held r.tail files in
    found_logs_recover 0 w.held (log_start_of r.tail) ends.0 (meaning_read r) (found_named w.held r.tail files) ends.1 w.is.meaning_is

placed_found : (held : List File) → placed (log_in held) ≡ placed (found_log 0 held)
placed_found [] = refl
placed_found (file ∷ held) = refl

-- no node's number is above this one, which a node may have; no more nodes wait than the entries leave that were redone, and the trees fit the log
pub record IsNodeBound (r : Recovered Trees) (bound : ℕ) : Type 0 where
  pub is : bound ≡ r.last_node + numbers_for (r.redone + 1)
  pub within : bound ≤ last_number
  pub waits : waits_within r.trees ≤ waiting_for r.redone
  pub fits : FitWhatWasRead r

bound_is : (sum bound : ℕ) → Some bound ≡ cond (nat_lt last_number sum) None (Some sum) → (bound ≡ sum) × (bound ≤ last_number)
bound_is sum bound h = by_test (nat_lt last_number sum) refl h
  where
    by_test : (b : Bool) → nat_lt last_number sum ≡ b → Some bound ≡ cond b None (Some sum) → (bound ≡ sum) × (bound ≤ last_number)
    by_test true test h = cc
    by_test false test h = let is : bound ≡ sum = cc in (is, grind (arith, nat_tests))

pub bound_found : (r : Recovered Trees) (bound : ℕ) → FitWhatWasRead r → waits_within r.trees ≤ waiting_for r.redone →
    Some bound ≡ cond (nat_lt last_number (r.last_node + numbers_for (r.redone + 1))) None (Some (r.last_node + numbers_for (r.redone + 1))) → IsNodeBound r bound
bound_found r bound fits waits h = let both = bound_is (r.last_node + numbers_for (r.redone + 1)) bound h in record { is = both.0; within = both.1; waits = waits; fits = fits }

-- it is that of the files
bound_held : (observable : Bool) (reads : Files) (r : Recovered Trees) (w : WasRead observable reads r) (bound : ℕ) → IsNodeBound r bound → bound ≡ node_bound w.held (meaning_read r)
bound_held observable reads r w bound is = is.is ∙ ap (λ (n : ℕ). r.last_node + numbers_for (n + 1)) w.is.redone_are

-- files whose nodes' numbers may pass the last one
pub no_numbers : (reads : Files) (r : Recovered Trees) → WasRead true reads r → None ≡ cond (nat_lt last_number (r.last_node + numbers_for (r.redone + 1))) None (Some (r.last_node + numbers_for (r.redone + 1))) →
    HasNoNumbers reads
no_numbers reads r w h = record {
  held = w.held;
  are = w.are refl;
  meaning = meaning_read r;
  reads = w.is.meaning_is;
  indexed = w.is.indexed;
  past = subst (λ (n : ℕ). last_number < r.last_node + numbers_for (n + 1)) w.is.redone_are (by_test (nat_lt last_number (r.last_node + numbers_for (r.redone + 1))) refl h);
} where
  by_test : (b : Bool) → nat_lt last_number (r.last_node + numbers_for (r.redone + 1)) ≡ b → None ≡ cond b None (Some (r.last_node + numbers_for (r.redone + 1))) → last_number < r.last_node + numbers_for (r.redone + 1)
  by_test true test h = grind (arith, nat_tests)
  by_test false test h = cc

-- the numbers of nodes have not ended
pub more_left : (trees : Trees) (last : ℕ) → last ≡ last_number_of trees → last < last_number → last_number_of trees < last_number
more_left trees last is more = subst (λ (n : ℕ). n < last_number) is more

-- the trees fit the log that was read
pub fit_read : (r : Recovered Trees) → last_number_of r.trees < last_number → FitWhatWasRead r
fit_read r more observable reads w base small below =
    let again = w.is.fit in
    let es = placed (log_in w.held) in
    again.fit base small below (read_fits again.read es (last_checkpoint es) base again.formed again.roots below) more below

-- the first file's number is at most that of an LSN at the log's end or behind it
begins_up_to : (log : Log) (end : LogPos) (last since : ℕ) → IsLog log → EndsAt log end.file end.offset last → pos_lsn end ≤ since → BeginsUpTo log (since / 2 ^ 32)
begins_up_to log end last since is ends behind =
    subst (λ (l : Log). BeginsUpTo l (since / 2 ^ 32)) (sym ends.log_is) (by_front ends.before (below_last ends.before (end.file, ends.entries) (subst IsLog ends.log_is is)))
  where
    by_front : (before : Log) → AreBelow end.file before → BeginsUpTo (before ++ (end.file, ends.entries) ∷ []) (since / 2 ^ 32)
    by_front [] below = omega (arith, behind)
    by_front (file ∷ before) below = let low = below.0 in omega (arith, behind, low)

-- the LSN where a log ends has 64 bits
last_holds : {A : Type 0} (P : A → Type 0) (before : List A) (x : A) → AllByRecursion P (before ++ x ∷ []) → P x
last_holds P [] x all = all.0
last_holds P (y ∷ before) x all = last_holds P before x all.1

end_small : (log : Log) (end : LogPos) (last : ℕ) → IsLog log → EndsAt log end.file end.offset last → pos_lsn end - 1 < 2 ^ 64
end_small log end last is ends =
    let file = last_holds (λ (f : ℕ × List Entry). (f.0 < 2 ^ 32) × AreFileEntries f.1) ends.before (end.file, ends.entries) (subst (AllByRecursion (λ (f : ℕ × List Entry). (f.0 < 2 ^ 32) × AreFileEntries f.1)) ends.log_is is.each) in
    let low : end.file < 2 ^ 32 = file.0 in
    let size = file.1.ends in
    let offset = ends.offset_is in
    omega (arith, low, size, offset)

-- ---- the environment

-- where an environment starts
abbrev pub start_alone : Recovered Trees → Rows → Alone
start_alone r rows = record {
  store = r.opening;
  numbers = number_named rows;
  last_txn = r.last_txn;
  last_db = r.last_db;
  commits = 0;
  begun = None;
  fault = None;
  in_checkpoint = false;
}

module _ {D : Type 0} where
  -- a buffer that works has the log that is gone on from
  pub record IsReady (most : ℕ) (observable : Bool) (reads : Files) (state : State) (r : Recovered Trees) (w : WasRead observable reads r) (buffer : LogBuffer D) : Type 0 where
    pub has : HasLog observable state buffer (found_log 0 w.held)
    pub end : end_of buffer ≡ log_start_of r.tail
    pub file_max : file_max_of buffer ≡ most
    pub works : has_failed buffer ≡ false

  -- an environment begins over it
  pub record IsBeginning (most : ℕ) (observable : Bool) (reads : Files) (state : State) (r : Recovered Trees) (w : WasRead observable reads r) (bound : ℕ) (engine : Engine D) : Type 0 where
    pub ready : IsReady most observable reads state r w engine.trees.log
    pub begun : HasBegun engine.trees.log r bound engine
    pub bound_is : IsNodeBound r bound

  -- its records are those that were recovered
  recovered_rows : (most : ℕ) (observable : Bool) (reads : Files) (state : State) (r : Recovered Trees) (w : WasRead observable reads r) (bound : ℕ) (engine : Engine D) →
      IsBeginning most observable reads state r w bound engine → AreRecovered (restarted (placed (found_log 0 w.held))) (committed (cells_of engine.trees))
  recovered_rows most observable reads state r w bound engine is =
      subst (λ (es : List Placed). AreRecovered (restarted es) (committed (cells_of engine.trees))) (placed_found w.held)
      (are_recovered (restarted (placed (log_in w.held))) (has_tree_in r.trees) (stored_within r.trees) (cells_of engine.trees) w.is.trees is.begun.cells)

  -- and the log gives them
  gives_opened : (most : ℕ) (observable : Bool) (reads : Files) (state : State) (r : Recovered Trees) (w : WasRead observable reads r) (bound : ℕ) (engine : Engine D) →
      IsBeginning most observable reads state r w bound engine → GivesRecords (found_log 0 w.held) (log_start_of r.tail) (contents_of engine)
  gives_opened most observable reads state r w bound engine is =
      let files = files_read observable reads r w in
      let ends = found_ends w.held r.tail files in
      let found = opened_log observable reads r w in
      gives_records (found_log 0 w.held) (log_start_of r.tail) (first_of_found 0 w.held) (meaning_read r) (contents_of engine) found.opened found.begun
      (logs_lie_below (found_log 0 w.held) (log_start_of r.tail) ends.0 (found_named w.held r.tail files).is_log ends.1).some
      (recovered_rows most observable reads state r w bound engine is) (ap (λ (k : Kept). k.last_txn) is.begun.kept) (ap (λ (k : Kept). k.last_db) is.begun.kept)

  opened_store : (most : ℕ) (observable : Bool) (reads : Files) (state : State) (r : Recovered Trees) (w : WasRead observable reads r) (bound : ℕ) (engine : Engine D) →
      IsBeginning most observable reads state r w bound engine → store_of (committed (cells_of engine.trees)) ≡ r.opening
  opened_store most observable reads state r w bound engine is =
      recovered_store (restarted (placed (found_log 0 w.held))) (committed (cells_of engine.trees)) (recovered_rows most observable reads state r w bound engine is) ∙ (opened_log observable reads r w).begun.store

  -- the trees fit it
  opened_fits : (most : ℕ) (observable : Bool) (reads : Files) (state : State) (r : Recovered Trees) (w : WasRead observable reads r) (bound : ℕ) (engine : Engine D) →
      IsBeginning most observable reads state r w bound engine → ForestFits (placed (found_log 0 w.held)) (pos_lsn (log_start_of r.tail) - 1) (last_node_of engine.trees) (trees_of engine.trees)
  opened_fits most observable reads state r w bound engine is =
      let files = files_read observable reads r w in
      let ends = found_ends w.held r.tail files in
      let base : ℕ = pos_lsn (log_start_of r.tail) - 1 in
      let below : AllByRecursion (λ (p : ℕ × Entry). p.0 < base) (placed (found_log 0 w.held)) =
      (logs_lie_below (found_log 0 w.held) (log_start_of r.tail) ends.0 (found_named w.held r.tail files).is_log ends.1).below in
      subst (λ (es : List Placed). ForestFits es base (last_node_of engine.trees) (trees_of engine.trees)) (placed_found w.held)
      (subst (λ (n : ℕ). ForestFits (placed (log_in w.held)) base n (trees_of engine.trees)) (sym is.begun.last)
      (forest_same (placed (log_in w.held)) base (last_number_of r.trees) (trees_at r.trees.forest) (trees_of engine.trees) none_due is.begun.forest
      (is.bound_is.fits observable reads w base (end_small (found_log 0 w.held) (log_start_of r.tail) ends.0 (found_named w.held r.tail files).is_log ends.1) (subst (λ (es : List Placed). AllByRecursion (λ (p : ℕ × Entry). p.0 < base) es) (sym (placed_found w.held)) below))))

  -- and a redo of it may begin from there on
  opened_from : (most : ℕ) (observable : Bool) (reads : Files) (state : State) (r : Recovered Trees) (w : WasRead observable reads r) (bound : ℕ) (engine : Engine D) →
      IsBeginning most observable reads state r w bound engine → EndsFrom (found_log 0 w.held) (pos_lsn (log_start_of r.tail) - 1) engine.kept.since
  opened_from most observable reads state r w bound engine is =
      let files = files_read observable reads r w in
      let ends = found_ends w.held r.tail files in
      let since : engine.kept.since ≡ since_at (log_start_of r.tail) r = ap (λ (k : Kept). k.since) is.begun.kept ∙ ap (λ (end : LogPos). since_at end r) is.ready.end in
      subst (EndsFrom (found_log 0 w.held) (pos_lsn (log_start_of r.tail) - 1)) (sym since) (record {
        life = omega arith;
        redo = subst (λ (es : List Placed). (last_checkpoint es).redo ≤ since_at (log_start_of r.tail) r) (placed_found w.held) (let redo = w.is.fit.redo_is in omega (arith, redo));
        file = begins_up_to (found_log 0 w.held) (log_start_of r.tail) ends.0 (since_at (log_start_of r.tail) r) (found_named w.held r.tail files).is_log ends.1 (omega arith);
      })

  -- an environment that begins is where the model starts
  opened_alone : (most : ℕ) (observable : Bool) (reads : Files) (state : State) (r : Recovered Trees) (w : WasRead observable reads r) (bound : ℕ) (engine : Engine D) →
      IsBeginning most observable reads state r w bound engine →
      AreAlone most observable state engine.trees.log (contents_of engine) (start_alone r (committed (cells_of engine.trees)))
  unfolding gives_records gives_opened
  opened_alone most observable reads state r w bound engine is =
      let found = opened_log observable reads r w in
      let make : ℕ → ℕ → Totals = λ d n. record { databases = d; records = n } in
      record {
        file_max = is.ready.file_max;
        fault = ap (λ (k : Kept). k.fault) is.begun.kept;
        last_txn = ap (λ (k : Kept). k.last_txn) is.begun.kept;
        last_db = ap (λ (k : Kept). k.last_db) is.begun.kept;
        commits = ap (λ (k : Kept). k.commits) is.begun.kept;
        totals = ap (λ (k : Kept). k.totals) is.begun.kept ∙ ap (λ d. make d r.records) w.is.databases_are ∙ ap (λ n. make (length r.opening.databases) n) w.is.records_are;
        checkpoint = ap (λ (o : Option UnderWay). is_some o) is.begun.none_begun;
        numbers = λ none. refl;
        valid = λ none. record {
          log = found_log 0 w.held;
          has = is.ready.has;
          works = is.ready.works;
          gives = gives_moved (found_log 0 w.held) (log_start_of r.tail) (end_of engine.trees.log) (contents_of engine) is.ready.end (gives_opened most observable reads state r w bound engine is);
          recovers = record { first = first_of_found 0 w.held; opening = r.opening; base = length (placed (found_log 0 w.held)); transactions = []; recovers = found.recovers; made = refl };
          made = opened_store most observable reads state r w bound engine is;
          fits = opened_fits most observable reads state r w bound engine is;
          from = opened_from most observable reads state r w bound engine is;
        };
      }

  -- the model starts from what the files mean
  starts_opened : (most : ℕ) (observable : Bool) (reads : Files) (state : State) (r : Recovered Trees) (w : WasRead observable reads r) (bound : ℕ) (engine : Engine D) →
      IsBeginning most observable reads state r w bound engine → StartsAt observable reads r.opening (alone (start_alone r (committed (cells_of engine.trees))))
  starts_opened most observable reads state r w bound engine is =
      let rows : Rows = committed (cells_of engine.trees) in
      let gives = gives_opened most observable reads state r w bound engine is in
      let last_db : engine.kept.last_db ≡ r.last_db = ap (λ (k : Kept). k.last_db) is.begun.kept in
      record {
        alone_at = start_alone r rows;
        st_is = refl;
        store = refl;
        commits = refl;
        begun = refl;
        fault = refl;
        checkpoint = refl;
        numbers = subst (λ (s : Store). AreNumbers s r.last_db (number_named rows)) (opened_store most observable reads state r w bound engine is)
            (kept_numbers rows r.last_db gives.listed.environment (gives.listed.rising 0) (subst (λ (b : ℕ). AllByRecursion (λ n. n ≤ b) (numbers_of rows)) last_db gives.numbers));
        held = w.held;
        observed = w.are;
        named = same_named_numbers (restarted (placed (log_in w.held))) rows
            (are_recovered (restarted (placed (log_in w.held))) (has_tree_in r.trees) (stored_within r.trees) (cells_of engine.trees) w.is.trees is.begun.cells);
        meaning = meaning_read r;
        means = w.is.meaning_is;
        means_store = refl;
        indexed = w.is.indexed;
        means_txn = refl;
        means_db = refl;
        nodes = subst (λ (n : ℕ). n ≤ last_number) (bound_held observable reads r w bound is.bound_is) is.bound_is.within;
      }

  -- the trees are those of the catalog and of the databases that it names
  trees_opened : (most : ℕ) (observable : Bool) (reads : Files) (state : State) (r : Recovered Trees) (w : WasRead observable reads r) (bound : ℕ) (engine : Engine D) →
      IsBeginning most observable reads state r w bound engine → AreTrees engine.trees
  trees_opened most observable reads state r w bound engine is = record {
    quiet = are_quiet (cells_of engine.trees) (stored_within r.trees) is.begun.cells;
    made = λ db. is.begun.trees db ∙ trees_made (restarted (placed (log_in w.held))) (has_tree_in r.trees) (stored_within r.trees) (committed (cells_of engine.trees)) db w.is.trees
        (are_recovered (restarted (placed (log_in w.held))) (has_tree_in r.trees) (stored_within r.trees) (cells_of engine.trees) w.is.trees is.begun.cells);
  }

  at_start : (most : ℕ) (observable : Bool) (reads : Files) (state : State) (r : Recovered Trees) (w : WasRead observable reads r) (bound : ℕ) (engine : Engine D) →
      IsBeginning most observable reads state r w bound engine → IsAt most observable state engine (alone (start_alone r (committed (cells_of engine.trees))))
  at_start most observable reads state r w bound engine is = record {
    at = record { alone_at = start_alone r (committed (cells_of engine.trees)); st_is = refl; here = opened_alone most observable reads state r w bound engine is };
    trees = λ none. trees_opened most observable reads state r w bound engine is;
  }

  -- it reaches no farther than its files tell
  reach_opened : (most : ℕ) (observable : Bool) (reads : Files) (state : State) (r : Recovered Trees) (w : WasRead observable reads r) (bound : ℕ) (engine : Engine D) →
      IsBeginning most observable reads state r w bound engine → IsWithin (reach_of engine) (reach_in w.held (meaning_read r))
  reach_opened most observable reads state r w bound engine is =
      let file = file_is engine is.ready.works in
      let end : (end_of engine.trees.log).file ≡ end_file_in w.held = ap (λ (end : LogPos). end.file) is.ready.end ∙ starts_in w.held r.tail w.is.tail_is in
      let waits = is.begun.waits in
      let few = subst (λ (n : ℕ). waits_within r.trees ≤ waiting_for n) w.is.redone_are is.bound_is.waits in
      let node : engine.kept.last_node ≡ node_bound w.held (meaning_read r) = ap (λ (k : Kept). k.last_node) is.begun.kept ∙ bound_held observable reads r w bound is.bound_is in
      record { file = omega (arith, file, end, waits, few); node = omega (arith, node) }

  opened_here : (most : ℕ) (observable : Bool) (reads : Files) (state : State) (r : Recovered Trees) (w : WasRead observable reads r) (bound : ℕ) (engine : Engine D) →
      IsBeginning most observable reads state r w bound engine → IsOpenedAt most observable reads state engine r.opening (alone (start_alone r (committed (cells_of engine.trees))))
  unfolding starts_opened
  opened_here most observable reads state r w bound engine is =
      record {
        starts = starts_opened most observable reads state r w bound engine is;
        here = at_start most observable reads state r w bound engine is;
        reach = reach_opened most observable reads state r w bound engine is;
      }

  opened : (most : ℕ) (observable : Bool) (reads : Files) (state : State) (r : Recovered Trees) (w : WasRead observable reads r) (bound : ℕ) (engine : Engine D) →
      IsBeginning most observable reads state r w bound engine → IsOpened most observable reads state engine r.opening
  opened most observable reads state r w bound engine is = (alone (start_alone r (committed (cells_of engine.trees))), opened_here most observable reads state r w bound engine is)

  -- over an observable disk on which all is stable a guarded run begins
  opened_safely : (most : ℕ) (reads : Files) (history : History) (r : Recovered Trees) (w : WasRead true reads r) (bound : ℕ) (engine : Engine D) →
      IsBeginning most true reads (now history) r w bound engine → (now history).crash_states ≡ synced_crash_states (now history).reads →
      Holds (found_log 0 w.held) [] (length (entries_of (found_log 0 w.held))) None (first_of engine.trees.log) (now history) → IsOpenedSafely most reads r.opening history engine
  opened_safely most reads history r w bound engine is stable holds =
      let here = opened_here most true reads (now history) r w bound engine is in
      let p : Alone = start_alone r (committed (cells_of engine.trees)) in
      record {
        st = alone p;
        starts = here.starts;
        here = here.here;
        reach = here.reach;
        stable = stable;
        guarded = (found_log 0 w.held, guarded_none (first_of_found 0 w.held) p (found_log 0 w.held) history engine.trees.log refl refl refl is.ready.has holds (opened_log true reads r w).recovers stable);
      }

  kept_under : (r : Recovered Trees) (bound : ℕ) (buffer : LogBuffer D) (engine : Engine D) → HasBegun buffer r bound engine → engine.kept ≡ kept_at_start r bound (end_of engine.trees.log) engine.kept.checkpoints engine.kept.indexes engine.kept.names
  kept_under r bound buffer engine begun = subst (λ (b : LogBuffer D). engine.kept ≡ kept_at_start r bound (end_of b) engine.kept.checkpoints engine.kept.indexes engine.kept.names) (sym begun.log_is) begun.kept

  -- what begins over a buffer that has the log
  begins : (most : ℕ) (observable : Bool) (reads : Files) (state : State) (r : Recovered Trees) (w : WasRead observable reads r) (bound : ℕ) (buffer : LogBuffer D) (engine : Engine D) →
      IsReady most observable reads state r w buffer → HasBegun buffer r bound engine → IsNodeBound r bound → IsBeginning most observable reads state r w bound engine
  begins most observable reads state r w bound buffer engine ready begun bound_is = record {
    ready = subst (λ (b : LogBuffer D). IsReady most observable reads state r w b) (sym begun.log_is) ready;
    begun = record { log_is = refl; cells = begun.cells; trees = begun.trees; waits = begun.waits; kept = kept_under r bound buffer engine begun; last_checkpoint = begun.last_checkpoint; none_begun = begun.none_begun; forest = begun.forest; last = begun.last };
    bound_is = bound_is;
  }

  -- the engine that was opened, under equal names
  pub engine_opened : (most : ℕ) (observable : Bool) (reads : Files) (state other : State) (r : Recovered Trees) (w : WasRead observable reads r) (bound : ℕ) (buffer : LogBuffer D) (engine : Engine D) (opening : Store) →
      other ≡ state → opening ≡ r.opening → IsReady most observable reads state r w buffer → HasBegun buffer r bound engine → IsNodeBound r bound → IsOpened most observable reads other engine opening
  engine_opened most observable reads state other r w bound buffer engine opening same store ready begun bound_is =
      subst (λ (s : State). IsOpened most observable reads s engine opening) (sym same)
      (subst (λ (o : Store). IsOpened most observable reads state engine o) (sym store)
      (opened most observable reads state r w bound engine (begins most observable reads state r w bound buffer engine ready begun bound_is)))

  pub engine_opened_safely : (most : ℕ) (reads : Files) (history other : History) (r : Recovered Trees) (w : WasRead true reads r) (bound : ℕ) (buffer : LogBuffer D) (engine : Engine D) (opening : Store) →
      other ≡ history → opening ≡ r.opening → IsReady most true reads (now history) r w buffer → HasBegun buffer r bound engine → IsNodeBound r bound →
      (now history).crash_states ≡ synced_crash_states (now history).reads → Holds (found_log 0 w.held) [] (length (entries_of (found_log 0 w.held))) None (first_of buffer) (now history) →
      IsOpenedSafely most reads opening other engine
  engine_opened_safely most reads history other r w bound buffer engine opening same store ready begun bound_is stable holds =
      subst (λ (h : History). IsOpenedSafely most reads opening h engine) (sym same)
      (subst (λ (o : Store). IsOpenedSafely most reads o history engine) (sym store)
      (opened_safely most reads history r w bound engine (begins most true reads (now history) r w bound buffer engine ready begun bound_is) stable
      (subst (λ (b : LogBuffer D). Holds (found_log 0 w.held) [] (length (entries_of (found_log 0 w.held))) None (first_of b) (now history)) (sym begun.log_is) holds)))

  -- and it keeps the indexes that its catalog makes
  pub engine_keeps : (most : ℕ) (observable : Bool) (reads : Files) (state : State) (r : Recovered Trees) (w : WasRead observable reads r) (bound : ℕ) (buffer : LogBuffer D) (engine : Engine D) →
      IsReady most observable reads state r w buffer → HasBegun buffer r bound engine → IsNodeBound r bound →
      (are_distinct (map (λ (x : Row). catalog_number x.1) (values_of (stored_within r.trees 0))) ≡ true → HasIndexes (made_in (values_of (stored_within r.trees 0))) engine.kept.indexes) → KeepsIndexes engine
  engine_keeps most observable reads state r w bound buffer engine ready begun bound_is has =
      let gives = gives_opened most observable reads state r w bound engine (begins most observable reads state r w bound buffer engine ready begun bound_is) in
      let rows : Rows = committed (cells_of engine.trees) in
      let same : rows 0 ≡ values_of (stored_within r.trees 0) = ap committed_rows (begun.cells 0) ∙ rows_of_cells (stored_within r.trees 0) in
      subst (λ (l : List Row). HasIndexes (made_in l) engine.kept.indexes) (sym same)
      (has (subst (λ (l : List Row). are_distinct (map (λ (x : Row). catalog_number x.1) l) ≡ true) same (environment_parts rows gives.listed.environment).distinct))

  -- and the names that it has
  pub engine_names : (r : Recovered Trees) (bound : ℕ) (buffer : LogBuffer D) (engine : Engine D) → HasBegun buffer r bound engine → HasNames (names_in (values_of (stored_within r.trees 0))) engine.kept.names → KeepsNames engine
  engine_names r bound buffer engine begun has =
      subst (λ (l : List Row). HasNames (names_in l) engine.kept.names) (sym (ap committed_rows (begun.cells 0) ∙ rows_of_cells (stored_within r.trees 0))) has

-- What became of a call's changes that were to be logged.
use Rattle.std.specs.Prelude.{ℕ, ◌≡◌, ◌≢◌, ◌≤◌, ◌+◌, ◌||◌, ◌++◌, ◌∷◌, [], List, Option, None, Some, Bool, true, false, length, nat_lt, unwrap_or, count_by, Result, Ok, Err, if◌then◌else◌}
use Rattle.log_trees.specs.Placed.{placed}
use Rattle.log_buffer.specs.Growth.{longer}
use Rattle.log_buffer.specs.Flip.{pos_lsn}
use Rattle.log_buffer.specs.Log.{HasLog}
use Rattle.log_file.specs.Log.{Log}
use Rattle.std.specs.declared.alloc.AllocError.{AllocError}
use Rattle.std.specs.List.{AllByRecursion}
use Rattle.je_disk.specs.DiskMeaning.{DiskMeaning}
use Rattle.je_disk.specs.Moments.{now}
use Rattle.std.specs.Option.{is_some, option_map_or}
use Rattle.je_order.specs.Transactions.{is_same_txn}
use Rattle.je_order.specs.declared.txn_id.TxnId.{TxnId}
use Rattle.store_model.specs.declared.isolation.Isolation.TheVariants.{RepeatableRead}
use Rattle.record_tree.specs.Occupied.{AllCells, AreWritten}
use Rattle.record_tree.specs.declared.tree_change.TreeChange.{TreeChange}
use Rattle.record_tree.specs.declared.tree_name.TreeName.{TreeName}
use Rattle.record_map.specs.Cells.{IsRising, value_at}
use Rattle.store_model.specs.declared.answer.Answer.TheVariants.{LogFull, IdsEnded}
use Rattle.store_model.specs.declared.answer.Fault.TheVariants.{Disk}
use Rattle.store_model.specs.declared.record_change.RecordChange.{RecordChange}
use Rattle.store_model.specs.Needs.{changed_name}
use Rattle.store_model.specs.Indexes.{Numbered}
use Rattle.je_answers.specs.Standing.{Standing}
use Rattle.je_answers.specs.Views.{with_names, with_numbers}
use Rattle.log_buffer.specs.Buffer.{IsUnchanged, disk_of as disk_below, file_max_of, end_of}
use Rattle.in_tree.specs.declared.logged_trees.LogTrees.{LogTrees}
use Rattle.in_tree.specs.Limits.{GrewFitting, HasRoomFor, TriedFitting, commit_sizes}
use Rattle.in_tree.specs.Logging.{first_in as first_logged}
use Rattle.in_tree.specs.Observed.{cells_of, has_tree_of, limit_in, waits_of}
use Rattle.record_tree.specs.Logged.{IsFront, LogsChanges, is_made, most_entries}
use Rattle.record_tree.specs.declared.tree_err.TreeErr.{TreeErr}
use Rattle.record_tree.specs.declared.tree_err.TreeErr.TheVariants.{Full as TooFull}
use Rattle.log_entry.specs.declared.entry.Entry.{Entry}
use Rattle.sessions.specs.AtStanding.{with_own}
use Rattle.standing_laws.specs.Laws.{IsOnlyOf}
use Rattle.standing_laws.specs.Right.{txn_id}
use Rattle.txn_views.specs.Seen.{seen_value}
use Rattle.engine.specs.Limits.{last_number, numbers_for}
use Rattle.engine.specs.Whole.{AreLeft, end_file}
use Rattle.environment.specs.declared.environment.Environment.{Environment}
use Rattle.environment.specs.declared.wrote.Wrote.{Wrote}
use Rattle.environment.specs.declared.wrote.Wrote.TheVariants.{Done, Full, NoNumbers, Failed}
use Rattle.environment.specs.declared.wrote.TreesWrote.{TreesWrote}
use Rattle.environment.specs.declared.wrote.TreesWrote.TheVariants.{Done as TreesDone, Full as TreesFull, Failed as TreesFailed}
use Rattle.environment.specs.Changing.{AreApartIn, IsRightIn}
use Rattle.environment.specs.Steps.{HasFailedWith, HasLoggedCall}
use Rattle.environment.specs.Valid.{IsValidWith, fitting}
use Rattle.environment.specs.Whole.{HasLimit}
use Rattle.environment.specs.Written.{first_at, first_for, first_noted, had_at, names_at}

-- whether the name of a change has a record that a transaction sees, with its own changes
abbrev pub has_record : TxnId → AllCells → TreeChange → Bool
has_record txn cells c = option_map_or (λ o. is_some (seen_value RepeatableRead txn o)) (value_at c.name (cells c.db)) false

-- a transaction of that number may write these changes, of which nobody else has changed a name
pub record MayWrite (st : Standing) (txn : ℕ) (cs : List (Numbered × RecordChange)) : Type 0 where
  pub some : cs ≢ []
  pub drawn : txn ≤ st.last_txn
  pub each : AllByRecursion (IsRightIn st) cs
  pub free : AllByRecursion (λ c. IsOnlyOf c.0 (changed_name c.1) txn st.own) (with_numbers cs)
  pub apart : AreApartIn (with_numbers cs)

-- what changes come to that may lack numbers, where the trees find this limit
abbrev pub wrote_by : Option TreeErr → Wrote
wrote_by (Some TooFull) = Full
wrote_by found = NoNumbers

module _ {D : Type 0} (meaning : DiskMeaning D) where
  -- changes went into the log, an entry for each, behind images of nodes, the first one at an LSN; 0 where there are none
  pub record HasLoggedAll (old new : LogTrees D) (txn : TxnId) (changes : List TreeChange) (first : ℕ) : Type 0 where
    pub entries : List Entry
    pub logs : LogsChanges txn changes entries
    pub grew : GrewFitting meaning old.log new.log entries
    pub fits : (log : Log) (base : ℕ) → HasLog meaning.observable (now (meaning.history (disk_below old.log))) old.log log → base ≤ pos_lsn (end_of old.log) → fitting old (placed log) base →
        fitting new (placed (longer old.log entries log)) base
    pub waits : length entries + waits_of new ≤ waits_of old + most_entries (length changes)
    pub first_is : first ≡ unwrap_or (first_logged old.log entries) 0

  -- or the disk failed while the first of these entries were appended
  pub record HasTriedAll (old new : LogTrees D) (txn : TxnId) (changes : List TreeChange) : Type 0 where
    pub entries : List Entry
    pub front : List Entry
    pub logs : LogsChanges txn changes entries
    pub is_front : IsFront front entries
    pub tried : TriedFitting meaning old.log new.log front

  -- Changes were made in the trees and logged, with room behind them for so many Commits; or they met a limit, or the disk failed; or there was no
  -- memory.
  abbrev pub WritesTrees : LogTrees D → LogTrees D → TxnId → List TreeChange → ℕ → Result TreesWrote AllocError → Type 0
  WritesTrees old new txn changes owed (Ok (TreesDone first)) =
      AreWritten txn changes (cells_of old) (cells_of new) × ((d : ℕ) → has_tree_of new d ≡ (is_made d changes || has_tree_of old d)) × HasLoggedAll old new txn changes first
      × HasRoomFor new.log (commit_sizes owed) × (limit_in old changes owed ≡ None)
  WritesTrees old new txn changes owed (Ok TreesFull) = AreLeft old new × (limit_in old changes owed ≡ Some TooFull)
  WritesTrees old new txn changes owed (Ok TreesFailed) = HasTriedAll old new txn changes × (limit_in old changes owed ≡ None)
  WritesTrees old new txn changes owed (Err error) = AreLeft old new

module _ {D : Type 0} where
  -- what transactions under way wrote is as it was
  pub record HaveNames (old new : Environment D) : Type 0 where
    pub names : (t : TxnId) → names_at t new.written.by_txn.entries ≡ names_at t old.written.by_txn.entries
    pub had : (t : TxnId) → had_at t new.written.by_txn.entries ≡ had_at t old.written.by_txn.entries
    pub firsts : (t : TxnId) → first_at t new.written.by_txn.entries ≡ first_at t old.written.by_txn.entries

  -- nothing was written
  pub record HasWrittenNone (old new : Environment D) : Type 0 where
    pub trees : AreLeft old.engine.trees new.engine.trees
    pub kept : new.engine.kept ≡ old.engine.kept
    pub written : HaveNames old new

  -- whether a number may be lacking of the nodes that changes make
  abbrev pub lacks : Environment D → List TreeChange → Bool
  lacks e changes = nat_lt last_number (e.engine.kept.last_node + numbers_for (length changes))

  module _ (meaning : DiskMeaning D) where
    -- changes were logged and are in the trees, and their names are the transaction's
    pub record HasWrittenOwn (old new : Environment D) (txn : TxnId) (changes : List TreeChange) (more : List TreeName) (owed : ℕ) : Type 0 where
      pub writes : AreWritten txn changes (cells_of old.engine.trees) (cells_of new.engine.trees)
      pub was_rising : (d : ℕ) → IsRising (cells_of old.engine.trees d)
      pub rising : (d : ℕ) → IsRising (cells_of new.engine.trees d)
      pub made : (d : ℕ) → has_tree_of new.engine.trees d ≡ (is_made d changes || has_tree_of old.engine.trees d)
      pub first : ℕ
      pub logged : HasLoggedAll meaning old.engine.trees new.engine.trees txn changes first
      pub room : HasRoomFor new.engine.trees.log (commit_sizes owed)
      pub limit : limit_in old.engine.trees changes owed ≡ None
      pub left : lacks old changes ≡ false
      pub kept : new.engine.kept ≡ record old.engine.kept { last_node = old.engine.kept.last_node + numbers_for (length changes) }
      pub names : (t : TxnId) → names_at t new.written.by_txn.entries ≡ (if is_same_txn txn t then names_at txn old.written.by_txn.entries ++ more else names_at t old.written.by_txn.entries)
      pub had : (t : TxnId) → had_at t new.written.by_txn.entries
          ≡ (if is_same_txn txn t then had_at txn old.written.by_txn.entries + count_by (has_record txn (cells_of old.engine.trees)) changes else had_at t old.written.by_txn.entries)
      pub firsts : (t : TxnId) → first_at t new.written.by_txn.entries
          ≡ (if is_same_txn txn t then first_noted (names_at txn old.written.by_txn.entries ++ more) (first_for (names_at txn old.written.by_txn.entries) (first_at txn old.written.by_txn.entries) first)
          else first_at t old.written.by_txn.entries)

    -- what changes that are to be logged come to, whatever the model is
    abbrev pub WritesAll : Environment D → Environment D → TxnId → List TreeChange → List TreeName → ℕ → Result Wrote AllocError → Type 0
    WritesAll old new txn changes names owed (Ok Done) = HasWrittenOwn old new txn changes names owed
    WritesAll old new txn changes names owed (Ok Full) = HasWrittenNone old new × (limit_in old.engine.trees changes owed ≡ Some TooFull)
    WritesAll old new txn changes names owed (Ok NoNumbers) = HasWrittenNone old new × (wrote_by (limit_in old.engine.trees changes owed) ≡ NoNumbers) × (lacks old changes ≡ true)
    WritesAll old new txn changes names owed (Ok Failed) =
        HasTriedAll meaning old.engine.trees new.engine.trees txn changes × (limit_in old.engine.trees changes owed ≡ None) × (lacks old changes ≡ false)
        × (new.engine.kept ≡ record old.engine.kept { fault = Some Disk })
    WritesAll old new txn changes names owed (Err error) = HasWrittenNone old new

module _ {D : Type 0} where
  -- an environment's log and trees are where a valid standing is
  abbrev pub IsValidAt : DiskMeaning D → Environment D → Standing → Type 0
  IsValidAt meaning e st =
      IsValidWith meaning.observable (now (meaning.history (disk_below e.engine.trees.log))) e.engine.trees.log (cells_of e.engine.trees) (has_tree_of e.engine.trees) (fitting e.engine.trees) e.engine.kept.since e.written.by_txn.entries st

  -- nothing was logged
  pub record IsLeft (old new : Environment D) : Type 0 where
    pub log : IsUnchanged old.engine.trees.log new.engine.trees.log
    pub kept : new.engine.kept ≡ old.engine.kept
    pub end : end_file new.engine.trees ≡ end_file old.engine.trees

  module _ (meaning : DiskMeaning D) where
    -- Changes that a transaction under way writes: they are logged and its own; or they met a limit, or the disk failed; or there was no memory.
    abbrev pub WritesOwn : Environment D → Environment D → Standing → ℕ → List (Numbered × RecordChange) → ℕ → Result Wrote AllocError → Type 0
    WritesOwn old new st txn cs owed (Ok Done) =
        IsValidAt meaning new (with_own txn (with_numbers cs) st)
        × HasLoggedCall meaning old.engine new.engine.trees.log (with_names cs ∷ []) [] (txn_id txn)
        × HasLimit old owed (with_names cs) None
        × (file_max_of new.engine.trees.log ≡ file_max_of old.engine.trees.log)
        × (new.engine.kept ≡ record old.engine.kept { last_node = old.engine.kept.last_node + numbers_for (length cs) })
        × (end_file new.engine.trees ≤ end_file old.engine.trees + most_entries (length cs))
    WritesOwn old new st txn cs owed (Ok Full) = IsValidAt meaning new st × IsLeft old new × HasLimit old owed (with_names cs) (Some LogFull)
    WritesOwn old new st txn cs owed (Ok NoNumbers) = IsValidAt meaning new st × IsLeft old new × HasLimit old owed (with_names cs) (Some IdsEnded)
    WritesOwn old new st txn cs owed (Ok Failed) =
        HasFailedWith meaning old.engine.trees.log new.engine.trees.log []
        × HasLimit old owed (with_names cs) None
        × (file_max_of new.engine.trees.log ≡ file_max_of old.engine.trees.log)
        × (new.engine.kept ≡ record old.engine.kept { fault = Some Disk })
        × (end_file new.engine.trees ≡ 0)
    WritesOwn old new st txn cs owed (Err error) = IsValidAt meaning new st × IsLeft old new

-- An engine as one value. Users speak of it by these alone; what it is made of may change below them.
use Rattle.std.specs.Prelude.{ℕ, suc, ◌≡◌, ◌≤◌, ◌<◌, ◌^◌, ◌+◌, ◌++◌, ◌∷◌, [], List, Option, None, Bool, Result, Ok, Err, true, length, map, if◌then◌else◌}
use Rattle.std.specs.declared.alloc.AllocError.{AllocError}
use Rattle.je_disk.specs.States.{Files, State, synced_crash_states}
use Rattle.je_disk.specs.Moments.{History, now}
use Rattle.store_model.specs.declared.answer.Answer.{Answer}
use Rattle.store_model.specs.declared.answer.Answer.TheVariants.{DiskFault, Logged}
use Rattle.store_model.specs.declared.call.Call.{Call}
use Rattle.store_model.specs.declared.event.Event.{Event}
use Rattle.store_model.specs.declared.event.Event.TheVariants.{Call as Called}
use Rattle.store_model.specs.declared.store.Store.{Store}
use Rattle.je_answers.specs.Standing.{Standing}
use Rattle.je_answers.specs.Events.{IsAnswered}
use Rattle.je_answers.specs.After.{after_event}
use Rattle.je_answers.specs.Journal.{changes_by}
use Rattle.log_file.specs.Log.{Log}
use Rattle.log_replay.specs.Logging.{all_row_changes}
use Rattle.log_replay.specs.Rows.{numbers_of}
use Rattle.record_tree.specs.declared.tree_change.TreeChange.{TreeChange}
use Rattle.index_map.specs.Made.{made_in}
use Rattle.index_map.specs.Map.{HasIndexes}
use Rattle.db_names.specs.Names.{HasNames, names_in}
use Rattle.in_tree.specs.declared.logged_trees.LogTrees.{LogTrees}
use Rattle.log_trees.specs.Placed.{Placed}
use Rattle.tree_images.specs.Forest.{ForestFits}
use Rattle.in_tree.specs.Observed.{cells_of, has_tree_of, last_node_of, limit_in, trees_of, waits_of}
use Rattle.record_tree.specs.Logged.{is_made, most_entries}
use Rattle.store_model.specs.Refusals.{made_by}
use Rattle.txn_core.specs.Known.{committed, has_number, IsQuiet}
use Rattle.txn_core.specs.Planning.{row_by}
use Rattle.txn_core.specs.Transactions.{HasTreesAfter, LeavesWrites}
use Rattle.in_tree.specs.Limits.{HasRoomFor, commit_sizes}
use Rattle.txn_core.specs.declared.planned_changes.PlannedChanges.{PlannedChanges}
use Rattle.log_buffer.specs.Buffer.{IsUnchanged, disk_of as disk_below, end_of, has_failed}
use Rattle.store_model.specs.declared.change.Change.{Change}
use Rattle.engine.specs.declared.engine.Engine.{Engine}
use Rattle.engine.specs.Environment.{AreAt}
use Rattle.engine.specs.Guarded.{IsGuardedLog}
use Rattle.engine.specs.Contents.{Contents, checkpoints_of}
use Rattle.engine.specs.Limits.{IsBounded, IsWithin, Reach, limit_by}
use Rattle.engine.specs.Opening.{StartsAt, reach_in}
use Rattle.engine.specs.declared.kept.Kept.{Kept}

module _ {D : Type 0} where
  -- the disk below
  abbrev pub disk_of : Engine D → D
  disk_of engine = disk_below engine.trees.log

  -- what it has in memory
  abbrev pub contents : LogTrees D → Kept → Contents
  contents trees kept = record {
    rows = committed (cells_of trees);
    totals = kept.totals;
    last_txn = kept.last_txn;
    last_db = kept.last_db;
    last_node = kept.last_node;
    commits = kept.commits;
    fault = kept.fault;
    checkpoints = checkpoints_of kept;
    trees = trees_of trees;
    last_number = last_node_of trees;
  }

  abbrev pub contents_of : Engine D → Contents
  contents_of engine = contents engine.trees engine.kept

  -- no transaction has changed anything in the trees; the catalog and the databases that it names have trees, and no others
  pub record AreTrees (trees : LogTrees D) : Type 0 where
    pub quiet : IsQuiet (cells_of trees)
    pub made : (db : ℕ) → has_tree_of trees db ≡ has_number (numbers_of (committed (cells_of trees))) db

  -- What logging changes leaves of the trees: those that the changes make, without the one that goes. Where the disk failed it is not said; else
  -- they are as before.
  abbrev pub LeavesTrees : LogTrees D → LogTrees D → PlannedChanges → Result Answer AllocError → Type 0
  LeavesTrees old new planned (Ok (Logged commit)) =
      IsQuiet (cells_of new) × HasTreesAfter planned.changes.items planned.gone (has_tree_of old) (has_tree_of new)
  LeavesTrees old new planned (Ok DiskFault) = Unit {0}
  LeavesTrees old new planned (Ok answer) = AreTrees new
  LeavesTrees old new planned (Err error) = AreTrees new

  -- The same where other transactions are under way: the changes of theirs stay, and there is room for the Commits that are owed behind this one.
  pub record LeavesOthers (old new : LogTrees D) (planned : PlannedChanges) (owed : ℕ) : Type 0 where
    pub writes : LeavesWrites planned.changes.items planned.gone (cells_of old) (cells_of new)
    pub trees : HasTreesAfter planned.changes.items planned.gone (has_tree_of old) (has_tree_of new)
    pub room : (n : ℕ) → owed ≡ suc n → HasRoomFor new.log (commit_sizes n)

  pub record AreSameCells (old new : LogTrees D) : Type 0 where
    pub cells : (db : ℕ) → cells_of new db ≡ cells_of old db
    pub made : (db : ℕ) → has_tree_of new db ≡ has_tree_of old db

  abbrev pub LeavesCells : LogTrees D → LogTrees D → PlannedChanges → ℕ → Result Answer AllocError → Type 0
  LeavesCells old new planned owed (Ok (Logged commit)) = LeavesOthers old new planned owed
  LeavesCells old new planned owed (Ok DiskFault) = Unit {0}
  LeavesCells old new planned owed (Ok answer) = AreSameCells old new
  LeavesCells old new planned owed (Err error) = AreSameCells old new

  -- trees are as they were, and so is their log
  pub record AreLeft (old new : LogTrees D) : Type 0 where
    pub cells : (db : ℕ) → cells_of new db ≡ cells_of old db
    pub made : (db : ℕ) → has_tree_of new db ≡ has_tree_of old db
    pub log : IsUnchanged old.log new.log
    pub waits : waits_of new ≡ waits_of old
    pub fits : (es : List Placed) (base : ℕ) → ForestFits es base (last_node_of old) (trees_of old) → ForestFits es base (last_node_of new) (trees_of new)

  -- the engine, whose files have at most so many bytes, is where the model stands
  pub record IsAt (most : ℕ) (observable : Bool) (state : State) (engine : Engine D) (st : Standing) : Type 0 where
    pub at : AreAt most observable state engine.trees.log (contents_of engine) st
    pub trees : st.fault ≡ None → AreTrees engine.trees

  -- what it keeps of indexes is what the committed catalog makes
  abbrev pub KeepsIndexes : Engine D → Type 0
  KeepsIndexes engine = HasIndexes (made_in (committed (cells_of engine.trees) 0)) engine.kept.indexes

  -- and of names
  abbrev pub KeepsNames : Engine D → Type 0
  KeepsNames engine = HasNames (names_in (committed (cells_of engine.trees) 0)) engine.kept.names

  -- the numbers leave room for another step
  abbrev pub CanGoOn : Engine D → Type 0
  CanGoOn engine = engine.kept.commits ≤ engine.kept.last_txn

  -- a run under way whose disk was safe at each moment of it, with this journal so far
  abbrev pub IsGuarded : ℕ → Standing → History → History → Engine D → List Event → Type 0
  IsGuarded most st start history engine journal = (log : Log) × IsGuardedLog st log start history engine.trees.log journal

  -- the file in which a log ends, were the image of each node that waits in a file of its own; a log that failed grows no more, and reaches none
  abbrev pub end_file : LogTrees D → ℕ
  end_file trees = if has_failed trees.log then 0 else (end_of trees.log).file + waits_of trees

  -- how far its log and its trees reach
  abbrev pub reach_of : Engine D → Reach
  reach_of engine = record { file = end_file engine.trees; node = engine.kept.last_node }

  -- logging so many changes of trees leaves the end of the log no farther than their entries may take it; where nothing was logged it is where it was
  abbrev pub EndsNear : LogTrees D → LogTrees D → ℕ → Result Answer AllocError → Type 0
  EndsNear old new changes (Ok (Logged commit)) = end_file new ≤ end_file old + (most_entries changes + 1)
  EndsNear old new changes (Ok DiskFault) = end_file new ≡ 0
  EndsNear old new changes result = end_file new ≡ end_file old

  -- the limit that the engine has for changes: none where there are none; else the one that the changes of records meet that log them, and make
  -- trees for new databases alone
  pub record IsLimitFor (engine : Engine D) (changes : List Change) (limit : Option Answer) : Type 0 where
    pub planned : List TreeChange
    pub rows : map (row_by 0) planned ≡ all_row_changes 0 engine.kept.last_db changes (committed (cells_of engine.trees))
    pub makes : engine.kept.last_db + made_by changes < 2 ^ 32 → (d : ℕ) → is_made d planned ≡ true → engine.kept.last_db < d
    pub is : limit ≡ limit_by (limit_in engine.trees planned 1) engine.kept.last_node (length planned)

  abbrev pub HasLimit : Engine D → List Change → Option Answer → Type 0
  HasLimit engine [] limit = limit ≡ None
  HasLimit engine (change ∷ changes) limit = IsLimitFor engine (change ∷ changes) limit

  -- a call was answered as the model may, and the engine is where the model then stands; out of memory left it where it was
  abbrev pub GoesOn : ℕ → Bool → State → Engine D → Engine D → Standing → ℕ → ℕ → Call → Result Answer AllocError → Type 0
  GoesOn most observable state old new st session line call (Ok answer) =
      (limit : Option Answer) × IsBounded (reach_of old) (changes_by st (Called session line call answer [])) limit
      × IsAnswered limit st (Called session line call answer [])
      × IsAt most observable state new (after_event st (Called session line call answer []))
  GoesOn most observable state old new st session line call (Err error) = IsAt most observable state new st

  -- a call was answered, and the run goes on with it in its journal; or there was no memory, and it goes on without it
  abbrev pub GoesOnSafely : ℕ → Standing → History → History → Engine D → List Event → ℕ → ℕ → Call → Result Answer AllocError → Type 0
  GoesOnSafely most st start history engine journal session line call (Ok answer) = IsGuarded most st start history engine (journal ++ Called session line call answer [] ∷ [])
  GoesOnSafely most st start history engine journal session line call (Err error) = IsGuarded most st start history engine journal

  -- an engine was opened: the model starts from what the files mean, and the log goes on in the last of them
  pub record IsOpenedAt (most : ℕ) (observable : Bool) (files : Files) (state : State) (engine : Engine D) (opening : Store) (st : Standing) : Type 0 where
    pub starts : StartsAt observable files opening st
    pub here : IsAt most observable state engine st
    pub reach : IsWithin (reach_of engine) (reach_in starts.held starts.meaning)

  abbrev pub IsOpened : ℕ → Bool → Files → State → Engine D → Store → Type 0
  IsOpened most observable files state engine opening = (st : Standing) × IsOpenedAt most observable files state engine opening st

  -- an engine was opened: all is stable, and the disk is safe
  pub record IsOpenedSafely (most : ℕ) (files : Files) (opening : Store) (history : History) (engine : Engine D) : Type 0 where
    pub st : Standing
    pub starts : StartsAt true files opening st
    pub here : IsAt most true (now history) engine st
    pub reach : IsWithin (reach_of engine) (reach_in starts.held starts.meaning)
    pub stable : (now history).crash_states ≡ synced_crash_states (now history).reads
    pub guarded : IsGuarded most st history history engine []

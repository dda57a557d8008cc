-- A valid environment beside the model: its log and its trees, and where the model stands.
use Rattle.std.specs.Prelude.{ℕ, suc, ◌≡◌, ◌==◌, Bool, is_some, true, false, List, [], Option, None, Some, filter, find, length, option_map}
use Rattle.std.specs.List.{AllByRecursion}
use Rattle.je_disk.specs.States.{State}
use Rattle.je_order.specs.declared.txn_id.TxnId.{TxnId}
use Rattle.store_model.specs.declared.extract.Extract.{Extract}
use Rattle.store_model.specs.declared.store.Database.{Database}
use Rattle.store_model.specs.declared.store.Store.{Store}
use Rattle.je_answers.specs.declared.active.Active.{Active}
use Rattle.je_answers.specs.Standing.{Standing}
use Rattle.log_file.specs.Log.{Log}
use Rattle.log_buffer.specs.declared.buffer.LogBuffer.{LogBuffer}
use Rattle.log_buffer.specs.Buffer.{end_of, file_max_of, has_failed}
use Rattle.log_buffer.specs.Flip.{pos_lsn}
use Rattle.log_buffer.specs.Log.{HasLog}
use Rattle.log_replay.specs.Rows.{numbers_of}
use Rattle.log_trees.specs.Placed.{Placed, placed}
use Rattle.log_trees.specs.Changes.{LoggedChange}
use Rattle.log_meaning.specs.Redo.{redone}
use Rattle.tree_images.specs.Forest.{ForestFits}
use Rattle.in_tree.specs.declared.logged_trees.LogTrees.{LogTrees}
use Rattle.in_tree.specs.Limits.{HasRoomFor, commit_sizes}
use Rattle.in_tree.specs.Observed.{last_node_of, trees_of}
use Rattle.record_tree.specs.Occupied.{AllCells}
use Rattle.engine.specs.declared.kept.Kept.{Kept}
use Rattle.txn_core.specs.Totals.{totals_of}
use Rattle.active_txns.specs.Own.{counts_at, has_some}
use Rattle.sessions.specs.declared.all_sessions.Sessions.{Sessions}
use Rattle.sessions.specs.AtStanding.{AreSessionsAt, owing}
use Rattle.standing_laws.specs.Right.{HaveOwnWaits, is_active, txn_id}
use Rattle.txn_core.specs.Known.{committed, has_number}
use Rattle.txn_log.specs.Checkpoints.{EndsFrom}
use Rattle.txn_log.specs.Committing.{MakesStore, MayBeCommitted}
use Rattle.txn_log.specs.Gives.{GivesRecordsWith}
use Rattle.txn_views.specs.Seen.{HasWrites}
use Rattle.engine.specs.Environment.{RecoversStore}
use Rattle.index_map.specs.declared.index_map.IndexMap.{IndexMap}
use Rattle.index_map.specs.Made.{Made}
use Rattle.index_map.specs.Map.{HasIndexes}
use Rattle.db_names.specs.declared.db_names.DbNames.{DbNames}
use Rattle.db_names.specs.Names.{HasNames, Names}
use Rattle.environment.specs.Written.{AreFirstsOf, AreNamesOf}
use Rattle.environment.specs.declared.written.OwnNames.{OwnNames}

-- what holds of a log's entries and the LSN where this life of the environment began
abbrev pub Forest : Type 1
Forest = List Placed → ℕ → Type 0

-- that trees fit them
abbrev pub fitting : {D : Type 0} → LogTrees D → Forest
fitting trees es base = ForestFits es base (last_node_of trees) (trees_of trees)

-- what waits of each transaction in a log, of what was logged since this life of the environment began
abbrev pub waiting_in : Log → ℕ → ℕ → List LoggedChange
waiting_in log base = (redone base (placed log)).pending

-- What holds of a log that ends at an LSN, and of where this life of the environment began: the trees fit it, a redo may begin at `since`, and each
-- transaction under way that wrote something has the LSN of its first change.
pub record Lives (forest : Forest) (log : Log) (since end : ℕ) (written : List (TxnId × OwnNames)) (base : ℕ) : Type 0 where
  pub fits : forest (placed log) base
  pub from : EndsFrom log base since
  pub firsts : AreFirstsOf written (waiting_in log base) end

-- whether a transaction of that number is under way
abbrev pub active_number : List Active → ℕ → Bool
active_number actives n = is_active (txn_id n) actives

-- a transaction of one call changes nothing but by the call that ends it
abbrev pub AreBare : Standing → Type 0
AreBare st = AllByRecursion (λ a. a.is_auto ≡ true → st.own a.txn.0 ≡ []) st.actives

-- how many Commits sessions owe the log
abbrev pub owed_by : Sessions → ℕ
owed_by s = length (filter (λ a. has_some (counts_at a.txn s.txns.own.entries)) s.txns.actives.items)

-- the database of a number, where these are the numbers of names
abbrev pub numbered_in : (List ℕ → ℕ) → Store → ℕ → Option Database
numbered_in numbers store n = find (λ d. numbers d.name == n) store.databases

-- what it is an index of, by its primary's number
abbrev pub index_made : (List ℕ → ℕ) → Option Database → Option (ℕ × Extract)
index_made numbers None = None
index_made numbers (Some d) = option_map (λ i. (numbers i.primary, i.extract)) d.index

abbrev pub made_at : (List ℕ → ℕ) → Store → Made
made_at numbers store n = index_made numbers (numbered_in numbers store n)

-- and its name
abbrev pub name_at : (List ℕ → ℕ) → Store → Names
name_at numbers store n = option_map (λ d. d.name) (numbered_in numbers store n)

-- maps have the indexes and the names of a store's databases, by their numbers
pub record HaveDatabases (numbers : List ℕ → ℕ) (store : Store) (indexes : IndexMap) (names : DbNames) : Type 0 where
  pub indexes_are : HasIndexes (made_at numbers store) indexes
  pub names_are : HasNames (name_at numbers store) names

-- so an environment knows those of a standing
abbrev pub KnowsDatabases : Standing → Kept → Type 0
KnowsDatabases st kept = HaveDatabases st.numbers st.store kept.indexes kept.names

module _ {D : Type 0} where
  -- A log and trees with these cells, where the model stands at `st` and no fault came: the log works, gives the committed records and each
  -- transaction's own changes, recovers the store, and has room for the Commits that are owed; the trees have the same, and fit the log. A redo may
  -- begin at `since`, and each transaction under way that wrote something has the LSN of its first change.
  pub record IsValidWith (observable : Bool) (state : State) (buffer : LogBuffer D) (cells : AllCells) (has_tree : ℕ → Bool) (forest : Forest) (since : ℕ) (written : List (TxnId × OwnNames)) (st : Standing) : Type 0 where
    pub log : Log
    pub has : HasLog observable state buffer log
    pub works : has_failed buffer ≡ false
    pub gives : GivesRecordsWith log (end_of buffer) (committed cells) st.last_txn st.last_db (active_number st.actives) st.own
    pub recovers : RecoversStore log st.store
    pub makes : MakesStore (committed cells) st.last_db st
    pub writes : HasWrites cells st.own
    pub may : (t : ℕ) → AllByRecursion (MayBeCommitted (committed cells)) (st.own t)
    pub made : (db : ℕ) → has_tree db ≡ has_number (numbers_of (committed cells)) db
    pub room : (n : ℕ) → owing st ≡ suc n → HasRoomFor buffer (commit_sizes (suc n))
    pub names : AreNamesOf written st.own (committed cells)
    pub fits : forest (placed log) gives.base
    pub from : EndsFrom log gives.base since
    pub firsts : AreFirstsOf written (waiting_in log gives.base) (pos_lsn (end_of buffer))

  -- an environment of these parts, whose files have at most so many bytes, is where the model stands
  pub record AreAt (most : ℕ) (observable : Bool) (state : State) (buffer : LogBuffer D) (cells : AllCells) (has_tree : ℕ → Bool) (forest : Forest) (kept : Kept) (sessions : Sessions) (written : List (TxnId × OwnNames))
      (st : Standing) : Type 0 where
    pub file_max : file_max_of buffer ≡ most
    pub fault : kept.fault ≡ st.fault
    pub last_txn : kept.last_txn ≡ st.last_txn
    pub last_db : kept.last_db ≡ st.last_db
    pub commits : kept.commits ≡ st.commits
    pub totals : kept.totals ≡ totals_of st.store
    pub sessions_at : AreSessionsAt sessions st
    pub apart : HaveOwnWaits st.waiting
    pub checkpoint : is_some kept.checkpoints.under_way ≡ st.in_checkpoint
    pub databases : st.fault ≡ None → KnowsDatabases st kept
    pub valid : st.fault ≡ None → IsValidWith observable state buffer cells has_tree forest kept.since written st

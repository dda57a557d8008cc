-- The log of an environment beside the model, while transactions are under way.
use Rattle.std.specs.Prelude.{ℕ, ◌≡◌, ◌≤◌, ◌+◌, Bool, true, None, Some, List, [], map}
use Rattle.std.specs.List.{AllByRecursion}
use Rattle.je_disk.specs.DiskMeaning.{DiskMeaning}
use Rattle.je_order.specs.declared.txn_id.TxnId.{TxnId}
use Rattle.store_model.specs.declared.change.Change.{Change}
use Rattle.store_model.specs.declared.record_change.RecordChange.{RecordChange}
use Rattle.store_model.specs.Refusals.{made_by}
use Rattle.store_model.specs.Store.{all_changed}
use Rattle.je_answers.specs.Standing.{Standing, all_numbered, database_at, with_at}
use Rattle.je_answers.specs.Views.{Target, changes_at, changes_named, changes_on}
use Rattle.log_file.specs.Log.{Log}
use Rattle.log_buffer.specs.declared.buffer.LogBuffer.{LogBuffer}
use Rattle.log_buffer.specs.Growth.{longer}
use Rattle.log_replay.specs.Rows.{Rows, store_of}
use Rattle.log_replay.specs.Logging.{number_named}
use Rattle.record_tree.specs.declared.tree_change.TreeChange.{TreeChange}
use Rattle.record_tree.specs.Logged.{LogsChanges, LogsTransaction}
use Rattle.txn_log.specs.Own.{AreFreeNames, OwnChange, own_of}
use Rattle.txn_log.specs.Gives.{AreStillActive}
use Rattle.txn_log.specs.Growth.{HasOwn, own_with}
use Rattle.txn_log.specs.Committing.{MakesStore, MayBeCommitted, rows_own}
use Rattle.txn_log.specs.Buffers.{HasAdded, HasGiven, MayAddChanges, MayCommit}

-- a standing behind a commit of changes
pub record HasCommitted (st after : Standing) (changes : List Change) : Type 0 where
  pub store : after.store ≡ all_changed changes st.store
  pub numbers : after.numbers ≡ all_numbered changes st.last_db st.numbers
  pub last_db : after.last_db ≡ st.last_db + made_by changes

-- a database's changes with its number, as changes of the store, are those with its name
abbrev pub NamedAreOn : Type 0
NamedAreOn = (st : Standing) (g : Target) (changes : List RecordChange) → database_at g.db st ≡ Some g.database → changes_named st (changes_at g.db changes) ≡ changes_on g changes

module _ {D : Type 0} where
  -- a buffer's log gives the committed records and each transaction's own changes; the records make the standing's store, and the own changes may be
  -- committed
  pub record IsLogAt (meaning : DiskMeaning D) (buffer : LogBuffer D) (log : Log) (rows : Rows) (is_active : ℕ → Bool) (st : Standing) : Type 0 where
    pub given : HasGiven meaning buffer log rows st.last_txn st.last_db is_active st.own
    pub makes : MakesStore rows st.last_db st
    pub may : (t : ℕ) → AllByRecursion (MayBeCommitted rows) (st.own t)

  module _ (meaning : DiskMeaning D) where
    -- changes of a transaction under way, and nothing else
    abbrev pub ChangesLeaveLog : Type 0
    ChangesLeaveLog = (old new : LogBuffer D) (log : Log) (rows : Rows) (is_active : ℕ → Bool) (st after : Standing) (t : TxnId) (changes : List TreeChange)
        → IsLogAt meaning old log rows is_active st → MayAddChanges st.last_txn is_active st.own t changes → AllByRecursion (MayBeCommitted rows) (map own_of changes)
        → (a : HasAdded meaning old new (LogsChanges t changes))
        → after.store ≡ st.store → after.numbers ≡ st.numbers → after.last_db ≡ st.last_db → after.last_txn ≡ st.last_txn
        → ((u : ℕ) → after.own u ≡ own_with t.0 changes st.own u)
        → IsLogAt meaning new (longer old a.entries log) rows is_active after

    -- a transaction that was logged with its Commit
    abbrev pub TransactionLeavesLog : Type 0
    TransactionLeavesLog = (old new : LogBuffer D) (log : Log) (rows later : Rows) (is_active still : ℕ → Bool) (st after : Standing) (goes : ℕ → Bool) (t : TxnId) (had : List OwnChange)
        (changes : List TreeChange) (committed : List Change)
        → IsLogAt meaning old log rows is_active st → MayCommit st.last_txn is_active st.own rows later st.last_db after.last_db goes t had changes
        → store_of later ≡ all_changed committed (store_of rows) → ((name : List ℕ) → number_named later name ≡ all_numbered committed st.last_db st.numbers name)
        → ((u : ℕ) → AllByRecursion (MayBeCommitted later) (after.own u))
        → (a : HasAdded meaning old new (LogsTransaction t changes))
        → HasCommitted st after committed → st.last_txn ≤ after.last_txn → AreStillActive st.last_txn is_active (with_at t.0 [] st.own) still after.own
        → IsLogAt meaning new (longer old a.entries log) later still after

    -- a transaction under way commits its own changes
    abbrev pub OwnCommitLeavesLog : Type 0
    OwnCommitLeavesLog = (old new : LogBuffer D) (log : Log) (rows : Rows) (is_active still : ℕ → Bool) (st after : Standing) (t : TxnId)
        → IsLogAt meaning old log rows is_active st → is_active t.0 ≡ true
        → (a : HasAdded meaning old new (LogsTransaction t []))
        → HasCommitted st after (changes_named st (st.own t.0)) → after.last_txn ≡ st.last_txn
        → ((u : ℕ) → still u ≡ true → is_active u ≡ true) → ((u : ℕ) → after.own u ≡ with_at t.0 [] st.own u)
        → IsLogAt meaning new (longer old a.entries log) (rows_own (st.own t.0) rows) still after

    -- a call of its own logs its changes with their Commit
    abbrev pub LoneCommitLeavesLog : Type 0
    LoneCommitLeavesLog = (old new : LogBuffer D) (log : Log) (rows : Rows) (is_active still : ℕ → Bool) (st after : Standing) (t : TxnId) (changes : List TreeChange)
        → IsLogAt meaning old log rows is_active st → HasOwn st.last_txn is_active st.own t.0 [] → AreFreeNames is_active st.own t.0 changes
        → AllByRecursion (λ c. c.makes ≡ None) changes → AllByRecursion (MayBeCommitted rows) (map own_of changes)
        → (a : HasAdded meaning old new (LogsTransaction t changes))
        → HasCommitted st after (changes_named st (map own_of changes)) → st.last_txn ≤ after.last_txn
        → AreStillActive st.last_txn is_active (with_at t.0 [] st.own) still after.own → ((u : ℕ) → AllByRecursion (MayBeCommitted rows) (after.own u))
        → IsLogAt meaning new (longer old a.entries log) (rows_own (map own_of changes) rows) still after

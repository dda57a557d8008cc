-- A log buffer whose log gives records while transactions are under way, and grows by the entries of one of them.
use Rattle.std.specs.Prelude.{ℕ, ◌≡◌, ◌≤◌, ◌⊎◌, Bool, true, List, [], ◌∷◌, ◌++◌, map}
use Rattle.je_disk.specs.DiskMeaning.{DiskMeaning}
use Rattle.je_disk.specs.Moments.{now}
use Rattle.je_order.specs.declared.txn_id.TxnId.{TxnId}
use Rattle.store_model.specs.declared.change.Change.{Change}
use Rattle.store_model.specs.declared.store.Store.{Store}
use Rattle.store_model.specs.Store.{all_changed}
use Rattle.je_answers.specs.Standing.{with_at}
use Rattle.log_entry.specs.declared.entry.Entry.{Entry}
use Rattle.log_file.specs.Log.{Log}
use Rattle.log_buffer.specs.declared.buffer.LogBuffer.{LogBuffer}
use Rattle.log_buffer.specs.Buffer.{disk_of, end_of, file_max_of}
use Rattle.log_buffer.specs.Growth.{longer, Grew, Tried}
use Rattle.log_buffer.specs.Log.{HasLog}
use Rattle.log_replay.specs.Rows.{Rows, store_of}
use Rattle.record_tree.specs.declared.tree_change.TreeChange.{TreeChange}
use Rattle.record_tree.specs.Logged.{LogsChanges, LogsTransaction, IsFront}
use Rattle.crash_recovery.specs.Appending.{HaveRoom}
use Rattle.crash_recovery.specs.Recovery.{RecoversLog}
use Rattle.txn_log.specs.Own.{AreFreeNames, OwnChange, tree_of}
use Rattle.txn_log.specs.Gives.{GivesRecordsWith}
use Rattle.txn_log.specs.Growth.{HasOwn, own_with}
use Rattle.txn_log.specs.Leaves.{LeavesRecords}

-- changes of a transaction under way may be logged, of names that no other one has changed
pub record MayAddChanges (last_txn : ℕ) (is_active : ℕ → Bool) (own : ℕ → List OwnChange) (t : TxnId) (changes : List TreeChange) : Type 0 where
  pub active : is_active t.0 ≡ true
  pub drawn : t.0 ≤ last_txn
  pub free : AreFreeNames is_active own t.0 changes

-- changes of a transaction may be logged with its Commit: with its own changes so far they leave these records
pub record MayCommit (last_txn : ℕ) (is_active : ℕ → Bool) (own : ℕ → List OwnChange) (rows after : Rows) (last_db later_db : ℕ) (goes : ℕ → Bool) (t : TxnId) (had : List OwnChange)
    (changes : List TreeChange) : Type 0 where
  pub has : HasOwn last_txn is_active own t.0 had
  pub free : AreFreeNames is_active own t.0 changes
  pub leaves : LeavesRecords rows after last_db later_db goes (map tree_of had ++ changes)

module _ {D : Type 0} where
  -- a buffer has a log that gives records
  pub record HasGiven (meaning : DiskMeaning D) (buffer : LogBuffer D) (log : Log) (rows : Rows) (last_txn last_db : ℕ) (is_active : ℕ → Bool) (own : ℕ → List OwnChange) : Type 0 where
    pub has : HasLog meaning.observable (now (meaning.history (disk_of buffer))) buffer log
    pub gives : GivesRecordsWith log (end_of buffer) rows last_txn last_db is_active own

  module _ (meaning : DiskMeaning D) where
    -- the log got entries, for which it has room
    pub record HasAdded (old new : LogBuffer D) (AreLogged : List Entry → Type 0) : Type 0 where
      pub entries : List Entry
      pub logs : AreLogged entries
      pub grew : Grew meaning old new entries
      pub room : HaveRoom (file_max_of old) (end_of old) entries

    -- or the disk failed while the first of them were appended
    pub record HasFailed (old new : LogBuffer D) (AreLogged : List Entry → Type 0) : Type 0 where
      pub entries : List Entry
      pub front : List Entry
      pub logs : AreLogged entries
      pub is_front : IsFront front entries
      pub tried : Tried meaning old new front
      pub room : HaveRoom (file_max_of old) (end_of old) front

    -- ---- changes without a commit

    abbrev pub ChangesAreGiven : Type 0
    ChangesAreGiven = (old new : LogBuffer D) (log : Log) (rows : Rows) (last_txn last_db : ℕ) (is_active : ℕ → Bool) (own : ℕ → List OwnChange) (t : TxnId) (changes : List TreeChange)
        → HasGiven meaning old log rows last_txn last_db is_active own → MayAddChanges last_txn is_active own t changes → (a : HasAdded old new (LogsChanges t changes))
        → HasGiven meaning new (longer old a.entries log) rows last_txn last_db is_active (own_with t.0 changes own)

    -- the longer log recovers what the log did, and so it is where the disk failed
    abbrev pub ChangesAreRecovered : Type 0
    ChangesAreRecovered = (old new : LogBuffer D) (log : Log) (rows : Rows) (last_txn last_db : ℕ) (is_active : ℕ → Bool) (own : ℕ → List OwnChange) (t : TxnId) (changes : List TreeChange)
        (first : ℕ) (opening : Store) (found : ℕ) (transactions : List (List Change))
        → HasGiven meaning old log rows last_txn last_db is_active own → MayAddChanges last_txn is_active own t changes → (a : HasAdded old new (LogsChanges t changes))
        → RecoversLog first opening found transactions log → RecoversLog first opening found transactions (longer old a.entries log)

    abbrev pub TriedChangesAreRecovered : Type 0
    TriedChangesAreRecovered = (old new : LogBuffer D) (log : Log) (rows : Rows) (last_txn last_db : ℕ) (is_active : ℕ → Bool) (own : ℕ → List OwnChange) (t : TxnId) (changes : List TreeChange)
        (first : ℕ) (opening : Store) (found : ℕ) (transactions : List (List Change))
        → HasGiven meaning old log rows last_txn last_db is_active own → MayAddChanges last_txn is_active own t changes → (f : HasFailed old new (LogsChanges t changes))
        → RecoversLog first opening found transactions log → RecoversLog first opening found transactions (longer old f.front log)

    -- ---- a commit

    abbrev pub TransactionIsGiven : Type 0
    TransactionIsGiven = (old new : LogBuffer D) (log : Log) (rows after : Rows) (last_txn last_db later_db : ℕ) (is_active : ℕ → Bool) (own : ℕ → List OwnChange) (goes : ℕ → Bool) (t : TxnId)
        (had : List OwnChange) (changes : List TreeChange)
        → HasGiven meaning old log rows last_txn last_db is_active own → MayCommit last_txn is_active own rows after last_db later_db goes t had changes
        → (a : HasAdded old new (LogsTransaction t changes))
        → HasGiven meaning new (longer old a.entries log) after last_txn later_db is_active (with_at t.0 [] own)

    -- the longer log recovers the transaction
    abbrev pub CommitIsRecovered : Type 0
    CommitIsRecovered = (old new : LogBuffer D) (log : Log) (rows after : Rows) (last_txn last_db later_db : ℕ) (is_active : ℕ → Bool) (own : ℕ → List OwnChange) (goes : ℕ → Bool) (t : TxnId)
        (had : List OwnChange) (changes : List TreeChange) (committed : List Change) (first : ℕ) (opening : Store) (found : ℕ) (transactions : List (List Change))
        → HasGiven meaning old log rows last_txn last_db is_active own → MayCommit last_txn is_active own rows after last_db later_db goes t had changes
        → store_of after ≡ all_changed committed (store_of rows) → (a : HasAdded old new (LogsTransaction t changes))
        → RecoversLog first opening found transactions log → RecoversLog first opening found (transactions ++ committed ∷ []) (longer old a.entries log)

    -- where the disk failed it recovers the transaction, or not
    abbrev pub TriedCommitIsRecovered : Type 0
    TriedCommitIsRecovered = (old new : LogBuffer D) (log : Log) (rows after : Rows) (last_txn last_db later_db : ℕ) (is_active : ℕ → Bool) (own : ℕ → List OwnChange) (goes : ℕ → Bool) (t : TxnId)
        (had : List OwnChange) (changes : List TreeChange) (committed : List Change) (first : ℕ) (opening : Store) (found : ℕ) (transactions : List (List Change))
        → HasGiven meaning old log rows last_txn last_db is_active own → MayCommit last_txn is_active own rows after last_db later_db goes t had changes
        → store_of after ≡ all_changed committed (store_of rows) → (f : HasFailed old new (LogsTransaction t changes))
        → RecoversLog first opening found transactions log
        → RecoversLog first opening found transactions (longer old f.front log) ⊎ RecoversLog first opening found (transactions ++ committed ∷ []) (longer old f.front log)

-- A log that gives records while transactions are under way, longer by the entries of one of them.
use Rattle.std.specs.Prelude.{ℕ, ◌≡◌, ◌<◌, ◌≤◌, ◌⊎◌, Bool, true, List, [], ◌++◌, map}
use Rattle.je_order.specs.declared.txn_id.TxnId.{TxnId}
use Rattle.store_model.specs.declared.change.Change.{Change}
use Rattle.store_model.specs.declared.store.Store.{Store}
use Rattle.store_model.specs.Store.{all_changed}
use Rattle.je_answers.specs.Standing.{with_at}
use Rattle.log_file.specs.Log.{Log}
use Rattle.log_buffer.specs.declared.log_pos.LogPos.{LogPos}
use Rattle.log_buffer.specs.Flip.{pos_lsn}
use Rattle.log_replay.specs.Rows.{Rows, store_of}
use Rattle.log_trees.specs.Placed.{Placed, placed}
use Rattle.log_meaning.specs.Transactions.{RiseBehind, TransactionRecovers, last_lsn}
use Rattle.log_meaning.specs.Recovery.{Recovers}
use Rattle.record_tree.specs.declared.tree_change.TreeChange.{TreeChange}
use Rattle.record_tree.specs.Logged.{LogsChanges, LogsTransaction}
use Rattle.txn_log.specs.Own.{AreFreeNames, OwnChange, own_of, tree_of}
use Rattle.txn_log.specs.Gives.{GivesRecordsWith}
use Rattle.txn_log.specs.Leaves.{LeavesRecords}

-- ---- changes without a commit

-- entries that log changes of a transaction under way, of names that no other one has changed
pub record AddsChanges (next last_txn : ℕ) (is_active : ℕ → Bool) (own : ℕ → List OwnChange) (t : TxnId) (changes : List TreeChange) (more : List Placed) : Type 0 where
  pub active : is_active t.0 ≡ true
  pub drawn : t.0 ≤ last_txn
  pub free : AreFreeNames is_active own t.0 changes
  pub logs : LogsChanges t changes (map (λ p. p.1) more)
  pub rise : RiseBehind next more

-- the own changes with those that were added
abbrev pub own_with : ℕ → List TreeChange → (ℕ → List OwnChange) → ℕ → List OwnChange
own_with t changes own = with_at t (own t ++ map own_of changes) own

-- the longer log gives the same records, and the transaction has so many own changes more
abbrev pub ChangesGive : Type 0
ChangesGive = (log : Log) (end : LogPos) (rows : Rows) (last_txn last_db : ℕ) (is_active : ℕ → Bool) (own : ℕ → List OwnChange) (t : TxnId) (changes : List TreeChange) (more : List Placed)
    (long : Log) (long_end : LogPos)
    → (gives : GivesRecordsWith log end rows last_txn last_db is_active own) → AddsChanges gives.next last_txn is_active own t changes more
    → placed long ≡ placed log ++ more → last_lsn gives.next more < pos_lsn long_end
    → GivesRecordsWith long long_end rows last_txn last_db is_active (own_with t.0 changes own)

-- and each front of the entries leaves what is recovered as it was
abbrev pub ChangesRecoverSame : Type 0
ChangesRecoverSame = (log : Log) (end : LogPos) (rows : Rows) (last_txn last_db : ℕ) (is_active : ℕ → Bool) (own : ℕ → List OwnChange) (t : TxnId) (changes : List TreeChange) (more : List Placed)
    (first : ℕ) (opening : Store) (found : ℕ) (transactions : List (List Change))
    → (gives : GivesRecordsWith log end rows last_txn last_db is_active own) → AddsChanges gives.next last_txn is_active own t changes more
    → Recovers first opening found transactions (placed log)
    → (front rest : List Placed) → front ++ rest ≡ more → Recovers first opening found transactions (placed log ++ front)

-- ---- a commit

-- the own changes of a transaction under way; a number that was not allocated has none
abbrev pub HasOwn : ℕ → (ℕ → Bool) → (ℕ → List OwnChange) → ℕ → List OwnChange → Type 0
HasOwn last_txn is_active own t had = ((is_active t ≡ true) × (own t ≡ had)) ⊎ ((last_txn < t) × (had ≡ []))

-- Entries that log changes of a transaction, and its Commit behind them. Its own changes so far and these leave the records as they are afterwards.
pub record AddsTransaction (next last_txn : ℕ) (is_active : ℕ → Bool) (own : ℕ → List OwnChange) (rows after : Rows) (last_db later_db : ℕ) (goes : ℕ → Bool) (t : TxnId)
    (had : List OwnChange) (changes : List TreeChange) (more : List Placed) : Type 0 where
  pub has : HasOwn last_txn is_active own t.0 had
  pub free : AreFreeNames is_active own t.0 changes
  pub logs : LogsTransaction t changes (map (λ p. p.1) more)
  pub rise : RiseBehind next more
  pub leaves : LeavesRecords rows after last_db later_db goes (map tree_of had ++ changes)

-- the longer log gives the records that they leave, and of the transaction nothing waits
abbrev pub TransactionGives : Type 0
TransactionGives = (log : Log) (end : LogPos) (rows after : Rows) (last_txn last_db later_db : ℕ) (is_active : ℕ → Bool) (own : ℕ → List OwnChange) (goes : ℕ → Bool) (t : TxnId)
    (had : List OwnChange) (changes : List TreeChange) (more : List Placed) (long : Log) (long_end : LogPos)
    → (gives : GivesRecordsWith log end rows last_txn last_db is_active own)
    → AddsTransaction gives.next last_txn is_active own rows after last_db later_db goes t had changes more
    → placed long ≡ placed log ++ more → last_lsn gives.next more < pos_lsn long_end
    → GivesRecordsWith long long_end after last_txn later_db is_active (with_at t.0 [] own)

-- each front without the Commit leaves what is recovered as it was, and behind the Commit the transaction is recovered
abbrev pub TransactionIsRecovered : Type 0
TransactionIsRecovered = (log : Log) (end : LogPos) (rows after : Rows) (last_txn last_db later_db : ℕ) (is_active : ℕ → Bool) (own : ℕ → List OwnChange) (goes : ℕ → Bool) (t : TxnId)
    (had : List OwnChange) (changes : List TreeChange) (more : List Placed) (first : ℕ) (opening : Store) (found : ℕ) (transactions : List (List Change)) (committed : List Change)
    → (gives : GivesRecordsWith log end rows last_txn last_db is_active own)
    → AddsTransaction gives.next last_txn is_active own rows after last_db later_db goes t had changes more
    → store_of after ≡ all_changed committed (store_of rows)
    → Recovers first opening found transactions (placed log)
    → TransactionRecovers first opening found transactions committed (placed log) more

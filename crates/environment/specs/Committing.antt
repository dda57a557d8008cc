-- A transaction that commits its own changes.
use Rattle.std.specs.Prelude.{ℕ, suc, ◌≡◌, ◌+◌, ◌∷◌, [], List, Some, true, false, if◌then◌else◌, ◌≤◌}
use Rattle.log_trees.specs.Placed.{placed}
use Rattle.environment.specs.Valid.{fitting}
use Rattle.log_buffer.specs.Buffer.{disk_of as disk_below, end_of}
use Rattle.log_buffer.specs.Growth.{longer}
use Rattle.log_buffer.specs.Flip.{pos_lsn}
use Rattle.log_buffer.specs.Log.{HasLog}
use Rattle.log_file.specs.Log.{Log}
use Rattle.je_disk.specs.DiskMeaning.{DiskMeaning}
use Rattle.je_disk.specs.Moments.{now}
use Rattle.je_order.specs.declared.txn_id.TxnId.{TxnId}
use Rattle.je_order.specs.Transactions.{is_same_txn}
use Rattle.store_model.specs.declared.answer.Fault.TheVariants.{Disk}
use Rattle.log_entry.specs.declared.entry.Entry.{Entry}
use Rattle.log_entry.specs.declared.entry.Entry.TheVariants.{Commit}
use Rattle.record_map.specs.Cells.{IsRising}
use Rattle.record_tree.specs.Occupied.{HasChangedAll, after_commit}
use Rattle.record_tree.specs.Logged.{IsFront}
use Rattle.in_tree.specs.Limits.{GrewFitting, HasRoomFor, TriedFitting, commit_sizes}
use Rattle.in_tree.specs.Observed.{cells_of, has_tree_of, waits_of}
use Rattle.je_answers.specs.declared.active.Active.{Active}
use Rattle.je_answers.specs.Standing.{Standing}
use Rattle.je_answers.specs.After.{ended}
use Rattle.sessions.specs.AtStanding.{AreSessionsAt}
use Rattle.engine.specs.declared.engine.Engine.{Engine}
use Rattle.engine.specs.declared.kept.Kept.{Kept}
use Rattle.environment.specs.declared.environment.Environment.{Environment}
use Rattle.environment.specs.declared.written.OwnNames.{OwnNames}
use Rattle.environment.specs.Written.{first_at, names_at, had_at}

-- what is kept, with one commit more, behind which the store has so many records
abbrev pub kept_committed : Kept → ℕ → Kept
kept_committed kept records = record kept { totals = record { databases = kept.totals.databases; records = records }; commits = kept.commits + 1 }

module _ {D : Type 0} where
  -- a transaction has committed what it wrote: the log got its Commit, and the records have its changes
  pub record HasCommittedOwn (meaning : DiskMeaning D) (old new : Engine D) (was is : List (TxnId × OwnNames)) (txn : TxnId)
      (records : ℕ) : Type 0 where
    pub grew : GrewFitting meaning old.trees.log new.trees.log (Commit txn ∷ [])
    pub fits : (log : Log) (base : ℕ) → HasLog meaning.observable (now (meaning.history (disk_below old.trees.log))) old.trees.log log → base ≤ pos_lsn (end_of old.trees.log) → fitting old.trees (placed log) base →
        fitting new.trees (placed (longer old.trees.log (Commit txn ∷ []) log)) base
    pub left : (owed : ℕ) → HasRoomFor old.trees.log (commit_sizes (suc owed)) → HasRoomFor new.trees.log (commit_sizes owed)
    pub kept : new.kept ≡ kept_committed old.kept records
    pub cells : HasChangedAll (cells_of old.trees) (cells_of new.trees) (names_at txn was) after_commit
    pub was_rising : (d : ℕ) → IsRising (cells_of old.trees d)
    pub rising : (d : ℕ) → IsRising (cells_of new.trees d)
    pub has_tree : (d : ℕ) → has_tree_of new.trees d ≡ has_tree_of old.trees d
    pub waits : waits_of new.trees ≡ waits_of old.trees
    pub names : (t : TxnId) → names_at t is ≡ (if is_same_txn txn t then [] else names_at t was)
    pub had : (t : TxnId) → had_at t is ≡ (if is_same_txn txn t then 0 else had_at t was)
    pub firsts : (t : TxnId) → first_at t is ≡ (if is_same_txn txn t then 0 else first_at t was)

  -- a session's transaction has committed, and is at its end
  pub record HasSettled (meaning : DiskMeaning D) (old new : Environment D) (session : ℕ) (txn : TxnId)
      (records : ℕ) : Type 0 where
    pub committed : HasCommittedOwn meaning old.engine new.engine old.written.by_txn.entries new.written.by_txn.entries txn records
    pub sessions : (st : Standing) (a : Active) → a.session ≡ session → a.txn ≡ txn → AreSessionsAt old.sessions st → AreSessionsAt new.sessions (ended a st)

  -- or the disk failed
  pub record HasNotSettled (meaning : DiskMeaning D) (old new : Environment D) (txn : TxnId) : Type 0 where
    pub front : List Entry
    pub is_front : IsFront front (Commit txn ∷ [])
    pub tried : TriedFitting meaning old.engine.trees.log new.engine.trees.log front
    pub kept : new.engine.kept ≡ (record old.engine.kept { fault = Some Disk })
    pub sessions : new.sessions ≡ old.sessions

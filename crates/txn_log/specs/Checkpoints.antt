-- A log buffer whose log gives records while transactions are under way, and gets the entries of a checkpoint.
use Rattle.std.specs.Prelude.{ℕ, ◌≡◌, ◌≤◌, ◌/◌, ◌^◌, ◌∷◌, [], Bool, true, None, List, Option}
use Rattle.std.specs.List.{AllByRecursion}
use Rattle.je_disk.specs.DiskMeaning.{DiskMeaning}
use Rattle.je_disk.specs.Moments.{now}
use Rattle.je_order.specs.declared.txn_id.TxnId.{TxnId}
use Rattle.store_model.specs.declared.change.Change.{Change}
use Rattle.store_model.specs.declared.store.Store.{Store}
use Rattle.log_entry.specs.Encoding.{size_of}
use Rattle.log_entry.specs.declared.entry.Entry.{Entry}
use Rattle.log_entry.specs.declared.entry.Entry.TheVariants.{CkptEnd}
use Rattle.log_entry.specs.declared.root.Root.{Root}
use Rattle.log_file.specs.Log.{Log}
use Rattle.log_buffer.specs.declared.buffer.LogBuffer.{LogBuffer}
use Rattle.log_buffer.specs.Buffer.{disk_of, end_of, file_max_of}
use Rattle.log_buffer.specs.Flip.{placed_at, pos_lsn}
use Rattle.log_buffer.specs.Growth.{longer}
use Rattle.log_buffer.specs.Log.{HasLog}
use Rattle.log_replay.specs.Rows.{Rows, data_at}
use Rattle.log_trees.specs.Placed.{Placed, placed}
use Rattle.log_trees.specs.Changes.{LoggedChange}
use Rattle.log_meaning.specs.Checkpoint.{checkpoint_in, last_checkpoint}
use Rattle.log_meaning.specs.Ending.{MayEnd}
use Rattle.log_meaning.specs.Growth.{is_neutral}
use Rattle.log_meaning.specs.Transactions.{waiting}
use Rattle.crash_recovery.specs.Recovery.{RecoversLog}
use Rattle.txn_log.specs.Own.{OwnChange, is_live}
use Rattle.txn_log.specs.Buffers.{HasAdded, HasFailed, HasGiven}

-- entries that change nothing that is read again
abbrev pub AreNeutral : List Entry → Type 0
AreNeutral entries = AllByRecursion (λ e. is_neutral e ≡ true) entries

-- the end of a checkpoint: its number, where it began, its redo LSN, the numbers allocated last, its roots
pub record EndParts : Type 0 where
  pub number : ℕ
  pub start : ℕ
  pub redo : ℕ
  pub last_txn : TxnId
  pub last_node : ℕ
  pub last_db : ℕ
  pub roots : List Root

-- the entries are that end alone
abbrev pub end_entry : EndParts → Option ℕ → Entry
end_entry p summary = CkptEnd p.number p.start p.redo p.last_txn p.last_node p.last_db summary p.roots

abbrev pub IsEndOf : EndParts → Option ℕ → List Entry → Type 0
IsEndOf p summary entries = entries ≡ end_entry p summary ∷ []

-- ---- what waits

-- where each change that waits of a transaction stands at an LSN or behind it, so it is behind entries at that LSN or behind it
abbrev pub WaitsFrom : Type 0
WaitsFrom = (from u : ℕ) (more : List Placed) (logged : ℕ → List LoggedChange) → AllByRecursion (λ p. from ≤ p.0) more → AllByRecursion (λ c. from ≤ c.written.at) (logged u)
    → AllByRecursion (λ c. from ≤ c.written.at) (waiting more logged u)

-- ---- where a redo may begin

-- a log's first file has at most this number
abbrev pub BeginsUpTo : Log → ℕ → Type 0
BeginsUpTo [] number = ⊥
BeginsUpTo (file ∷ log) number = file.0 ≤ number

-- A redo of this log may begin at an LSN or behind it: this life of the environment began there or before, as did the redo of the log's last
-- checkpoint, and the log has the files from there on.
pub record EndsFrom (log : Log) (base since : ℕ) : Type 0 where
  pub life : base ≤ since
  pub redo : (last_checkpoint (placed log)).redo ≤ since
  pub file : BeginsUpTo log (since / 2 ^ 32)

-- then it begins in a file that is needed
abbrev pub RedoIsNeeded : Type 0
RedoIsNeeded = (first : ℕ) (opening : Store) (found : ℕ) (transactions : List (List Change)) (log : Log) (base since redo : ℕ) → RecoversLog first opening found transactions log → EndsFrom log base since
    → since ≤ redo → first ≤ redo / 2 ^ 32

-- none of the entries is the end of a checkpoint
abbrev pub AreNoEnds : List Entry → Type 0
AreNoEnds entries = AllByRecursion (λ e. (at : ℕ) → checkpoint_in at e ≡ None) entries

module _ {D : Type 0} where
  -- such an end may stand behind a log
  abbrev pub MayHaveEnd : (meaning : DiskMeaning D) (buffer : LogBuffer D) (log : Log) (rows : Rows) (last_txn last_db : ℕ) (is_active : ℕ → Bool) (own : ℕ → List OwnChange) →
      HasGiven meaning buffer log rows last_txn last_db is_active own → ℕ → EndParts → Option ℕ → Type 0
  MayHaveEnd meaning buffer log rows last_txn last_db is_active own h first p summary =
      MayEnd first (placed log) h.gives.base h.gives.next (pos_lsn (placed_at (file_max_of buffer) (end_of buffer) (size_of (end_entry p summary)))) h.gives.is_open (λ d x. data_at x (rows d))
      (is_live last_txn is_active) h.gives.logged p.redo p.roots

  module _ (meaning : DiskMeaning D) where
    -- ---- entries that change nothing

    -- the longer log gives the same, and recovers what the log did, and so it is where the disk failed
    abbrev pub NeutralsAreGiven : Type 0
    NeutralsAreGiven = (old new : LogBuffer D) (log : Log) (rows : Rows) (last_txn last_db : ℕ) (is_active : ℕ → Bool) (own : ℕ → List OwnChange)
        → HasGiven meaning old log rows last_txn last_db is_active own → (a : HasAdded meaning old new AreNeutral)
        → HasGiven meaning new (longer old a.entries log) rows last_txn last_db is_active own

    abbrev pub NeutralsAreRecovered : Type 0
    NeutralsAreRecovered = (old new : LogBuffer D) (log : Log) (rows : Rows) (last_txn last_db : ℕ) (is_active : ℕ → Bool) (own : ℕ → List OwnChange)
        (first : ℕ) (opening : Store) (found : ℕ) (transactions : List (List Change))
        → HasGiven meaning old log rows last_txn last_db is_active own → (a : HasAdded meaning old new AreNeutral)
        → RecoversLog first opening found transactions log → RecoversLog first opening found transactions (longer old a.entries log)

    abbrev pub TriedNeutralsAreRecovered : Type 0
    TriedNeutralsAreRecovered = (old new : LogBuffer D) (log : Log) (rows : Rows) (last_txn last_db : ℕ) (is_active : ℕ → Bool) (own : ℕ → List OwnChange)
        (first : ℕ) (opening : Store) (found : ℕ) (transactions : List (List Change))
        → HasGiven meaning old log rows last_txn last_db is_active own → (f : HasFailed meaning old new AreNeutral)
        → RecoversLog first opening found transactions log → RecoversLog first opening found transactions (longer old f.front log)

    -- ---- the end of a checkpoint

    -- the longer log gives the same, and recovers what the log did, and so it is where the disk failed
    abbrev pub EndIsGiven : Type 0
    EndIsGiven = (old new : LogBuffer D) (log : Log) (rows : Rows) (last_txn last_db : ℕ) (is_active : ℕ → Bool) (own : ℕ → List OwnChange)
        (first : ℕ) (opening : Store) (found : ℕ) (transactions : List (List Change)) (p : EndParts) (summary : Option ℕ)
        → (h : HasGiven meaning old log rows last_txn last_db is_active own) → RecoversLog first opening found transactions log
        → MayHaveEnd meaning old log rows last_txn last_db is_active own h first p summary
        → (a : HasAdded meaning old new (IsEndOf p summary))
        → HasGiven meaning new (longer old a.entries log) rows last_txn last_db is_active own

    abbrev pub EndIsRecovered : Type 0
    EndIsRecovered = (old new : LogBuffer D) (log : Log) (rows : Rows) (last_txn last_db : ℕ) (is_active : ℕ → Bool) (own : ℕ → List OwnChange)
        (first : ℕ) (opening : Store) (found : ℕ) (transactions : List (List Change)) (p : EndParts) (summary : Option ℕ)
        → (h : HasGiven meaning old log rows last_txn last_db is_active own)
        → MayHaveEnd meaning old log rows last_txn last_db is_active own h first p summary
        → (a : HasAdded meaning old new (IsEndOf p summary))
        → RecoversLog first opening found transactions log → RecoversLog first opening found transactions (longer old a.entries log)

    abbrev pub TriedEndIsRecovered : Type 0
    TriedEndIsRecovered = (old new : LogBuffer D) (log : Log) (rows : Rows) (last_txn last_db : ℕ) (is_active : ℕ → Bool) (own : ℕ → List OwnChange)
        (first : ℕ) (opening : Store) (found : ℕ) (transactions : List (List Change)) (p : EndParts) (summary : Option ℕ)
        → (h : HasGiven meaning old log rows last_txn last_db is_active own)
        → MayHaveEnd meaning old log rows last_txn last_db is_active own h first p summary
        → (f : HasFailed meaning old new (IsEndOf p summary))
        → RecoversLog first opening found transactions log → RecoversLog first opening found transactions (longer old f.front log)

  -- ---- where a redo may begin

  module _ (meaning : DiskMeaning D) where
    -- where it may begin it may in a longer log without another end; and behind an end from its redo LSN on
    abbrev pub EndsFromStays : Type 0
    EndsFromStays = (old : LogBuffer D) (log : Log) (entries : List Entry) (base since : ℕ) → HasLog meaning.observable (now (meaning.history (disk_of old))) old log → AreNoEnds entries → EndsFrom log base since
        → EndsFrom (longer old entries log) base since

    abbrev pub EndsFromEnd : Type 0
    EndsFromEnd = (old : LogBuffer D) (log : Log) (p : EndParts) (summary : Option ℕ) (base since : ℕ) → HasLog meaning.observable (now (meaning.history (disk_of old))) old log → since ≤ p.redo → EndsFrom log base since
        → EndsFrom (longer old (end_entry p summary ∷ []) log) base p.redo

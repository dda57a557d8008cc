-- What a log gives while transactions are under way: the committed records, and the own changes of each transaction.
use Rattle.std.specs.Prelude.{ℕ, ◌≡◌, ◌<◌, ◌≤◌, ◌⊎◌, Bool, true, List, [], map}
use Rattle.std.specs.List.{AllByRecursion}
use Rattle.log_file.specs.Log.{Log}
use Rattle.log_buffer.specs.declared.log_pos.LogPos.{LogPos}
use Rattle.log_buffer.specs.Flip.{pos_lsn}
use Rattle.log_replay.specs.Rows.{Rows, data_at, numbers_of}
use Rattle.log_trees.specs.Placed.{placed}
use Rattle.log_trees.specs.Changes.{LoggedChange}
use Rattle.log_meaning.specs.Stands.{Stands}
use Rattle.log_meaning.specs.Transactions.{AreListed}
use Rattle.txn_log.specs.Own.{OwnChange, is_live, own_by}

-- A log that ends here, read again, gives these records, and of each transaction under way its own changes wait. No change of a later transaction
-- number waits, and no database has a later number than the last one.
pub record GivesRecordsWith (log : Log) (end : LogPos) (rows : Rows) (last_txn last_db : ℕ) (is_active : ℕ → Bool) (own : ℕ → List OwnChange) : Type 0 where
  pub base : ℕ
  pub next : ℕ
  pub is_open : ℕ → Bool
  pub logged : ℕ → List LoggedChange
  pub stands : Stands (placed log) base next is_open (λ d x. data_at x (rows d)) (is_live last_txn is_active) logged
  pub own_is : (t : ℕ) → is_active t ≡ true → map own_by (logged t) ≡ own t
  pub none : (t : ℕ) → last_txn < t → logged t ≡ []
  pub below : next < pos_lsn end
  pub listed : AreListed is_open (λ d x. data_at x (rows d)) rows
  pub later : (db : ℕ) → last_db < db → is_open db ≡ true
  pub unused : (db : ℕ) → last_db < db → rows db ≡ []
  pub numbers : AllByRecursion (λ n. n ≤ last_db) (numbers_of rows)

-- the transactions under way later, with their own changes: each was under way and has the same ones, or it began since and has none
abbrev pub AreStillActive : ℕ → (ℕ → Bool) → (ℕ → List OwnChange) → (ℕ → Bool) → (ℕ → List OwnChange) → Type 0
AreStillActive last_txn is_active own still_active still_own =
    (t : ℕ) → still_active t ≡ true → ((is_active t ≡ true) × (still_own t ≡ own t)) ⊎ ((last_txn < t) × (still_own t ≡ []))

-- a transaction ends without a commit, a number is allocated, a transaction begins: the log is as it was
abbrev pub StillGives : Type 0
StillGives = (log : Log) (end : LogPos) (rows : Rows) (last_txn later_txn last_db : ℕ) (is_active still_active : ℕ → Bool) (own still_own : ℕ → List OwnChange)
    → GivesRecordsWith log end rows last_txn last_db is_active own → last_txn ≤ later_txn → AreStillActive last_txn is_active own still_active still_own
    → GivesRecordsWith log end rows later_txn last_db still_active still_own

-- the same log with the same end gives the same records
abbrev pub GivesSame : Type 0
GivesSame = (log : Log) (end same_end : LogPos) (rows same_rows : Rows) (last_txn last_db : ℕ) (is_active : ℕ → Bool) (own : ℕ → List OwnChange)
    → GivesRecordsWith log end rows last_txn last_db is_active own → same_end ≡ end → ((db : ℕ) → same_rows db ≡ rows db)
    → GivesRecordsWith log same_end same_rows last_txn last_db is_active own

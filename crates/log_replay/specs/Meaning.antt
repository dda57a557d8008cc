-- What the entries of a log mean.
use Rattle.std.specs.Prelude.{ℕ, List}
use Rattle.log_entry.specs.declared.entry.Entry.{Entry}
use Rattle.store_model.specs.declared.store.Store.{Store}
use Rattle.log_replay.specs.Rows.{store_of}
use Rattle.log_replay.specs.Replay.{replayed, nothing_replayed, txn_in, db_in, greatest}

-- the store, and the transaction and database numbers that were allocated last
pub record Meaning : Type 0 where
  pub store : Store
  pub last_txn : ℕ
  pub last_db : ℕ

-- what entries mean whose records are those of an environment
abbrev pub meaning_of : List Entry → Meaning
meaning_of entries = record { store = store_of (replayed entries nothing_replayed).rows; last_txn = greatest txn_in entries; last_db = greatest db_in entries }

-- An open environment beside the model: its log, what it has in memory, and where the model stands.
use Rattle.std.specs.Prelude.{ℕ, ◌≡◌, ◌<◌, ◌≤◌, [], List, None, Bool, false, true, nat_lt}
use Rattle.std.specs.List.{AllByRecursion}
use Rattle.je_disk.specs.States.{State}
use Rattle.store_model.specs.declared.change.Change.{Change}
use Rattle.store_model.specs.declared.store.Store.{Store}
use Rattle.store_model.specs.Store.{store_after}
use Rattle.je_answers.specs.Standing.{Standing}
use Rattle.je_answers.specs.Alone.{Alone, alone}
use Rattle.log_file.specs.Log.{Log}
use Rattle.log_buffer.specs.declared.buffer.LogBuffer.{LogBuffer}
use Rattle.log_buffer.specs.declared.log_pos.LogPos.{LogPos}
use Rattle.log_buffer.specs.Buffer.{end_of, file_max_of, has_failed}
use Rattle.log_buffer.specs.Flip.{pos_lsn}
use Rattle.log_buffer.specs.Log.{HasLog}
use Rattle.log_replay.specs.Rows.{data_at, numbers_of, store_of}
use Rattle.log_replay.specs.Logging.{number_named}
use Rattle.log_trees.specs.Placed.{placed}
use Rattle.log_meaning.specs.Stands.{Stands}
use Rattle.log_meaning.specs.Transactions.{AreListed}
use Rattle.crash_recovery.specs.Recovery.{RecoversLog}
use Rattle.txn_core.specs.Totals.{totals_of}
use Rattle.txn_log.specs.Checkpoints.{EndsFrom}
use Rattle.tree_images.specs.Forest.{ForestFits}
use Rattle.engine.specs.Contents.{Contents}

-- a log that ends here, read again, gives these records; no change of a transaction with a later number waits in it, and no database has a later
-- number
pub record GivesRecords (log : Log) (end : LogPos) (c : Contents) : Type 0 where
  pub base : ℕ
  pub next : ℕ
  pub is_open : ℕ → Bool
  pub stands : Stands (placed log) base next is_open (λ d x. data_at x (c.rows d)) (λ t. nat_lt c.last_txn t) (λ t. [])
  pub below : next < pos_lsn end
  pub listed : AreListed is_open (λ d x. data_at x (c.rows d)) c.rows
  pub later : (db : ℕ) → c.last_db < db → is_open db ≡ true
  pub unused : (db : ℕ) → c.last_db < db → c.rows db ≡ []
  pub numbers : AllByRecursion (λ n. n ≤ c.last_db) (numbers_of c.rows)

-- what a crash leaves of a log means a store changed by the first of some transactions; all of them make this store
pub record RecoversStore (log : Log) (store : Store) : Type 0 where
  pub first : ℕ
  pub opening : Store
  pub base : ℕ
  pub transactions : List (List Change)
  pub recovers : RecoversLog first opening base transactions log
  pub made : store_after opening transactions ≡ store

module _ {D : Type 0} where
  -- a valid environment: its buffer works and has its log, with the disk's files if the disk is observable; the log gives its records and recovers
  -- its store, the trees fit it, and a redo of it may begin where it is said
  pub record IsValid (observable : Bool) (state : State) (buffer : LogBuffer D) (c : Contents) (store : Store) : Type 0 where
    pub log : Log
    pub has : HasLog observable state buffer log
    pub works : has_failed buffer ≡ false
    pub gives : GivesRecords log (end_of buffer) c
    pub recovers : RecoversStore log store
    pub made : store_of c.rows ≡ store
    pub fits : ForestFits (placed log) gives.base c.last_number c.trees
    pub from : EndsFrom log gives.base c.checkpoints.since

  -- the environment, whose files have at most so many bytes, is where the model stands with nothing under way
  pub record AreAlone (most : ℕ) (observable : Bool) (state : State) (buffer : LogBuffer D) (c : Contents) (p : Alone) : Type 0 where
    pub file_max : file_max_of buffer ≡ most
    pub fault : c.fault ≡ p.fault
    pub last_txn : c.last_txn ≡ p.last_txn
    pub last_db : c.last_db ≡ p.last_db
    pub commits : c.commits ≡ p.commits
    pub totals : c.totals ≡ totals_of p.store
    pub checkpoint : c.checkpoints.under_way ≡ p.in_checkpoint
    pub numbers : p.fault ≡ None → number_named c.rows ≡ p.numbers
    pub valid : p.fault ≡ None → IsValid observable state buffer c p.store

  -- the environment is where the model stands: nothing is under way there
  pub record AreAt (most : ℕ) (observable : Bool) (state : State) (buffer : LogBuffer D) (c : Contents) (st : Standing) : Type 0 where
    pub alone_at : Alone
    pub st_is : st ≡ alone alone_at
    pub here : AreAlone most observable state buffer c alone_at

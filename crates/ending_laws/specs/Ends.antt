-- Where the end of a checkpoint may stand behind a log.
use Rattle.std.specs.Prelude.{ℕ, ◌≡◌, ◌≤◌, Bool, true, List, Option, Some}
use Rattle.std.specs.List.{AllByRecursion}
use Rattle.je_disk.specs.DiskMeaning.{DiskMeaning}
use Rattle.store_model.specs.declared.change.Change.{Change}
use Rattle.store_model.specs.declared.store.Store.{Store}
use Rattle.log_entry.specs.declared.root.Root.{Root}
use Rattle.record_map.specs.Cells.{IsRising}
use Rattle.db_tree.specs.Seen.{occupied}
use Rattle.in_tree.specs.Checkpoints.{MayEndTrees}
use Rattle.in_tree.specs.Forest.{cells_of}
use Rattle.txn_core.specs.Known.{committed}
use Rattle.log_file.specs.Log.{Log}
use Rattle.log_buffer.specs.declared.buffer.LogBuffer.{LogBuffer}
use Rattle.log_replay.specs.Rows.{Rows, data_at}
use Rattle.log_trees.specs.Placed.{placed}
use Rattle.db_tree.specs.declared.tree.DbTree.{DbTree}
use Rattle.crash_recovery.specs.Recovery.{RecoversLog}
use Rattle.tree_images.specs.Forest.{ForestFits}
use Rattle.tree_images.specs.Roots.{AreRowsOf}
use Rattle.txn_log.specs.Buffers.{HasGiven}
use Rattle.txn_log.specs.Checkpoints.{EndParts, EndsFrom, MayHaveEnd}
use Rattle.txn_log.specs.Own.{OwnChange, is_live}

-- the data that transactions find committed in the cells of trees is that of the trees
abbrev pub CellsAreRecords : Type 0
CellsAreRecords = (is_open : ℕ → Bool) (trees : ℕ → Option DbTree) → ((d : ℕ) (tree : DbTree) → trees d ≡ Some tree → IsRising tree.cells)
    → AreRowsOf is_open (λ d x. data_at x (committed (λ b. occupied (cells_of (trees b))) d)) trees

module _ {D : Type 0} (meaning : DiskMeaning D) (buffer : LogBuffer D) (log : Log) (rows : Rows) (last_txn last_db : ℕ) (is_active : ℕ → Bool) (own : ℕ → List OwnChange) where
  -- the log gives the same as before, of the same life, and such an end may stand behind it
  pub record MayGetEnd (base first : ℕ) (p : EndParts) (summary : Option ℕ) : Type 0 where
    pub given : HasGiven meaning buffer log rows last_txn last_db is_active own
    pub same : given.gives.base ≡ base
    pub may : MayHaveEnd meaning buffer log rows last_txn last_db is_active own given first p summary

  -- An end's redo LSN: the log's redo may begin there, no image of the trees lacks what was logged before it, nor was anything logged before it by a
  -- transaction under way. The trees fit the log, and have its records.
  pub record HasRedo (h : HasGiven meaning buffer log rows last_txn last_db is_active own) (since redo last : ℕ) (trees : ℕ → Option DbTree) (roots : List Root) : Type 0 where
    pub from : EndsFrom log h.gives.base since
    pub since_low : since ≤ redo
    pub names : MayEndTrees buffer trees redo roots
    pub fits : ForestFits (placed log) h.gives.base last trees
    pub records : AreRowsOf h.gives.is_open (λ d x. data_at x (rows d)) trees
    pub firsts : (t : ℕ) → is_live last_txn is_active t ≡ true → AllByRecursion (λ c. redo ≤ c.written.at) (h.gives.logged t)

module _ {D : Type 0} (meaning : DiskMeaning D) where
  abbrev pub EndsMayStand : Type 0
  EndsMayStand = (buffer : LogBuffer D) (log : Log) (rows : Rows) (last_txn last_db : ℕ) (is_active : ℕ → Bool) (own : ℕ → List OwnChange) (first : ℕ) (opening : Store) (found : ℕ)
      (transactions : List (List Change)) (p : EndParts) (summary : Option ℕ) (since last : ℕ) (trees : ℕ → Option DbTree)
      → (h : HasGiven meaning buffer log rows last_txn last_db is_active own) → RecoversLog first opening found transactions log
      → HasRedo meaning buffer log rows last_txn last_db is_active own h since p.redo last trees p.roots
      → MayGetEnd meaning buffer log rows last_txn last_db is_active own h.gives.base first p summary

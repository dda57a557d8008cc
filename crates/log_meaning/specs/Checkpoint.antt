-- The last checkpoint of a log, and the log read again from it.
use Rattle.std.specs.Prelude.{ℕ, List, [], ◌∷◌, ◌++◌, Option, None, Some, unwrap_or}
use Rattle.log_entry.specs.declared.entry.Entry.{Entry}
use Rattle.log_entry.specs.declared.entry.Entry.TheVariants.{CkptEnd}
use Rattle.log_entry.specs.declared.root.Root.{Root}
use Rattle.log_replay.specs.Wrong.{or_else}
use Rattle.log_trees.specs.Placed.{Placed}
use Rattle.log_trees.specs.Changes.{LoggedChange}
use Rattle.log_trees.specs.Trees.{rows_of_roots}
use Rattle.log_meaning.specs.Redo.{Redo, redone}

-- the end of a checkpoint: its LSN and number, the LSN from which on entries are redone, the numbers that were allocated last, and the roots
pub record Checkpoint : Type 0 where
  pub at : ℕ
  pub number : ℕ
  pub redo : ℕ
  pub last_txn : ℕ
  pub last_node : ℕ
  pub last_db : ℕ
  pub roots : List Root

-- the checkpoint that an entry ends
abbrev pub checkpoint_in : ℕ → Entry → Option Checkpoint
checkpoint_in at (CkptEnd number start redo last_txn last_node last_db summary roots) =
    Some (record { at = at; number = number; redo = redo; last_txn = last_txn.0; last_node = last_node; last_db = last_db; roots = roots })
checkpoint_in at entry = None

-- the last checkpoint that ended
abbrev pub last_end : List Placed → Option Checkpoint
last_end [] = None
last_end (p ∷ es) = or_else (last_end es) (checkpoint_in p.0 p.1)

-- the checkpoint of a log that has none: no roots, and the whole log is redone
abbrev pub no_checkpoint : Checkpoint
no_checkpoint = record { at = 0; number = 0; redo = 0; last_txn = 0; last_node = 0; last_db = 0; roots = [] }

-- the last checkpoint that has ended; where there is none the whole log is redone
abbrev pub last_checkpoint : List Placed → Checkpoint
last_checkpoint es = unwrap_or (last_end es) no_checkpoint

-- a redo over records that stood before it
abbrev pub behind : List LoggedChange → Redo → Redo
behind rows redo = record { done = rows ++ redo.done; pending = redo.pending }

-- the log read again from a checkpoint: the trees of its roots, and then the redo from its redo LSN on
abbrev pub restarted_from : List Placed → Checkpoint → Redo
restarted_from es c = behind (rows_of_roots es c.at c.roots) (redone c.redo es)

-- the store's records from the last checkpoint: those of its trees, and then what is redone
abbrev pub restarted : List Placed → Redo
restarted es = restarted_from es (last_checkpoint es)

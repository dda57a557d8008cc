-- A log that is longer by a checkpoint's end recovers what it did.
use Rattle.std.proofs.Common.{◌≡◌, ℕ, List, [], ◌∷◌, ◌++◌, Option, Some, unwrap_or, sym, ap, subst, ◌∙◌, arith}
use Rattle.log_entry.specs.declared.entry.Entry.TheVariants.{CkptEnd}
use Rattle.log_trees.specs.Placed.{Placed}
use Rattle.log_trees.specs.Trees.{rows_of_roots}
use Rattle.log_trees.specs.Walk.{read_roots}
use Rattle.log_trees.proofs.LongerLogs.{readings_stay}
use Rattle.log_trees.proofs.Reading.{roots_are_read}
use Rattle.log_trees.proofs.Staying.{roots_stay}
use Rattle.log_meaning.specs.Checkpoint.{Checkpoint, no_checkpoint, last_end}
use Rattle.log_meaning.specs.Stands.{Stands}
use Rattle.log_meaning.specs.Recovery.{AreRootsRead, IsRedoLsn}
use Rattle.log_meaning.specs.Ending.{EndsRecover}
use Rattle.log_meaning.proofs.RedoLaws.{last_end-push}
use Rattle.log_meaning.proofs.Standing.{stands_end}
use Rattle.log_meaning.proofs.Leaving.{recovers_push}
use Rattle.log_meaning.proofs.Recovering.{read_as, leaves_of}

pub ends_recover : EndsRecover
ends_recover first opening found transactions es base next at is_open rows is_live logged number start redo last_txn last_node last_db summary roots kept is s may listed store =
    record {
      stands = stands;
      recovers = recovers_push first opening found transactions [] es p is
          (leaves_of first (es ++ p ∷ []) base at is_open rows is_live logged kept _ stands roots_read redo_is listed store);
      roots = roots_read;
      redo = redo_is;
    }
  where
    p : Placed
    p = (at, CkptEnd number start redo last_txn last_node last_db summary roots)

    ended : Checkpoint
    ended = record { at = at; number = number; redo = redo; last_txn = last_txn.0; last_node = last_node; last_db = last_db; roots = roots }

    last : last_end (es ++ p ∷ []) ≡ Some ended
    last = last_end-push es p

    stands : Stands (es ++ p ∷ []) base at is_open rows is_live logged
    stands =
        stands_end es base next at is_open rows is_live logged number start redo last_txn last_node last_db summary roots s may.later may.from may.upto may.covered may.own

    roots_read : AreRootsRead (es ++ p ∷ [])
    roots_read files =
        let read = roots_are_read files es may.home at roots may.rise may.right in
        subst (λ (k : Checkpoint). (numbers : List ℕ)
        × (read_roots files (es ++ p ∷ []) k.at k.roots
        ≡ read_as numbers (rows_of_roots (es ++ p ∷ []) k.at k.roots)))
        (sym (ap (λ (o : Option Checkpoint). unwrap_or o no_checkpoint) last))
        (read.0, readings_stay files es (p ∷ []) at roots (omega arith, tt) ∙ read.1 ∙ ap (read_as read.0) (sym (roots_stay es (p ∷ []) at roots (omega arith, tt))))

    redo_is : IsRedoLsn first (last_end (es ++ p ∷ []))
    redo_is = let up = may.upto in let lt = may.later in subst (IsRedoLsn first) (sym last) (omega (arith, up, lt), may.file)

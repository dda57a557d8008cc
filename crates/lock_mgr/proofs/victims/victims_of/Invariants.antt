use Rattle.std.proofs.Common.{◌++◌, List, length}
use Rattle.je_order.specs.declared.txn_id.TxnId.{TxnId}
use Rattle.waits_for.specs.Cycles.{is_edge}
use Rattle.lock_mgr.specs.Reach.{BreaksAll}
use Rattle.lock_mgr.proofs.victims.victims_of.Given as goal

abbrev pub invariant-loop-victims : goal.invariant-loop-victims
invariant-loop-victims l = (more : List (TxnId × List TxnId)) → BreaksAll (is_edge l.edges) l.txn more → BreaksAll (is_edge l.initial.edges) l.txn (l.victims ++ more)

abbrev pub decreases-loop-victims : goal.decreases-loop-victims
decreases-loop-victims l = length l.edges

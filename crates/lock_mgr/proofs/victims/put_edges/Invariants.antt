use Rattle.std.proofs.Common.{◌≡◌, ◌&&◌, ◌||◌, drop}
use Rattle.je_order.specs.declared.txn_id.TxnId.{TxnId}
use Rattle.waits_for.specs.Cycles.{is_in, is_edge}
use Rattle.je_order.specs.Transactions.{is_same_txn}
use Rattle.lock_mgr.proofs.victims.put_edges.Given as goal

abbrev pub invariant-loop-owner : goal.invariant-loop-owner
invariant-loop-owner l = (x y : TxnId) → ((is_same_txn x l.waiter && is_in y (drop l.owner-index l.owners)) || is_edge l.edges x y) ≡ ((is_same_txn x l.waiter && is_in y l.owners) || is_edge l.initial.edges x y)

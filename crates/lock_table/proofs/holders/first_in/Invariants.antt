use Rattle.lock_table.proofs.HolderFound.{AreToCome}
use Rattle.lock_table.proofs.holders.first_in.Given as goal

abbrev pub invariant-loop-txn : goal.invariant-loop-txn
invariant-loop-txn l = AreToCome l.db l.queues.entries l.txn-iterator

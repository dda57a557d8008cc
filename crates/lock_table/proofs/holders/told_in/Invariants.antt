use Rattle.lock_table.proofs.DatabaseOwners.{IsLeft}
use Rattle.lock_table.proofs.holders.told_in.Given as goal

abbrev pub invariant-loop-txn : goal.invariant-loop-txn
invariant-loop-txn l = IsLeft l.db l.pending.entries l.txn-iterator

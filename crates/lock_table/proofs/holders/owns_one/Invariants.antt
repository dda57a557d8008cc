use Rattle.std.proofs.Common.{drop}
use Rattle.lock_table.proofs.HolderFound.{OwnsLater}
use Rattle.lock_table.proofs.holders.owns_one.Given as goal

abbrev pub invariant-loop-at : goal.invariant-loop-at
invariant-loop-at l = OwnsLater l.db l.txn l.queues.entries l.list (drop l.at-index l.list)

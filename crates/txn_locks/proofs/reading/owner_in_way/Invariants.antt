use Rattle.std.proofs.Common.{drop}
use Rattle.txn_locks.specs.Taking.{state_of}
use Rattle.txn_locks.proofs.ReadNeeds.{ArePassed}
use Rattle.txn_locks.proofs.reading.owner_in_way.Given as goal

abbrev pub invariant-loop-need : goal.invariant-loop-need
invariant-loop-need l = ArePassed l.txn l.needs (drop l.need-index l.needs) (state_of l.locks)

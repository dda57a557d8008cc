use Rattle.std.proofs.Common.{length}
use Rattle.txn_locks.specs.Taking.{state_of}
use Rattle.txn_locks.proofs.Backs.{AreGoing}
use Rattle.txn_locks.proofs.undoing.give_back_all.Given as goal

abbrev pub invariant-loop-last : goal.invariant-loop-last
invariant-loop-last l = AreGoing l.txn l.initial.got.items (state_of l.initial.locks) l.got.items (state_of l.locks)

abbrev pub decreases-loop-last : goal.decreases-loop-last
decreases-loop-last l = length l.got.items

use Rattle.txn_locks.specs.Taking.{state_of}
use Rattle.txn_locks.proofs.NeedSteps.{IsLocking}
use Rattle.txn_locks.proofs.taking.take_each.Given as goal

abbrev pub invariant-loop-place : goal.invariant-loop-place
invariant-loop-place l = IsLocking l.txn l.needs l.place (state_of l.initial.locks) (state_of l.locks) l.got.items

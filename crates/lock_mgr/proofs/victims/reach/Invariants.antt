use Rattle.std.proofs.Common.{◌+◌, length}
use Rattle.lock_mgr.specs.Deadlock.{waits}
use Rattle.lock_mgr.specs.Reach.{IsFilling, weight}
use Rattle.lock_mgr.proofs.victims.reach.Given as goal

abbrev pub invariant-loop-next : goal.invariant-loop-next
invariant-loop-next l = IsFilling (waits l.table) l.txn l.edges l.seen l.todo.items

abbrev pub decreases-loop-next : goal.decreases-loop-next
decreases-loop-next l = weight l.table l.seen l.table.pending + length l.todo.items

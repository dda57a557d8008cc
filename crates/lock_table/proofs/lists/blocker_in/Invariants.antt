use Rattle.std.proofs.Common.{◌≡◌, drop}
use Rattle.lock_table.specs.Locks.{blocker, lesser}
use Rattle.lock_table.proofs.lists.blocker_in.Given as goal

abbrev pub invariant-loop-owner : goal.invariant-loop-owner
invariant-loop-owner l = lesser l.found (blocker l.lock (drop l.owner-index l.owners)) ≡ blocker l.lock l.owners

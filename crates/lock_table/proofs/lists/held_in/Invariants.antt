use Rattle.std.proofs.Common.{◌≡◌, drop}
use Rattle.lock_table.specs.Locks.{held_by}
use Rattle.lock_table.proofs.lists.held_in.Given as goal

abbrev pub invariant-loop-owner : goal.invariant-loop-owner
invariant-loop-owner l = held_by l.txn (drop l.owner-index l.owners) ≡ held_by l.txn l.owners

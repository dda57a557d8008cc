use Rattle.std.proofs.Common.{◌≡◌, ◌++◌, map, take, drop}
use Rattle.lock_table.specs.Locks.{set_by}
use Rattle.lock_table.proofs.lists.set_in.Given as goal

abbrev pub invariant-loop-at : goal.invariant-loop-at
invariant-loop-at l = take l.at l.owners ++ map (set_by l.txn l.mode) (drop l.at l.owners) ≡ map (set_by l.txn l.mode) l.initial.owners

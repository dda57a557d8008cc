use Rattle.std.proofs.Common.{◌≡◌, ◌++◌, map, take, drop}
use Rattle.lock_table.specs.Locks.{upgraded_by}
use Rattle.lock_table.proofs.lists.upgrade_in.Given as goal

abbrev pub invariant-loop-at : goal.invariant-loop-at
invariant-loop-at l = take l.at l.owners ++ map (upgraded_by l.lock) (drop l.at l.owners) ≡ map (upgraded_by l.lock) l.initial.owners

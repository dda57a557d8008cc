use Rattle.std.proofs.Common.{◌≡◌, ◌++◌, drop, map}
use Rattle.std.specs.List.{filter}
use Rattle.lock_table.specs.Locks.{is_blocking}
use Rattle.lock_table.proofs.lists.stoppers.Given as goal

abbrev pub invariant-loop-owner : goal.invariant-loop-owner
invariant-loop-owner l = l.found.items ++ map (λ o. o.txn) (filter (is_blocking l.lock) (drop l.owner-index l.owners)) ≡ map (λ o. o.txn) (filter (is_blocking l.lock) l.owners)

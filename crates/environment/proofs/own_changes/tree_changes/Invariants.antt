use Rattle.std.proofs.Common.{◌≡◌, ◌++◌, map}
use Rattle.std.specs.Vec.Iter.{into_iter_items}
use Rattle.txn_log.specs.Own.{tree_of}
use Rattle.environment.proofs.own_changes.tree_changes.Given as goal

-- the changes so far and those that are left are all changes
abbrev pub invariant-changes : goal.invariant-changes
invariant-changes l = l.planned.items ++ map tree_of (into_iter_items l.db-iterator) ≡ map tree_of l.fn.changes.items

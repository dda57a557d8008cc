use Rattle.std.proofs.Common.{◌≡◌, ◌++◌}
use Rattle.std.specs.Vec.Iter.{into_iter_items}
use Rattle.txn_views.specs.Targets.{with_found_numbers}
use Rattle.txn_views.proofs.through.with_numbers.Given as goal

-- the changes so far and those that are left are all
abbrev pub invariant-changes : goal.invariant-changes
invariant-changes l = l.own.items ++ with_found_numbers (into_iter_items l.change-iterator) ≡ with_found_numbers l.fn.changes.items

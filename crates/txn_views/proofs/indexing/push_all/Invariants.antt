use Rattle.std.proofs.Common.{◌≡◌, ◌++◌}
use Rattle.std.specs.Vec.Iter.{into_iter_items}
use Rattle.txn_views.proofs.indexing.push_all.Given as goal

-- the changes so far and those that are left are all
abbrev pub invariant-others : goal.invariant-others
invariant-others l = l.changes.items ++ into_iter_items l.change-iterator ≡ l.fn.changes.items ++ l.fn.others.items

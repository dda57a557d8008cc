use Rattle.std.proofs.Common.{◌≡◌, ◌++◌}
use Rattle.std.specs.Vec.Iter.{into_iter_items}
use Rattle.store_model.specs.Indexes.{all_changes}
use Rattle.index_map.specs.Laws.{over_of, indexes_at}
use Rattle.txn_views.specs.Targets.{found_at, seen_in, found_changes}
use Rattle.txn_views.proofs.indexing.all_changes.Given as goal

-- the changes so far and those that come with the ones that are left are all
abbrev pub invariant-changes : goal.invariant-changes
invariant-changes g l =
    let all = all_changes (over_of l.found.over) (found_at l.found.db) (indexes_at l.found.indexes.now) (seen_in l.viewer.level l.viewer.txn (g.T.Records.cells l.trees)) in
    l.all.items ++ found_changes (all (into_iter_items l.change-iterator)) ≡ found_changes (all l.fn.changes)

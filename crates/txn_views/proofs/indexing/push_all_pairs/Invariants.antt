use Rattle.std.proofs.Common.{◌≡◌, ◌++◌, drop, flat_map}
use Rattle.std.specs.Option.{option_copied}
use Rattle.index_map.specs.Laws.{indexes_at}
use Rattle.txn_views.specs.Targets.{found_changes, pairs_in}
use Rattle.txn_views.proofs.indexing.push_all_pairs.Given as goal

-- the changes so far and those of the indexes that are left are all
abbrev pub invariant-loop-index : goal.invariant-loop-index
invariant-loop-index l =
    l.changes.items ++ found_changes (flat_map (pairs_in l.key (option_copied l.fn.old) (option_copied l.fn.new)) (indexes_at (drop l.index-index l.indexes)))
    ≡ l.fn.changes.items ++ found_changes (flat_map (pairs_in l.key (option_copied l.fn.old) (option_copied l.fn.new)) (indexes_at l.indexes))

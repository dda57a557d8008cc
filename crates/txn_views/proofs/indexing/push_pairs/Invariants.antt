use Rattle.std.proofs.Common.{◌≡◌, ◌++◌, map}
use Rattle.std.specs.Option.{option_copied}
use Rattle.std.specs.Vec.Iter.{into_iter_items}
use Rattle.index_map.specs.Laws.{index_at}
use Rattle.txn_views.specs.Targets.{found_changes, pairs_in}
use Rattle.txn_views.proofs.indexing.push_pairs.Given as goal

-- the changes so far and those of the pairs that are left are all
abbrev pub invariant-loop-change : goal.invariant-loop-change
invariant-loop-change l =
    l.changes.items ++ found_changes (map (λ c. (index_at l.fn.index, c)) (into_iter_items l.change-iterator))
    ≡ l.fn.changes.items ++ found_changes (pairs_in l.key (option_copied l.fn.old) (option_copied l.fn.new) (index_at l.fn.index))

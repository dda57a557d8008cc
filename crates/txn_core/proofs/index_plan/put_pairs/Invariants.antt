use Rattle.std.proofs.Common.{◌≡◌, ◌++◌, map, drop}
use Rattle.std.specs.List.{AllByRecursion}
use Rattle.secondary.specs.Pairs.{pairs_in}
use Rattle.txn_core.specs.Fills.{pair_planned, IsShortPair}
use Rattle.txn_core.proofs.index_plan.put_pairs.Given as goal

-- the changes so far and those that are left are all changes, and where the pairs that are left are short, all are
abbrev pub invariant-pairs : goal.invariant-pairs
invariant-pairs l =
    (l.changes.items ++ map (pair_planned l.number) (pairs_in (drop l.pair-index l.pairs)) ≡ l.fn.changes.items ++ map (pair_planned l.number) (pairs_in l.pairs))
    × (AllByRecursion IsShortPair (pairs_in (drop l.pair-index l.pairs)) → AllByRecursion IsShortPair (pairs_in l.pairs))

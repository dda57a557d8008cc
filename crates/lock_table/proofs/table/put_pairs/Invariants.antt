use Rattle.std.proofs.Common.{◌≡◌, ◌++◌, drop, map}
use Rattle.lock_table.proofs.table.put_pairs.Given as goal

abbrev pub invariant-loop-owner : goal.invariant-loop-owner
invariant-loop-owner l = l.pairs.items ++ map (λ u. (l.txn, u)) (drop l.owner-index l.owners) ≡ l.initial.pairs.items ++ map (λ u. (l.txn, u)) l.owners

use Rattle.std.proofs.Common.{◌≡◌, count_by, take}
use Rattle.active_txns.specs.Own.{is_set}
use Rattle.active_txns.proofs.counting.count_set.Given as goal

abbrev pub invariant-loop-change : goal.invariant-loop-change
invariant-loop-change l = l.count ≡ count_by (λ c. is_set c.1) (take l.change-index l.changes)

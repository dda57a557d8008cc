use Rattle.std.proofs.Common.{◌≡◌, drop}
use Rattle.store_model.specs.Store.{all_pairs_changed}
use Rattle.store_eval.proofs.changing.pairs_after.Given as goal

-- the changes that are left lead from the pairs so far to the pairs after all
abbrev pub invariant-loop-change : goal.invariant-loop-change
invariant-loop-change v = all_pairs_changed v.kind (drop v.change-index v.changes) v.now ≡ all_pairs_changed v.kind v.changes v.pairs

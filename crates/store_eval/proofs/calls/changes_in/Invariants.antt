use Rattle.std.proofs.Common.{◌≡◌, ◌++◌, map, drop}
use Rattle.store_model.specs.Store.{change_in}
use Rattle.store_eval.proofs.calls.changes_in.Given as goal

-- the changes so far and those that are left are all changes
abbrev pub invariant-loop-change : goal.invariant-loop-change
invariant-loop-change v = v.all.items ++ map (change_in v.db) (drop v.change-index v.changes) ≡ map (change_in v.db) v.changes

use Rattle.std.proofs.Common.{◌≡◌, count_by, take}
use Rattle.environment.specs.Changing.{sets_data}
use Rattle.environment.proofs.auto_plan.count_set.Given as goal

abbrev pub invariant-loop-change : goal.invariant-loop-change
invariant-loop-change l = l.count ≡ count_by sets_data (take l.change-index l.changes)

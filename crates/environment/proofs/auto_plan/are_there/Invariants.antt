use Rattle.std.proofs.Common.{◌≡◌, true, take}
use Rattle.std.specs.List.{AllByRecursion}
use Rattle.txn_core.specs.Known.{committed}
use Rattle.environment.specs.Changing.{has_data}
use Rattle.environment.proofs.auto_plan.are_there.Given as goal

abbrev pub invariant-loop-change : goal.invariant-loop-change
invariant-loop-change g l = AllByRecursion (λ c. l.db ≡ c.db → has_data (committed (g.T.Records.cells l.trees)) c ≡ true) (take l.change-index l.changes)

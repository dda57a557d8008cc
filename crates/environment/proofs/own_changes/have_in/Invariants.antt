use Rattle.std.proofs.Common.{◌≡◌, true, take}
use Rattle.std.specs.List.{AllByRecursion}
use Rattle.environment.specs.Writing.{has_record}
use Rattle.environment.proofs.own_changes.have_in.Given as goal

abbrev pub invariant-loop-change : goal.invariant-loop-change
invariant-loop-change g l = AllByRecursion (λ e. l.db ≡ e.db → has_record l.txn (g.T.Records.cells l.trees) e ≡ true) (take l.change-index l.changes)

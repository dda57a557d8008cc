use Rattle.std.proofs.Common.{◌≡◌, take}
use Rattle.txn_views.specs.Laws.{own_names}
use Rattle.environment.proofs.own_changes.copy_names.Given as goal

abbrev pub invariant-loop-change : goal.invariant-loop-change
invariant-loop-change l = l.names.items ≡ own_names (take l.change-index l.changes)

use Rattle.std.proofs.Common.{◌≡◌, ◌++◌, drop}
use Rattle.txn_core.specs.Transactions.{changed_names}
use Rattle.txn_core.proofs.transaction.changed_names.Given as goal

abbrev pub invariant-loop-change : goal.invariant-loop-change
invariant-loop-change l = l.names.items ++ changed_names (drop l.change-index l.changes) ≡ changed_names l.changes

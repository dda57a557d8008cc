use Rattle.std.proofs.Common.{length}
use Rattle.recovery_je.specs.Checking.{values_in}
use Rattle.recovery_je.proofs.RecordNotes.{IsSorted}
use Rattle.recovery_je.proofs.record_checks.wrong_in_order.Given as goal

abbrev pub invariant-loop-database : goal.invariant-loop-database
invariant-loop-database g l = IsSorted (values_in (g.T.Loads.stored l.trees)) l.fn.databases.items l.left.items l.wrong.items

abbrev pub decreases-loop-database : goal.decreases-loop-database
decreases-loop-database g l = length l.left.items

use Rattle.std.proofs.Common.{drop}
use Rattle.recovery_je.specs.Checking.{values_in}
use Rattle.recovery_je.specs.Indexing.{IsLeftOf}
use Rattle.recovery_je.proofs.indexes.first_not_filled.Given as goal

abbrev pub invariant-loop-record : goal.invariant-loop-record
invariant-loop-record g l = IsLeftOf (values_in (g.T.Loads.stored l.trees)) (drop l.record-index l.records) l.records

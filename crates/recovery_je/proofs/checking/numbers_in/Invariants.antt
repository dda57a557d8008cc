use Rattle.std.proofs.Common.{◌≡◌, ◌++◌, map, drop}
use Rattle.log_replay.specs.Rows.{catalog_number}
use Rattle.recovery_je.specs.Checking.{values_of}
use Rattle.recovery_je.proofs.checking.numbers_in.Given as goal

abbrev pub invariant-loop-record : goal.invariant-loop-record
invariant-loop-record l = l.numbers.items ++ map (λ r. catalog_number r.1) (values_of (drop l.record-index l.records)) ≡ map (λ r. catalog_number r.1) (values_of l.records)

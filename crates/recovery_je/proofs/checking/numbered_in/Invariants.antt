use Rattle.std.proofs.Common.{◌≡◌, ◌++◌, map, drop}
use Rattle.recovery_je.specs.Checking.{values_of, numbered_of}
use Rattle.recovery_je.proofs.checking.numbered_in.Given as goal

abbrev pub invariant-loop-record : goal.invariant-loop-record
invariant-loop-record l = l.databases.items ++ map numbered_of (values_of (drop l.record-index l.records)) ≡ map numbered_of (values_of l.records)

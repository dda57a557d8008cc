use Rattle.std.proofs.Common.{◌≡◌, [], drop}
use Rattle.log_replay.specs.Wrong.{wrong_in_catalog}
use Rattle.recovery_je.specs.Checking.{values_of}
use Rattle.recovery_je.proofs.checking.wrong_in_catalog.Given as goal

abbrev pub invariant-loop-record : goal.invariant-loop-record
invariant-loop-record l =
    wrong_in_catalog (values_of l.records) l.before.items (values_of (drop l.record-index l.records)) ≡ wrong_in_catalog (values_of l.records) [] (values_of l.records)

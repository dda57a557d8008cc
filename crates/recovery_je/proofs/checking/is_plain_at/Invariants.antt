use Rattle.std.proofs.Common.{◌≡◌, drop}
use Rattle.log_replay.specs.Rows.{is_plain_row, row_numbered}
use Rattle.recovery_je.specs.Checking.{values_of}
use Rattle.recovery_je.proofs.checking.is_plain_at.Given as goal

abbrev pub invariant-loop-record : goal.invariant-loop-record
invariant-loop-record l = is_plain_row (row_numbered l.number (values_of (drop l.record-index l.records))) ≡ is_plain_row (row_numbered l.number (values_of l.records))

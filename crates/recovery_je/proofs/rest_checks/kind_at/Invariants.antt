use Rattle.std.proofs.Common.{◌≡◌, drop, option_map}
use Rattle.log_replay.specs.Rows.{catalog_kind, row_numbered}
use Rattle.recovery_je.specs.Checking.{values_of}
use Rattle.recovery_je.proofs.rest_checks.kind_at.Given as goal

abbrev pub invariant-loop-row : goal.invariant-loop-row
invariant-loop-row l = option_map (λ r. catalog_kind r.1) (row_numbered l.number (values_of (drop l.row-index l.left))) ≡ option_map (λ r. catalog_kind r.1) (row_numbered l.number (values_of l.left))

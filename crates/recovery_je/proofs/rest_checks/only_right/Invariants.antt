use Rattle.std.proofs.Common.{◌≡◌, ◌++◌, drop, filter}
use Rattle.record_tree.specs.Stored.{lent}
use Rattle.log_replay.specs.Rows.{is_right_row}
use Rattle.recovery_je.proofs.rest_checks.only_right.Given as goal

abbrev pub invariant-loop-row : goal.invariant-loop-row
invariant-loop-row l = lent l.right.items ++ filter (is_right_row l.kind) (lent (drop l.row-index l.records)) ≡ filter (is_right_row l.kind) (lent l.records)

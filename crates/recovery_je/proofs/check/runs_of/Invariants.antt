use Rattle.std.proofs.Common.{◌≡◌, ◌++◌, drop, map}
use Rattle.recovery_je.specs.Checks.{run_by_len}
use Rattle.recovery_je.proofs.check.runs_of.Given as goal

abbrev pub invariant-loop-len : goal.invariant-loop-len
invariant-loop-len l = l.runs ++ map run_by_len (drop l.len-index l.lens) ≡ map run_by_len l.lens

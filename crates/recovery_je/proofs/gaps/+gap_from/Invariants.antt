use Rattle.std.proofs.Common.{length}
use Rattle.recovery_je.proofs.gaps.+gap_from.Given as goal

abbrev pub decreases-gap_from : goal.decreases-gap_from
decreases-gap_from l = length l.files.now

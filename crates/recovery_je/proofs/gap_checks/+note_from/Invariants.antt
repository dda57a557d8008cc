use Rattle.std.proofs.Common.{length}
use Rattle.recovery_je.proofs.gap_checks.+note_from.Given as goal

abbrev pub decreases-note_from : goal.decreases-note_from
decreases-note_from l = length l.files.now

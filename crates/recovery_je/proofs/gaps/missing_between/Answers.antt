use Rattle.std.proofs.Common.{rules}
use Rattle.recovery_je.proofs.gaps.missing_between.Goals as goal

pub returns-else-after-before : goal.returns-else-after-before
returns-else-after-before c = search rules

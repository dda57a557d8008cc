use Rattle.std.proofs.Common.{rules}
use Rattle.recovery_je.proofs.reading.corruption_of_prefix.Goals as goal

pub returns : goal.returns
returns c = search rules

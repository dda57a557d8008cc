use Rattle.std.proofs.Common.{rules}
use Rattle.lock_mode.proofs.rules.conflicts.Goals as goal

pub returns-in_default : goal.returns-in_default
returns-in_default c = search rules

use Rattle.std.proofs.Common.{rules}
use Rattle.log_buffer.proofs.log_pos.LogPos.placed.Goals as goal

pub returns-then-self-from-2 : goal.returns-then-self-from-2
returns-then-self-from-2 c = search rules

pub returns-else-self-from-2 : goal.returns-else-self-from-2
returns-else-self-from-2 c = search rules

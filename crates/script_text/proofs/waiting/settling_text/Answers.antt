use Rattle.std.proofs.Common.{rules}
use Rattle.script_text.proofs.waiting.settling_text.Goals as goal

pub returns-then-is_fault : goal.returns-then-is_fault
returns-then-is_fault c = search rules

use Rattle.std.proofs.Common.{rules}
use Rattle.je_program.proofs.run_result.end_cause.Goals as goal

pub returns-else-memory_ended-clause-journal : goal.returns-else-memory_ended-clause-journal
returns-else-memory_ended-clause-journal c = search rules

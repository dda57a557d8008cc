use Rattle.je_program.proofs.DumpLaws.{none_set}
use Rattle.je_program.proofs.resting.at_rest.Goals as goal

pub returns-clause-stopped : goal.returns-clause-stopped
returns-clause-stopped g c = λ session. none_set 256 session

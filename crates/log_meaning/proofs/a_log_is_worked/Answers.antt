use Rattle.log_meaning.proofs.Worked.{worked}
use Rattle.log_meaning.proofs.a_log_is_worked.Goals as goal

pub returns : goal.returns
returns c = worked

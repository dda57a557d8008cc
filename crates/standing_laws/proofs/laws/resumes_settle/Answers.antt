use Rattle.standing_laws.proofs.Settling.{resumes-settle}
use Rattle.standing_laws.proofs.laws.resumes_settle.Goals as goal

pub returns : goal.returns
returns c = resumes-settle

use Rattle.log_meaning.proofs.Ending.{ends_recover}
use Rattle.log_meaning.proofs.ends_recover.Goals as goal

pub returns : goal.returns
returns c = ends_recover

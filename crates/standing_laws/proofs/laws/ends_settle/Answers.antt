use Rattle.standing_laws.proofs.Settling.{ends-settle}
use Rattle.standing_laws.proofs.laws.ends_settle.Goals as goal

pub returns : goal.returns
returns c = ends-settle

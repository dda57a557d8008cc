use Rattle.standing_laws.proofs.StandingsStay.{untold_has-no_wait}
use Rattle.standing_laws.proofs.laws.untold_has_no_wait.Goals as goal

pub returns : goal.returns
returns c = untold_has-no_wait

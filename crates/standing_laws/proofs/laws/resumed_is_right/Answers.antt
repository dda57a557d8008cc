use Rattle.standing_laws.proofs.StandingsStay.{resumed_is-right}
use Rattle.standing_laws.proofs.laws.resumed_is_right.Goals as goal

pub returns : goal.returns
returns c = resumed_is-right

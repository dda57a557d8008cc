use Rattle.standing_laws.proofs.StandingsStay.{begun_is-right}
use Rattle.standing_laws.proofs.laws.begun_is_right.Goals as goal

pub returns : goal.returns
returns c = begun_is-right

use Rattle.standing_laws.proofs.StandingsStay.{standings_stay-right}
use Rattle.standing_laws.proofs.laws.standings_stay_right.Goals as goal

pub returns : goal.returns
returns c = standings_stay-right

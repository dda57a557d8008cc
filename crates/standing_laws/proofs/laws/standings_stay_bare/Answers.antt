use Rattle.standing_laws.proofs.StandingsBare.{standings_stay-bare}
use Rattle.standing_laws.proofs.laws.standings_stay_bare.Goals as goal

pub returns : goal.returns
returns c = standings_stay-bare

use Rattle.standing_laws.proofs.StandingsBare.{begun_is-bare}
use Rattle.standing_laws.proofs.laws.begun_is_bare.Goals as goal

pub returns : goal.returns
returns c = begun_is-bare

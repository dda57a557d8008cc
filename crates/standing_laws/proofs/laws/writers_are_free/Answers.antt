use Rattle.standing_laws.proofs.Writers.{writers-are_free}
use Rattle.standing_laws.proofs.laws.writers_are_free.Goals as goal

pub returns : goal.returns
returns c = writers-are_free

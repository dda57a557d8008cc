use Rattle.standing_laws.proofs.Writers.{unused-has_no_changes}
use Rattle.standing_laws.proofs.laws.unused_has_no_changes.Goals as goal

pub returns : goal.returns
returns c = unused-has_no_changes

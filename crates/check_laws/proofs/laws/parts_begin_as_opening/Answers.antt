use Rattle.check_laws.proofs.PartChecks.{parts_begin}
use Rattle.check_laws.proofs.laws.parts_begin_as_opening.Goals as goal

pub returns : goal.returns
returns c = parts_begin

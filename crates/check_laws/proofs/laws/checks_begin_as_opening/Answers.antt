use Rattle.check_laws.proofs.WholeChecks.{checks_begin}
use Rattle.check_laws.proofs.laws.checks_begin_as_opening.Goals as goal

pub returns : goal.returns
returns c = checks_begin

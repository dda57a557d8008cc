use Rattle.check_laws.proofs.TreeChecks.{roots_are_checked}
use Rattle.check_laws.proofs.laws.checks_begin_as_readings.Goals as goal

pub returns : goal.returns
returns c = roots_are_checked

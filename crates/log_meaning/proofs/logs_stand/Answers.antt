use Rattle.log_meaning.proofs.Standing.{stands_open, stands_fewer}
use Rattle.log_meaning.proofs.logs_stand.Goals as goal

pub returns : goal.returns
returns c = record { opened = stands_open; fewer = stands_fewer }

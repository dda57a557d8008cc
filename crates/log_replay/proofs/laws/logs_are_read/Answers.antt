use Rattle.log_replay.proofs.AgainLaws.{are_read_again}
use Rattle.log_replay.proofs.laws.logs_are_read.Goals as goal

pub returns : goal.returns
returns c = are_read_again

use Rattle.serial_replay.proofs.Attempts.{reached_is-indexed}
use Rattle.environment.proofs.environment.Environment.indexes_are_right.Goals as goal

pub returns : goal.returns
returns g c = λ most st here. reached_is-indexed st here.reached

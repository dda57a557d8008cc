use Rattle.serial_replay.proofs.Attempts.{beginnings_are-reached, reached_goes-on, reached_is-indexed}
use Rattle.serial_replay.proofs.laws.reached_stays.Goals as goal

pub returns-clause-begins : goal.returns-clause-begins
returns-clause-begins c = beginnings_are-reached

pub returns-clause-goes_on : goal.returns-clause-goes_on
returns-clause-goes_on c = reached_goes-on

pub returns-clause-indexed : goal.returns-clause-indexed
returns-clause-indexed c = reached_is-indexed

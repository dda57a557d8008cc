use Rattle.serial_replay.proofs.Attempts.{attempts_are-indexed, fronts_are-indexed}
use Rattle.serial_replay.proofs.laws.attempts_stay_indexed.Goals as goal

pub returns-clause-each : goal.returns-clause-each
returns-clause-each c = attempts_are-indexed

pub returns-clause-fronts : goal.returns-clause-fronts
returns-clause-fronts c = fronts_are-indexed

use Rattle.serial_replay.proofs.Replaying.{none_is-indexed}
use Rattle.serial_replay.proofs.laws.none_is_indexed.Goals as goal

pub returns : goal.returns
returns c = none_is-indexed

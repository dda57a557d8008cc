use Rattle.serial_replay.proofs.Replaying.{journals-replay}
use Rattle.serial_replay.proofs.laws.journals_replay.Goals as goal

pub returns : goal.returns
returns c = journals-replay

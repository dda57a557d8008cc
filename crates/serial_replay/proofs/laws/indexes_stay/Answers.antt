use Rattle.serial_replay.proofs.Replaying.{indexes-stay}
use Rattle.serial_replay.proofs.laws.indexes_stay.Goals as goal

pub returns : goal.returns
returns c = indexes-stay

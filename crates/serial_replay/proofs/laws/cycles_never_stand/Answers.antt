use Rattle.serial_replay.proofs.CycleEvents.{cycles_never-stand}
use Rattle.serial_replay.proofs.laws.cycles_never_stand.Goals as goal

pub returns : goal.returns
returns c = cycles_never-stand

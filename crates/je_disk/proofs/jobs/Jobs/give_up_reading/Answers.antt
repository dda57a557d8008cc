use Rattle.std.proofs.Common.{refl}
use Rattle.je_disk.proofs.jobs.Jobs.give_up_reading.Goals as goal

pub returns : goal.returns
returns c = refl

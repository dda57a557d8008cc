use Rattle.std.proofs.Common.{refl}
use Rattle.je_disk.proofs.jobs.Jobs.new.Goals as goal

pub returns : goal.returns
returns c = refl

use Rattle.std.proofs.Common.{refl}
use Rattle.log_buffer.proofs.reading.map_err.Goals as goal

pub returns-in-Failed-clause-fault : goal.returns-in-Failed-clause-fault
returns-in-Failed-clause-fault c = λ is. (refl, refl)

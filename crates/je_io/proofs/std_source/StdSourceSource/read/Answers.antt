use Rattle.std.proofs.Common.{arith}
use Rattle.je_io.proofs.SourceSinkSteps.{rose}
use Rattle.je_io.proofs.std_source.StdSourceSource.read.Goals as goal

pub returns-in-Err-clause-cause : goal.returns-in-Err-clause-cause
returns-in-Err-clause-cause g c = rose c.args.self.now.faults c.saturating_add-self.result (omega arith) c.saturating_add-self.ensures

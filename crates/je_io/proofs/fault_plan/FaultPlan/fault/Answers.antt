use Rattle.std.proofs.Common.{arith}
use Rattle.je_io.proofs.SourceSinkSteps.{rose}
use Rattle.je_io.proofs.fault_plan.FaultPlan.fault.Goals as goal

pub returns-clause-rose : goal.returns-clause-rose
returns-clause-rose c = rose c.args.self.now.faults c.saturating_add-self.result (omega arith) c.saturating_add-self.ensures

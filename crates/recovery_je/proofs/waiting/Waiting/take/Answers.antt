use Rattle.recovery_je.proofs.WaitingLaws.{waits_taken}
use Rattle.recovery_je.proofs.waiting.Waiting.take.Goals as goal

pub returns-clause-rest : goal.returns-clause-rest
returns-clause-rest c = rw (← c.self.view_is) (waits_taken c.args.txn c.self.inside.changes.entries _ c.remove.ensures.updates.0)

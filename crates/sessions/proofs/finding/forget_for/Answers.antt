use Rattle.sessions.proofs.Forgetting.{forgets}
use Rattle.sessions.proofs.finding.forget_for.Goals as goal

pub returns-in-Some : goal.returns-in-Some
returns-in-Some c = forgets c.args.wait.now c.in-Some.wait c.args.locks.now c.forget.new.self c.in-Some.is c.forget.ensures.locks c.forget.ensures.pending

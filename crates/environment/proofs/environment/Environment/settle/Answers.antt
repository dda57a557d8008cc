use Rattle.std.proofs.Common.{subst, sym}
use Rattle.sessions.specs.AtStanding.{AreSessionsAt}
use Rattle.sessions.specs.declared.all_sessions.Sessions.{Sessions}
use Rattle.environment.proofs.environment.Environment.settle.Goals as goal

pub returns-in-Ok-clause-done : goal.returns-in-Ok-clause-done
returns-in-Ok-clause-done g c = record {
  committed = c.in-Ok.ensures.done;
  sessions = λ st a session txn at. c.end.ensures.stands st a session txn (subst (λ (s : Sessions). AreSessionsAt s st) (sym c.commit_own.ensures.sessions) at);
}

use Rattle.script_run.proofs.GivenLaws.{all_in, all_past}
use Rattle.script_run.proofs.running.all_sessions.Goals as goal

pub returns-clause-each : goal.returns-clause-each
returns-clause-each c = λ session within. all_in 256 session c.args.stopped within

pub returns-clause-past : goal.returns-clause-past
returns-clause-past c = λ session past. all_past 256 session c.args.stopped past

use Rattle.script_run.proofs.Growing.{never_paused}
use Rattle.script_run.proofs.running.run.Goals as goal

pub returns-clause-given : goal.returns-clause-given
returns-clause-given g c = never_paused c.run_until.result c.args.lines.items c.run_until.ensures.given

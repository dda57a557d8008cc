use Rattle.script_text.proofs.PlanCalls.{scripted_if}
use Rattle.script_text.proofs.parsing.parse.Goals as goal

pub returns-clause-lines : goal.returns-clause-lines
returns-clause-lines c = scripted_if c.args.input.now c.plan_of.result c.plan_of.ensures

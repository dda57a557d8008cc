use Rattle.std.proofs.Common.{ap, sym, ◌∙◌}
use Rattle.je_answers.specs.Standing.{without_wait}
use Rattle.sessions.proofs.Waits.{no_wait, no_wait_rest, wait_taken, wait_rest}
use Rattle.sessions.proofs.finding.taken_out.Goals as goal

pub returns-in-None-clause-wait : goal.returns-in-None-clause-wait
returns-in-None-clause-wait c = no_wait c.args.session _ c.args.waiting.now.items c.as_slice.ensures.value (sym c.in-None.is ∙ c.place_of.ensures)

pub returns-in-None-clause-rest : goal.returns-in-None-clause-rest
returns-in-None-clause-rest c = no_wait_rest c.args.session _ c.args.waiting.now.items c.as_slice.ensures.value (sym c.in-None.is ∙ c.place_of.ensures)

pub returns-in-Some-clause-wait : goal.returns-in-Some-clause-wait
returns-in-Some-clause-wait c = wait_taken c.args.session _ c.args.waiting.now.items c.in-Some.at c.remove-wait.result c.as_slice.ensures.value (sym c.in-Some.is ∙ c.place_of.ensures) c.remove-wait.ensures.value

pub returns-in-Some-clause-rest : goal.returns-in-Some-clause-rest
returns-in-Some-clause-rest c = c.leave_out.ensures ∙ (ap (without_wait c.args.session) c.remove-wait.ensures.items ∙ wait_rest c.args.session _ c.args.waiting.now.items c.in-Some.at c.as_slice.ensures.value (sym c.in-Some.is ∙ c.place_of.ensures))

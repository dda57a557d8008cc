use Rattle.script_run.proofs.Ending.{stopped_then}
use Rattle.std.proofs.Common.{refl}
use Rattle.script_run.proofs.Growing.{grown_gained, grown_then}
use Rattle.script_run.proofs.running.Running.execute_step.Goals as goal

pub resume_ready-requires-clause-here : goal.resume_ready-requires-clause-here
resume_ready-requires-clause-here g c =
    let h = c.requires.here in
    (h.0, c.give_step.ensures.goes_on h.0 h.1 h.2)

pub returns-clause-goes_on : goal.returns-clause-goes_on
returns-clause-goes_on g c = λ p under calm. c.resume_ready.ensures.goes_on p (c.give_step.ensures.goes_on p under calm)

pub returns-clause-calm : goal.returns-clause-calm
returns-clause-calm g c = λ p under calm. c.resume_ready.ensures.calm p (c.give_step.ensures.goes_on p under calm)

pub returns-clause-given : goal.returns-clause-given
returns-clause-given g c = λ lines has. c.resume_ready.ensures.given _ (c.give_step.ensures.given lines has)

pub returns-clause-ends : goal.returns-clause-ends
returns-clause-ends g c = λ ends. stopped_then c.give_step.new.self c.resume_ready.new.self c.resume_ready.ensures.gone_on (c.give_step.ensures.ends ends)

pub returns-clause-grew : goal.returns-clause-grew
returns-clause-grew g c =
    let x = c.args.self.now.recorded.journal.items in
    let m = c.give_step.new.self.recorded.journal.items in
    let y = c.resume_ready.new.self in
    grown_then 1 0 1 x m y.recorded.journal.items refl c.give_step.ensures.grew (grown_gained y.stopped m y.recorded.journal.items c.resume_ready.ensures.gone_on.gained)

use Rattle.std.proofs.Common.{List, Bool, sym, subst, refl}
use Rattle.script_run.specs.declared.recorded.Recorded.{Recorded}
use Rattle.script_run.specs.Ends.{AreEndsStopped, HasGrown}
use Rattle.script_run.proofs.GivenLaws.{given_same, given_step, step_skipped}
use Rattle.script_run.proofs.Growing.{grown_same}
use Rattle.script_run.proofs.running.Running.give_step.Goals as goal

pub returns-then-self-clause-given : goal.returns-then-self-clause-given
returns-then-self-clause-given g c = λ lines has.
    let x = c.args.self.now in
    step_skipped x.recorded.journal.items x.memory_ended x.stopped x.steps_stopped lines c.args.line c.args.step has c.if-self.true

pub returns-in-Ok-clause-given : goal.returns-in-Ok-clause-given
returns-in-Ok-clause-given g c = λ lines has.
    let x = c.args.self.now in
    given_step x.recorded.journal.items c.maintain.new.self.journal.items x.memory_ended x.stopped x.steps_stopped lines c.args.line c.args.step has c.if-self.false c.in-Ok.ensures.line

pub returns-in-Err-clause-given : goal.returns-in-Err-clause-given
returns-in-Err-clause-given g c = λ lines has.
    let x = c.args.self.now in
    let s = c.stop_steps.new.self in
    step_skipped s.recorded.journal.items s.memory_ended s.stopped s.steps_stopped lines c.args.line c.args.step
    (c.stop_steps.ensures.given lines
    (given_same x.recorded.journal.items c.maintain.new.self.journal.items x.memory_ended x.stopped x.steps_stopped lines c.in-Err.ensures.err has)) c.stop_steps.ensures.stopped

pub returns-in-Ok-clause-ends : goal.returns-in-Ok-clause-ends
returns-in-Ok-clause-ends g c = λ ends. c.maintain.ensures.ends c.args.self.now.stopped ends

pub returns-in-Err-clause-ends : goal.returns-in-Err-clause-ends
returns-in-Err-clause-ends g c = λ ends.
    let x = c.args.self.now in
    let s = c.stop_steps.new.self in
    subst (λ (l : List Bool). AreEndsStopped l s.recorded.journal.items) (sym {A = List Bool} c.stop_steps.ensures.sessions)
    (subst (λ (r : Recorded g.row.D.Denot). AreEndsStopped x.stopped r.journal.items) (sym c.stop_steps.ensures.recorded) (c.maintain.ensures.ends x.stopped ends))

pub returns-then-self-clause-grew : goal.returns-then-self-clause-grew
returns-then-self-clause-grew g c = (let x = c.args.self.now.recorded.journal.items in grown_same 1 x x refl)

pub returns-in-Ok-clause-grew : goal.returns-in-Ok-clause-grew
returns-in-Ok-clause-grew g c = c.maintain.ensures.grew

pub returns-in-Err-clause-grew : goal.returns-in-Err-clause-grew
returns-in-Err-clause-grew g c =
    let x = c.args.self.now in
    subst (λ (r : Recorded g.row.D.Denot). HasGrown 1 x.recorded.journal.items r.journal.items) (sym c.stop_steps.ensures.recorded) c.maintain.ensures.grew

use Rattle.std.proofs.Common.{◌∙◌, ◌<◌, arith, ap, inl, refl, sym, subst}
use Rattle.script_run.specs.declared.recorded.Recorded.{Recorded}
use Rattle.script_run.specs.declared.running.Running.{Running}
use Rattle.script_run.specs.Events.Awaited.{Nothing}
use Rattle.script_run.specs.UnderWay.{IsUnderWay}
use Rattle.script_run.proofs.Ending.{ended_gone_on, ended_stopped, gone_on_from, gone_on_then, stopped_then}
use Rattle.script_run.proofs.GivenLaws.{given_line, given_same, given_skipped}
use Rattle.script_run.proofs.Resting.{not_halted}
use Rattle.script_run.proofs.Standings.{calm_same}
use Rattle.je_answers.specs.Journal.{lines_of}
use Rattle.script_run.proofs.Growing.{ended_grown, grown_from, grown_same, grown_then}
use Rattle.script_run.proofs.running.Running.give_line.Goals as goal

pub returns-then-self-session-clause-given : goal.returns-then-self-session-clause-given
returns-then-self-session-clause-given g c = λ lines has.
    let x = c.args.self.now in
    given_skipped x.recorded.journal.items x.memory_ended x.stopped x.steps_stopped lines c.args.session c.args.line c.args.call has c.if-self-session.true

pub execute-requires : goal.execute-requires
execute-requires g c =
    let h = c.requires.here in
    let within : c.args.session < 256 = omega arith in
    record { here = (h.0, h.1, h.2 (not_halted c.args.self.now c.args.session c.requires.flags within c.if-self-session.false)) }

pub end_session-requires-clause-here : goal.end_session-requires-clause-here
end_session-requires-clause-here g c =
    let h = c.requires.here in
    let within : c.args.session < 256 = omega arith in
    let calm = h.2 (not_halted c.args.self.now c.args.session c.requires.flags within c.if-self-session.false) in (
      h.0,
      subst (λ (r : Recorded g.row.D.Denot). IsUnderWay g.D.Disk.meaning h.0 Nothing r) (sym c.stop.ensures.recorded) (c.execute.ensures.goes_on h.0 h.1 calm),
    )

pub returns-in-Ok-clause-goes_on : goal.returns-in-Ok-clause-goes_on
returns-in-Ok-clause-goes_on g c = λ p under calm.
    let within : c.args.session < 256 = omega arith in
    c.execute.ensures.goes_on p under (calm (not_halted c.args.self.now c.args.session c.requires.flags within c.if-self-session.false))

pub returns-in-Ok-clause-given : goal.returns-in-Ok-clause-given
returns-in-Ok-clause-given g c = λ lines has.
    let x = c.args.self.now in
    given_line x.recorded.journal.items c.execute.new.self.journal.items x.memory_ended x.stopped x.steps_stopped lines c.args.session c.args.line c.args.call has c.if-self-session.false c.in-Ok.ensures.line

pub returns-in-Err-clause-goes_on : goal.returns-in-Err-clause-goes_on
returns-in-Err-clause-goes_on g c = λ p under was_calm.
    let x = c.args.self.now.recorded in
    let s = c.stop.new.self.recorded in
    let within : c.args.session < 256 = omega arith in
    let calm = was_calm (not_halted c.args.self.now c.args.session c.requires.flags within c.if-self-session.false) in
    let items = ap (λ (r : Recorded g.row.D.Denot). r.journal.items) c.stop.ensures.recorded ∙ c.in-Err.ensures.err in
    c.end_session.ensures.goes_on p
    (subst (λ (r : Recorded g.row.D.Denot). IsUnderWay g.D.Disk.meaning p Nothing r) (sym c.stop.ensures.recorded) (c.execute.ensures.goes_on p under calm))
    (inl (calm_same p x s items calm))

pub returns-in-Err-clause-given : goal.returns-in-Err-clause-given
returns-in-Err-clause-given g c = λ lines has.
    let x = c.args.self.now in
    let new = c.end_session.new.self in
    let failed = given_same x.recorded.journal.items c.execute.new.self.journal.items x.memory_ended x.stopped x.steps_stopped lines (ap lines_of c.in-Err.ensures.err) has in
    given_skipped new.recorded.journal.items new.memory_ended new.stopped new.steps_stopped lines c.args.session c.args.line c.args.call
    (c.end_session.ensures.given lines (c.stop.ensures.given lines failed)) (ended_stopped c.args.session c.stop.new.self new c.stop.ensures.stopped c.end_session.ensures.ended)

pub returns-in-Ok-clause-ends : goal.returns-in-Ok-clause-ends
returns-in-Ok-clause-ends g c = λ ends. c.execute.ensures.ends c.args.self.now.stopped c.if-self-session.false ends

pub returns-in-Err-clause-ends : goal.returns-in-Err-clause-ends
returns-in-Err-clause-ends g c = λ ends.
    let x = c.args.self.now in
    let s = c.stop.new.self in
    let y = c.end_session.new.self in
    let e : Running g.row.D.Denot = record { recorded = c.execute.new.self; memory_ended = x.memory_ended; stopped = x.stopped; steps_stopped = x.steps_stopped; halted = x.halted } in
    stopped_then x y (gone_on_from x e y c.in-Err.ensures.err refl refl (gone_on_then e s y c.stop.ensures.gone_on (ended_gone_on c.args.session s y c.stop.ensures.stopped c.end_session.ensures.ended))) ends

pub returns-then-self-session-clause-grew : goal.returns-then-self-session-clause-grew
returns-then-self-session-clause-grew g c = (let x = c.args.self.now.recorded.journal.items in grown_same 1 x x refl)

pub returns-in-Ok-clause-grew : goal.returns-in-Ok-clause-grew
returns-in-Ok-clause-grew g c = c.execute.ensures.grew

pub returns-in-Err-clause-grew : goal.returns-in-Err-clause-grew
returns-in-Err-clause-grew g c =
    let x = c.args.self.now.recorded.journal.items in
    let e = c.execute.new.self.journal.items in
    let s = c.stop.new.self in
    let y = c.end_session.new.self in
    grown_then 1 0 1 x e y.recorded.journal.items refl c.execute.ensures.grew
    (grown_from 0 e s.recorded.journal.items y.recorded.journal.items (ap (λ (r : Recorded g.row.D.Denot). r.journal.items) c.stop.ensures.recorded) (ended_grown c.args.session s y c.end_session.ensures.ended))

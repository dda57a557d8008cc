use Rattle.std.proofs.Common.{List, ◌∙◌, ap, refl, sym, subst}
use Rattle.store_model.specs.declared.event.Event.{Event}
use Rattle.je_answers.specs.Journal.{lines_of}
use Rattle.script_run.specs.declared.recorded.Recorded.{Recorded}
use Rattle.script_run.specs.declared.running.Running.{Running}
use Rattle.script_run.specs.Ends.{HasGained, IsStopped}
use Rattle.script_run.specs.Events.Awaited.{Nothing}
use Rattle.script_run.specs.UnderWay.{BeginsNone, HasSettled, IsUnderWay}
use Rattle.script_run.proofs.EndLaws.{gained_lines, gained_then}
use Rattle.script_run.proofs.Ending.{ended_gone_on, ended_none, ended_settles, gone_on_from, gone_on_then, none_same, none_then, not_failed, on_failed}
use Rattle.script_run.proofs.GivenLaws.{given_same}
use Rattle.script_run.proofs.Standings.{next_same, settled_same}
use Rattle.script_run.proofs.running.Running.go_on.Goals as goal

pub returns-then-is_err-clause-settles : goal.returns-then-is_err-clause-settles
returns-then-is_err-clause-settles g c = λ p under next halted.
    let x = c.args.self.now.recorded in
    let s = c.stop.new.self.recorded in
    let items = ap (λ (r : Recorded g.row.D.Denot). r.journal.items) c.stop.ensures.recorded ∙ c.make_room.ensures.items in
    settled_same p x s c.end_session.new.self.recorded items (ended_settles p c.args.session c.args.line c.stop.new.self c.end_session.new.self (next_same p c.args.session c.args.line x s items next) c.end_session.ensures.ended halted)

pub returns-then-is_err-2-clause-goes_on : goal.returns-then-is_err-2-clause-goes_on
returns-then-is_err-2-clause-goes_on g c = λ p under next.
    let x = c.args.self.now.recorded in
    let m = c.make_room.new.self in
    subst (λ (r : Recorded g.row.D.Denot). IsUnderWay g.D.Disk.meaning p Nothing r) (sym c.stop-then-is_err-2.ensures.recorded)
    (c.go_on.ensures.goes_on p (c.make_room.ensures.goes_on p under) (next_same p c.args.session c.args.line x m c.make_room.ensures.items next))

pub returns-then-is_err-2-clause-settles : goal.returns-then-is_err-2-clause-settles
returns-then-is_err-2-clause-settles g c = λ p under next halted.
    let x = c.args.self.now.recorded in
    let m = c.make_room.new.self in
    let items = c.make_room.ensures.items in
    subst (λ (r : Recorded g.row.D.Denot). HasSettled p x r) (sym c.stop-then-is_err-2.ensures.recorded)
    (settled_same p x m c.go_on.new.self items (c.go_on.ensures.settles p (c.make_room.ensures.goes_on p under) (next_same p c.args.session c.args.line x m items next)))

pub returns-then-is_err-2-clause-given : goal.returns-then-is_err-2-clause-given
returns-then-is_err-2-clause-given g c = λ lines has.
    let x = c.args.self.now in
    let stopped = c.stop-then-is_err-2.new.self.stopped in
    let gained = c.go_on.ensures.gained stopped (on_failed c.go_on.result (IsStopped stopped c.args.session) c.stop-then-is_err-2.ensures.stopped) in
    c.stop-then-is_err-2.ensures.given lines
    (given_same x.recorded.journal.items c.go_on.new.self.journal.items x.memory_ended x.stopped x.steps_stopped lines
    (gained_lines stopped c.make_room.new.self.journal.items c.go_on.new.self.journal.items gained ∙ ap lines_of c.make_room.ensures.items) has)

pub returns-else-is_err-2-clause-goes_on : goal.returns-else-is_err-2-clause-goes_on
returns-else-is_err-2-clause-goes_on g c = λ p under next.
    let x = c.args.self.now.recorded in
    let m = c.make_room.new.self in
    c.go_on.ensures.goes_on p (c.make_room.ensures.goes_on p under) (next_same p c.args.session c.args.line x m c.make_room.ensures.items next)

pub returns-else-is_err-2-clause-settles : goal.returns-else-is_err-2-clause-settles
returns-else-is_err-2-clause-settles g c = λ p under next halted.
    let x = c.args.self.now.recorded in
    let m = c.make_room.new.self in
    let items = c.make_room.ensures.items in
    settled_same p x m c.go_on.new.self items (c.go_on.ensures.settles p (c.make_room.ensures.goes_on p under) (next_same p c.args.session c.args.line x m items next))

pub returns-else-is_err-2-clause-given : goal.returns-else-is_err-2-clause-given
returns-else-is_err-2-clause-given g c = λ lines has.
    let x = c.args.self.now in
    given_same x.recorded.journal.items c.go_on.new.self.journal.items x.memory_ended x.stopped x.steps_stopped lines
    (gained_lines x.stopped c.make_room.new.self.journal.items c.go_on.new.self.journal.items (c.go_on.ensures.gained x.stopped (not_failed c.go_on.result (IsStopped x.stopped c.args.session) (sym c.is_err-2.ensures.value ∙ c.if-is_err-2.false))) ∙ ap lines_of c.make_room.ensures.items) has

pub returns-then-is_err-clause-begins_none : goal.returns-then-is_err-clause-begins_none
returns-then-is_err-clause-begins_none g c = λ p under next.
    let x = c.args.self.now.recorded in
    let s = c.stop.new.self in
    let items = ap (λ (r : Recorded g.row.D.Denot). r.journal.items) c.stop.ensures.recorded ∙ c.make_room.ensures.items in
    none_then p x s.recorded c.end_session.new.self.recorded (none_same p x s.recorded items) (ended_none p c.args.session s c.end_session.new.self c.end_session.ensures.ended)

pub returns-then-is_err-clause-gone_on : goal.returns-then-is_err-clause-gone_on
returns-then-is_err-clause-gone_on g c =
    let x = c.args.self.now in
    let s = c.stop.new.self in
    let y = c.end_session.new.self in
    let m : Running g.row.D.Denot = record { recorded = c.make_room.new.self; memory_ended = x.memory_ended; stopped = x.stopped; steps_stopped = x.steps_stopped; halted = x.halted } in
    gone_on_from x m y c.make_room.ensures.items refl refl (gone_on_then m s y c.stop.ensures.gone_on (ended_gone_on c.args.session s y c.stop.ensures.stopped c.end_session.ensures.ended))

pub returns-then-is_err-2-clause-begins_none : goal.returns-then-is_err-2-clause-begins_none
returns-then-is_err-2-clause-begins_none g c = λ p under next.
    let x = c.args.self.now.recorded in
    let m = c.make_room.new.self in
    subst (λ (r : Recorded g.row.D.Denot). BeginsNone p x r) (sym c.stop-then-is_err-2.ensures.recorded)
    (none_then p x m c.go_on.new.self (none_same p x m c.make_room.ensures.items)
    (c.go_on.ensures.begins_none p (c.make_room.ensures.goes_on p under) (next_same p c.args.session c.args.line x m c.make_room.ensures.items next)))

pub returns-then-is_err-2-clause-gone_on : goal.returns-then-is_err-2-clause-gone_on
returns-then-is_err-2-clause-gone_on g c =
    let x = c.args.self.now in
    let y = c.stop-then-is_err-2.new.self in
    let stop = c.stop-then-is_err-2.ensures in
    record {
      stopped = stop.gone_on.stopped;
      halted = stop.gone_on.halted;
      gained = subst (λ (l : List Event). HasGained y.stopped l y.recorded.journal.items) c.make_room.ensures.items
          (gained_then y.stopped c.make_room.new.self.journal.items c.go_on.new.self.journal.items y.recorded.journal.items (c.go_on.ensures.gained y.stopped (on_failed c.go_on.result (IsStopped y.stopped c.args.session) stop.stopped)) stop.gone_on.gained);
    }

pub returns-else-is_err-2-clause-begins_none : goal.returns-else-is_err-2-clause-begins_none
returns-else-is_err-2-clause-begins_none g c = λ p under next.
    let x = c.args.self.now.recorded in
    let m = c.make_room.new.self in
    none_then p x m c.go_on.new.self (none_same p x m c.make_room.ensures.items)
    (c.go_on.ensures.begins_none p (c.make_room.ensures.goes_on p under) (next_same p c.args.session c.args.line x m c.make_room.ensures.items next))

pub returns-else-is_err-2-clause-gone_on : goal.returns-else-is_err-2-clause-gone_on
returns-else-is_err-2-clause-gone_on g c =
    let x = c.args.self.now in
    record {
      stopped = λ s was. was;
      halted = λ works. works;
      gained = subst (λ (l : List Event). HasGained x.stopped l c.go_on.new.self.journal.items) c.make_room.ensures.items (c.go_on.ensures.gained x.stopped (not_failed c.go_on.result (IsStopped x.stopped c.args.session) (sym c.is_err-2.ensures.value ∙ c.if-is_err-2.false)));
    }

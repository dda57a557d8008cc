use Rattle.std.proofs.Common.{List, [], ◌∷◌, ◌++◌, ◌≡◌, ◌∙◌, ap, sym, subst, refl}
use Rattle.store_model.specs.declared.event.Event.{Event}
use Rattle.store_model.specs.declared.plan.ScriptLine.{ScriptLine}
use Rattle.store_model.specs.declared.plan.ScriptLine.TheVariants.{Maintenance}
use Rattle.je_answers.specs.Journal.{lines_of}
use Rattle.script_run.specs.Ends.{AreEndsStopped}
use Rattle.script_run.proofs.EndLaws.{gained_lines, stopped_gained}
use Rattle.script_run.proofs.Ending.{err_then, ok_then}
use Rattle.script_run.proofs.Standings.{calm_same}
use Rattle.script_run.proofs.Growing.{grown_from, grown_gained, grown_same, grown_then}
use Rattle.script_run.proofs.recorded.Recorded.maintain.Goals as goal

pub returns-clause-goes_on : goal.returns-clause-goes_on
returns-clause-goes_on g c = λ p under calm.
    let m = c.make_room.new.self in
    let room = c.make_room.ensures.goes_on p under in
    let calm_now = calm_same p c.args.self.now m c.make_room.ensures.items calm in
    c.turn.ensures.goes_on p (c.sync_for.ensures.goes_on p room calm_now) (c.sync_for.ensures.may p room calm_now)

pub returns-clause-line : goal.returns-clause-line
returns-clause-line g c =
    let x = c.args.self.now in
    let m = c.make_room.new.self in
    let s = c.sync_for.new.self in
    let y = c.turn.new.self in
    let given : List ScriptLine = Maintenance c.args.line c.args.step ∷ [] in
    ok_then c.turn.result (lines_of y.journal.items ≡ lines_of s.journal.items ++ given) (lines_of y.journal.items ≡ lines_of x.journal.items ++ given)
    (λ is. is ∙ ap (λ (l : List ScriptLine). l ++ given) (gained_lines [] m.journal.items s.journal.items (c.sync_for.ensures.gained []) ∙ ap lines_of c.make_room.ensures.items))
    c.turn.ensures.line

pub returns-clause-err : goal.returns-clause-err
returns-clause-err g c =
    let x = c.args.self.now in
    let m = c.make_room.new.self in
    let s = c.sync_for.new.self in
    let y = c.turn.new.self in
    err_then c.turn.result (y.journal.items ≡ s.journal.items) (lines_of y.journal.items ≡ lines_of x.journal.items)
    (λ is. ap lines_of is ∙ gained_lines [] m.journal.items s.journal.items (c.sync_for.ensures.gained []) ∙ ap lines_of c.make_room.ensures.items)
    c.turn.ensures.err

pub returns-clause-ends : goal.returns-clause-ends
returns-clause-ends g c = λ stopped ends.
    let m = c.make_room.new.self in
    let s = c.sync_for.new.self in
    c.turn.ensures.ends stopped
    (stopped_gained stopped stopped m.journal.items s.journal.items (λ t was. was) (c.sync_for.ensures.gained stopped)
    (subst (λ (l : List Event). AreEndsStopped stopped l) (sym {A = List Event} c.make_room.ensures.items) ends))

pub returns-clause-grew : goal.returns-clause-grew
returns-clause-grew g c =
    let x = c.args.self.now.journal.items in
    let m = c.make_room.new.self.journal.items in
    let s = c.sync_for.new.self.journal.items in
    let y = c.turn.new.self.journal.items in
    grown_from 1 x m y c.make_room.ensures.items (grown_then 0 1 1 m s y refl (grown_gained [] m s (c.sync_for.ensures.gained [])) c.turn.ensures.grew)

pub returns-in_err-make_room-clause-grew : goal.returns-in_err-make_room-clause-grew
returns-in_err-make_room-clause-grew g c = grown_same 1 c.args.self.now.journal.items c.make_room.new.self.journal.items c.make_room.ensures.items

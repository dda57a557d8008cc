use Rattle.std.proofs.Common.{List, [], ◌∷◌, ◌++◌, ◌∙◌, ap, sym, subst, refl}
use Rattle.store_model.specs.declared.event.Event.{Event}
use Rattle.store_model.specs.declared.plan.ScriptLine.TheVariants.{Session}
use Rattle.je_answers.specs.Journal.{lines_of}
use Rattle.script_run.specs.Ends.{AreEndsStopped}
use Rattle.script_run.proofs.EndLaws.{gained_lines, stopped_gained}
use Rattle.script_run.proofs.Standings.{calm_same}
use Rattle.script_run.proofs.Growing.{grown_from, grown_gained, grown_same, grown_then}
use Rattle.script_run.proofs.recorded.Recorded.execute.Goals as goal

pub returns-clause-goes_on : goal.returns-clause-goes_on
returns-clause-goes_on g c = λ p under calm.
    c.follow.ensures.goes_on p (c.in_ok-awaited.ensures.goes_on p (c.make_room.ensures.goes_on p under) (calm_same p c.args.self.now c.make_room.new.self c.make_room.ensures.items calm))

pub returns-clause-line : goal.returns-clause-line
returns-clause-line g c =
    gained_lines [] c.step.new.self.journal.items c.follow.new.self.journal.items (c.follow.ensures.gained []) ∙ c.in_ok-awaited.ensures.line
    ∙ ap (λ (l : List Event). lines_of l ++ Session c.args.session c.args.line c.args.call ∷ []) c.make_room.ensures.items

pub returns-clause-ends : goal.returns-clause-ends
returns-clause-ends g c = λ stopped running ends.
    stopped_gained stopped stopped c.step.new.self.journal.items c.follow.new.self.journal.items (λ s was. was) (c.follow.ensures.gained stopped)
    (c.in_ok-awaited.ensures.ends stopped running (subst (λ (l : List Event). AreEndsStopped stopped l) (sym {A = List Event} c.make_room.ensures.items) ends))

pub returns-clause-grew : goal.returns-clause-grew
returns-clause-grew g c =
    let x = c.args.self.now.journal.items in
    let m = c.make_room.new.self.journal.items in
    let s = c.step.new.self.journal.items in
    let y = c.follow.new.self.journal.items in
    grown_from 1 x m y c.make_room.ensures.items (grown_then 1 0 1 m s y refl c.step.ensures.grew (grown_gained [] s y (c.follow.ensures.gained [])))

pub returns-then-is_err-clause-grew : goal.returns-then-is_err-clause-grew
returns-then-is_err-clause-grew g c = grown_same 1 c.args.self.now.journal.items c.make_room.new.self.journal.items c.make_room.ensures.items

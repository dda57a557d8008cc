use Rattle.script_run.proofs.GivenLaws.{given_same}
use Rattle.script_run.proofs.EndLaws.{ended_lines}
use Rattle.script_run.proofs.Standings.{may_end_same}
use Rattle.std.proofs.Common.{List, [], ◌∷◌, ◌++◌, ◌∙◌, ap, inl, refl}
use Rattle.store_model.specs.declared.event.Event.{Event}
use Rattle.store_model.specs.declared.event.Event.TheVariants.{End}
use Rattle.je_answers.specs.Journal.{lines_of}
use Rattle.script_run.proofs.running.Running.end_session.Goals as goal

pub returns-else-is_err-clause-goes_on : goal.returns-else-is_err-clause-goes_on
returns-else-is_err-clause-goes_on g c = λ p under may.
    let m = c.make_room.new.self in
    c.end_session.ensures.goes_on p (c.make_room.ensures.goes_on p under) (may_end_same p c.args.session c.args.self.now.recorded m c.make_room.ensures.items may)

pub returns-else-is_err-clause-ended : goal.returns-else-is_err-clause-ended
returns-else-is_err-clause-ended g c = inl (record {
  stopped = refl;
  halted = refl;
  ended = c.end_session.ensures.ended ∙ ap (λ (l : List Event). l ++ End c.args.session ∷ []) c.make_room.ensures.items;
})

pub returns-else-is_err-clause-given : goal.returns-else-is_err-clause-given
returns-else-is_err-clause-given g c = λ lines has.
    let x = c.args.self.now in
    given_same x.recorded.journal.items c.end_session.new.self.journal.items x.memory_ended x.stopped x.steps_stopped lines
    (ended_lines c.make_room.new.self.journal.items c.end_session.new.self.journal.items c.args.session c.end_session.ensures.ended ∙ ap lines_of c.make_room.ensures.items) has

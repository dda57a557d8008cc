use Rattle.je_answers.specs.After.{after_events}
use Rattle.environment.proofs.TurningLaws.{guarded_turn, turn_near, turns_to}
use Rattle.environment.proofs.TurningSteps.{fault_none, invalid_safely, take_turned}
use Rattle.environment.proofs.environment.Environment.turn.Goals as goal

pub returns-in-Some-clause-crash : goal.returns-in-Some-clause-crash
returns-in-Some-clause-crash g c = λ observed most st start journal line here is.
    invalid_safely g.D.Disk.meaning c.args.self.now c.in-Some.first most st start journal line c.args.step is

pub returns-clause-goes_on : goal.returns-clause-goes_on
returns-clause-goes_on g c = λ most st line here.
    turns_to g.D.Disk.meaning most c.args.self.now c.take_step.new.self st line c.args.step c.take_step.result
    (take_turned g.D.Disk.meaning c.args.self.now c.take_step.new.self c.args.step c.take_step.result c.take_step.ensures.stays c.in_default.is c.take_step.ensures.steps most st line here)

pub returns-clause-grows : goal.returns-clause-grows
returns-clause-grows g c = λ most st line here.
    turn_near g.D.Disk.meaning most c.args.self.now c.take_step.new.self st line c.args.step c.take_step.result
    (take_turned g.D.Disk.meaning c.args.self.now c.take_step.new.self c.args.step c.take_step.result c.take_step.ensures.stays c.in_default.is c.take_step.ensures.steps most st line here)

pub returns-clause-crash : goal.returns-clause-crash
returns-clause-crash g c = λ observed most st start journal line here is.
    guarded_turn g.D.Disk.meaning most c.args.self.now c.take_step.new.self st start journal line c.args.step c.take_step.result observed (fault_none g.D.Disk.meaning c.args.self.now c.in_default.is most (after_events st journal) here)
    (take_turned g.D.Disk.meaning c.args.self.now c.take_step.new.self c.args.step c.take_step.result c.take_step.ensures.stays c.in_default.is c.take_step.ensures.steps most (after_events st journal) line here) is

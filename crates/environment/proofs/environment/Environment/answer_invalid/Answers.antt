use Rattle.environment.proofs.InvalidLaws.{answers_invalid}
use Rattle.environment.proofs.environment.Environment.answer_invalid.Goals as goal

pub returns-clause-answers : goal.returns-clause-answers
returns-clause-answers g c =
    answers_invalid g.D.Disk.meaning c.args.self.now c.args.session c.args.line c.args.call.now c.args.first c.requires.fault c.told.result c.told.ensures.answer c.told.ensures.victims

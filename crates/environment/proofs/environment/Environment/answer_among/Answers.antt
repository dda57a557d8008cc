use Rattle.environment.proofs.Answering.{answers_call}
use Rattle.environment.proofs.environment.Environment.answer_among.Goals as goal

pub returns-clause-answers : goal.returns-clause-answers
returns-clause-answers g c =
    answers_call g.D.Disk.meaning c.args.self.now c.call_among.new.self c.args.session c.args.line c.args.call.now
    c.requires.valid c.call_among.result c.call_among.ensures.comes (λ _. c.call_among.ensures.near)

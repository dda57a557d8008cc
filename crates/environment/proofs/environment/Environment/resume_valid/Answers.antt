use Rattle.std.proofs.Common.{◌∙◌, sym}
use Rattle.je_answers.specs.Events.{resumed}
use Rattle.environment.specs.Resuming.{GoesAgain, MayGoOn}
use Rattle.environment.specs.Steps.{StandsAt}
use Rattle.environment.proofs.ResumeLaws.{for_wait, mid as mid_, near_of, resumes_call, resumes_of}
use Rattle.environment.proofs.environment.Environment.resume_valid.Goals as goal

pub again-requires-clause-here : goal.again-requires-clause-here
again-requires-clause-here g c =
    let st = c.requires.here.1 in
    let here = c.requires.here.3 in
    let m = c.requires.here.4 in
    resumes_of g.D.Disk.meaning c.args.self.now c.args.self.now c.forget.new.self c.args.session c.requires.valid c.forget.ensures.stands c.requires.here.0 st c.requires.here.2 here m c.in-Some.wait
    (sym c.in-Some.is ∙ c.forget.ensures.wait st here.at.sessions_at)

pub returns-clause-resumes : goal.returns-clause-resumes
returns-clause-resumes g c =
    resumes_call g.D.Disk.meaning c.args.self.now c.again.new.self c.forget.new.self c.args.session c.requires.valid c.forget.ensures.stands c.again.result
    (λ most st w at mid may.
    for_wait
    (λ x. StandsAt most g.D.Disk.meaning (mid_ c.args.self.now c.forget.new.self) (resumed st x) → MayGoOn st c.args.session x →
    GoesAgain g.D.Disk.meaning most (mid_ c.args.self.now c.forget.new.self) c.again.new.self st x c.args.session c.again.result)
    c.in-Some.wait w (sym c.in-Some.is ∙ c.forget.ensures.wait st at ∙ may.its) (λ stands going. c.again.ensures.again most st stands going) mid may)
    (near_of g.D.Disk.meaning c.args.self.now c.again.new.self c.forget.new.self c.args.session c.requires.valid c.forget.ensures.stands c.requires.here.0
    c.requires.here.1 c.requires.here.2 c.requires.here.3 c.requires.here.4)
    c.again.ensures.near

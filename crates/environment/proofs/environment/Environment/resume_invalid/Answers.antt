use Rattle.environment.proofs.ResumeLaws.{resumes_invalid}
use Rattle.environment.proofs.environment.Environment.resume_invalid.Goals as goal

pub returns-clause-resumes : goal.returns-clause-resumes
returns-clause-resumes g c =
    resumes_invalid g.D.Disk.meaning c.args.self.now c.forget-wait.new.self c.args.session c.args.first c.requires.fault c.forget-wait.ensures.stands c.told.result c.told.ensures.answer c.told.ensures.victims

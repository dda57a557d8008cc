use Rattle.std.proofs.Common.{◌∙◌}
use Rattle.environment.proofs.OwnEnds.{cause_by, ends}
use Rattle.environment.proofs.environment.Environment.write_own.Goals as goal

pub returns-in-Ok-clause-comes : goal.returns-in-Ok-clause-comes
returns-in-Ok-clause-comes g c before most session line st a asked t up moves is level auto =
    ends g.D.Disk.meaning before c.args.self.now most session st a asked t c.args.answer c.args.changes.items up c.write_up.new.self line c.in-Ok.wrote c.told.result
    c.requires.some auto (c.in-Ok.ensures.comes before most session st a asked t c.args.answer up moves is level) (c.told.ensures.answer ∙ c.answer_by.ensures) c.told.ensures.victims

pub returns-in-Ok-clause-cause : goal.returns-in-Ok-clause-cause
returns-in-Ok-clause-cause g c =
    let r = c.requires.taken in
    cause_by g.D.Disk.meaning r.0 c.args.self.now r.1 r.2 r.3 r.4 r.5 r.6 c.args.answer c.args.changes.items r.7 c.in-Ok.wrote c.told.result
    (g.D.Disk.meaning.faults _) (g.D.Disk.meaning.faults _) (c.told.ensures.answer ∙ c.answer_by.ensures) c.write_up.ensures.never_falls c.in-Ok.ensures.rose

pub returns-in-Err-clause-comes : goal.returns-in-Err-clause-comes
returns-in-Err-clause-comes g c before most session line st a asked t up moves is level auto = c.in-Err.ensures.comes before most session st a asked t c.args.answer up moves is level

pub write_up-requires-clause-taken : goal.write_up-requires-clause-taken
write_up-requires-clause-taken g c =
    let r = c.requires.taken in
    (r.0, r.1, r.2, r.3, r.4, r.5, r.6, c.args.answer, r.7, r.8, r.9)

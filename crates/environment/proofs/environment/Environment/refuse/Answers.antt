use Rattle.std.proofs.Common.{◌∙◌, sym}
use Rattle.environment.proofs.RefusedLaws.{refused_late}
use Rattle.environment.proofs.environment.Environment.refuse.Goals as goal

pub returns-clause-comes : goal.returns-clause-comes
returns-clause-comes g c = λ most st at sound late calm.
    refused_late g.D.Disk.meaning most c.args.self.now c.draw.new.self st c.args.session c.args.line c.args.call.now c.args.answer c.told.result
    (c.draw.ensures.here most st at) (sym at.fault ∙ c.requires.valid) c.draw.ensures.log c.draw.ensures.near late calm c.told.ensures.answer c.told.ensures.victims

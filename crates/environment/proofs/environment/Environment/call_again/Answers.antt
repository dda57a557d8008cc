use Rattle.std.proofs.Common.{◌∙◌, sym}
use Rattle.environment.specs.Steps.{HasCalled}
use Rattle.environment.proofs.EarlyLaws.{not_refused, refused_early, told_so}
use Rattle.environment.proofs.environment.Environment.call_again.Goals as goal

pub returns-in-Some-clause-comes : goal.returns-in-Some-clause-comes
returns-in-Some-clause-comes g c = λ most st at sound may.
    let none = sym at.fault ∙ c.requires.valid in
    told_so (λ answer victims. HasCalled g.D.Disk.meaning most c.args.self.now c.args.self.now st c.args.session c.args.line c.args.call.now answer victims)
    c.told.result c.in-Some.refusal c.told.ensures.answer c.told.ensures.victims
    (refused_early g.D.Disk.meaning most c.args.self.now st c.args.session c.args.line c.args.call.now c.in-Some.refusal at none
    (sym (c.in_ok-refusal.ensures st at.sessions_at (sym none)) ∙ c.in-Some.is))

pub perform-requires-clause-here : goal.perform-requires-clause-here
perform-requires-clause-here g c =
    let most = c.requires.here.0 in
    let st = c.requires.here.1 in
    let at = c.requires.here.2 in
    let none = sym at.fault ∙ c.requires.valid in
    let early = sym (c.in_ok-refusal.ensures st at.sessions_at (sym none)) ∙ c.in_default.is in
    (most, st, at, c.requires.here.3, early, c.requires.here.4)

pub returns-clause-comes : goal.returns-clause-comes
returns-clause-comes g c = λ most st at sound may.
    let none = sym at.fault ∙ c.requires.valid in
    let early = sym (c.in_ok-refusal.ensures st at.sessions_at (sym none)) ∙ c.in_default.is in
    not_refused g.D.Disk.meaning most c.args.self.now c.perform.new.self st c.args.session c.args.line c.args.call.now c.perform.result early
    (c.perform.ensures.comes most st at sound early may)

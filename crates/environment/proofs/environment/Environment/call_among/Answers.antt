use Rattle.std.proofs.Common.{◌∙◌, sym}
use Rattle.environment.specs.Steps.{HasCalled}
use Rattle.environment.proofs.EarlyLaws.{may_call, not_refused, refused_early, told_so}
use Rattle.environment.proofs.environment.Environment.call_among.Goals as goal

pub returns-in-Some-clause-comes : goal.returns-in-Some-clause-comes
returns-in-Some-clause-comes g c = λ most st here.
    let none = sym here.at.fault ∙ c.requires.valid in
    told_so (λ answer victims. HasCalled g.D.Disk.meaning most c.args.self.now c.args.self.now st c.args.session c.args.line c.args.call.now answer victims)
    c.told.result c.in-Some.refusal c.told.ensures.answer c.told.ensures.victims
    (refused_early g.D.Disk.meaning most c.args.self.now st c.args.session c.args.line c.args.call.now c.in-Some.refusal here.at none
    (sym (c.in_ok-refusal.ensures st here.at.sessions_at (sym none)) ∙ c.in-Some.is))

pub perform-requires-clause-here : goal.perform-requires-clause-here
perform-requires-clause-here g c =
    let most = c.requires.here.0 in
    let st = c.requires.here.1 in
    let here = c.requires.here.2 in
    let none = sym here.at.fault ∙ c.requires.valid in
    let early = sym (c.in_ok-refusal.ensures st here.at.sessions_at (sym none)) ∙ c.in_default.is in
    (most, st, here.at, (here.right none).sound, early, may_call st c.args.session c.args.call.now (here.right none) (here.bare none) early)

pub returns-clause-comes : goal.returns-clause-comes
returns-clause-comes g c = λ most st here.
    let none = sym here.at.fault ∙ c.requires.valid in
    let early = sym (c.in_ok-refusal.ensures st here.at.sessions_at (sym none)) ∙ c.in_default.is in
    not_refused g.D.Disk.meaning most c.args.self.now c.perform.new.self st c.args.session c.args.line c.args.call.now c.perform.result early
    (c.perform.ensures.comes most st here.at (here.right none).sound early (may_call st c.args.session c.args.call.now (here.right none) (here.bare none) early))

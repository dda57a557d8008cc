use Rattle.je_answers.specs.Events.{resumed}
use Rattle.environment.proofs.ResumeLaws.{gone_again, may_again, sound_again}
use Rattle.environment.proofs.environment.Environment.again.Goals as goal

pub call_again-result-requires-clause-here : goal.call_again-result-requires-clause-here
call_again-result-requires-clause-here g c =
    let st = c.requires.here.1 in
    let may = c.requires.here.3 in
    (c.requires.here.0, resumed st c.args.wait, c.requires.here.2, sound_again st c.args.session c.args.wait may, may_again st c.args.session c.args.wait may)

pub returns-in-Ok-clause-again : goal.returns-in-Ok-clause-again
returns-in-Ok-clause-again g c = λ most st at may. c.in-Ok.ensures.comes most (resumed st c.args.wait) at (sound_again st c.args.session c.args.wait may) (may_again st c.args.session c.args.wait may)

pub returns-in-Err-clause-again : goal.returns-in-Err-clause-again
returns-in-Err-clause-again g c = λ most st at may.
    gone_again g.D.Disk.meaning most c.args.self.now c.call_again-result.new.self c.leave.new.self st c.args.session c.args.wait may
    (c.in-Err.ensures.comes most (resumed st c.args.wait) at (sound_again st c.args.session c.args.wait may) (may_again st c.args.session c.args.wait may))
    c.leave.ensures.stands c.leave.ensures.log c.leave.ensures.near

pub returns-in-Err-clause-near : goal.returns-in-Err-clause-near
returns-in-Err-clause-near g c =
    let most = c.requires.here.0 in
    let st = c.requires.here.1 in
    let may = c.requires.here.3 in
    (gone_again g.D.Disk.meaning most c.args.self.now c.call_again-result.new.self c.leave.new.self st c.args.session c.args.wait may
    (c.in-Err.ensures.comes most (resumed st c.args.wait) c.requires.here.2 (sound_again st c.args.session c.args.wait may) (may_again st c.args.session c.args.wait may))
    c.leave.ensures.stands c.leave.ensures.log c.leave.ensures.near).near

use Rattle.std.proofs.Common.{◌∙◌, ap, sym, subst}
use Rattle.environment.specs.declared.to_open.ToOpen.{ToOpen}
use Rattle.environment.specs.Cursors.{IsToOpen}
use Rattle.environment.proofs.CursorLaws.{calm_step, opened_comes, refusal_comes, not_opened}
use Rattle.environment.proofs.environment.Environment.open_unless.Goals as goal

pub returns-in-Refused-clause-comes : goal.returns-in-Refused-clause-comes
returns-in-Refused-clause-comes g c = λ call most st line at to_open.
    let is = subst (λ (t : ToOpen). IsToOpen st c.args.session call t) c.in-Refused.is to_open in
    refusal_comes g.D.Disk.meaning most c.args.self.now c.draw.new.self st c.args.session line call c.in-Refused.refusal
    (c.draw.ensures.here most st at) (sym at.fault ∙ c.requires.valid) c.draw.ensures.log c.draw.ensures.near is.0 is.1

pub returns-in-Refused-clause-cause : goal.returns-in-Refused-clause-cause
returns-in-Refused-clause-cause g c =
    let is = subst (λ (t : ToOpen). IsToOpen c.requires.here.2 c.args.session c.requires.here.0 t) c.in-Refused.is c.requires.here.4 in
    calm_step _ _ c.in-Refused.refusal is.1 (ap (λ (d : g.row.D.Denot). g.D.Disk.meaning.faults d) c.draw.ensures.disk)

pub returns-in-Ok-clause-comes : goal.returns-in-Ok-clause-comes
returns-in-Ok-clause-comes g c = λ call most st line at to_open.
    let is = subst (λ (t : ToOpen). IsToOpen st c.args.session call t) c.in-Opens.is to_open in
    opened_comes g.D.Disk.meaning most c.args.self.now c.open_cursor.new.self st c.args.session line call c.in-Opens.opened
    is (c.in-Ok.ensures.stands st at.sessions_at) (sym at.fault ∙ c.requires.valid) at

pub returns-in-Err-clause-comes : goal.returns-in-Err-clause-comes
returns-in-Err-clause-comes g c = λ call most st line at to_open.
    not_opened g.D.Disk.meaning most c.args.self.now c.open_cursor.new.self st (c.in-Err.ensures.err st at.sessions_at) at

pub returns-in-Err-clause-near : goal.returns-in-Err-clause-near
returns-in-Err-clause-near g c =
    let st = c.requires.here.2 in
    let at = c.requires.here.3 in
    (not_opened g.D.Disk.meaning c.requires.here.1 c.args.self.now c.open_cursor.new.self st (c.in-Err.ensures.err st at.sessions_at) at).near

use Rattle.std.proofs.Common.{◌∙◌, ap, sym}
use Rattle.environment.proofs.CursorLaws.{close_performs, refusal_performs, some_told}
use Rattle.engine.proofs.CalmAnswers.{IsCalm}
use Rattle.environment.proofs.environment.Environment.close_cursor.Goals as goal

pub returns-in-Some : goal.returns-in-Some
returns-in-Some g c = record {
  performs = refusal_performs g.D.Disk.meaning c.args.self.now c.draw.new.self c.args.session _ c.in-Some.refusal
      (some_told IsCalm c.close_refusal.result c.in-Some.refusal c.in-Some.is c.close_refusal.ensures.calm) (λ most st at. sym (c.close_refusal.ensures.late most st at) ∙ c.in-Some.is) c.requires.valid
      c.draw.ensures.here c.draw.ensures.log c.draw.ensures.near c.draw.ensures.bounds (ap (λ (d : g.row.D.Denot). g.D.Disk.meaning.faults d) c.draw.ensures.disk);
}

pub returns : goal.returns
returns g c = record {
  performs = close_performs g.D.Disk.meaning c.args.self.now c.close_cursor.new.self c.args.session c.args.cursor (λ most st at. sym (c.close_refusal.ensures.late most st at) ∙ c.in_default.is)
      c.requires.valid c.close_cursor.ensures.stands c.requires.bounds;
}

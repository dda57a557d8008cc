use Rattle.std.proofs.Common.{◌∙◌, sym}
use Rattle.store_model.specs.Store.{names_of}
use Rattle.environment.proofs.ListLaws.{inside_performs, never_names, not_listed_performs}
use Rattle.environment.proofs.environment.Environment.list_inside.Goals as goal

pub returns-in-Ok : goal.returns-in-Ok
returns-in-Ok g c = record {
  performs = inside_performs g.D.Disk.meaning c.args.self.now c.args.session c.in-Ok.answer c.requires.inside c.requires.valid c.requires.bounds
      c.in-Ok.ensures (λ is. never_names (names_of c.requires.here.1.store) (sym (c.in-Ok.ensures c.requires.here.0 c.requires.here.1 c.requires.here.2) ∙ is));
}

pub returns-in-Err : goal.returns-in-Err
returns-in-Err g c = record {
  performs = not_listed_performs g.D.Disk.meaning c.args.self.now c.args.session c.in-Err.error c.requires.bounds;
}

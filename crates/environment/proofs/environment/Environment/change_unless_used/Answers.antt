use Rattle.environment.proofs.CatalogEnds.{none_performs}
use Rattle.environment.proofs.environment.Environment.change_unless_used.Goals as goal

pub returns-in-Err : goal.returns-in-Err
returns-in-Err g c = record {
  performs = none_performs g.D.Disk.meaning c.args.self.now c.args.session c.args.call.now c.in-Err.error c.requires.bounds;
}

pub returns-in-Ok : goal.returns-in-Ok
returns-in-Ok g c = record { performs = c.change_by_user.ensures.performs }

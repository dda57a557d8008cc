use Rattle.environment.proofs.AbortLaws.{abort_performs}
use Rattle.environment.proofs.environment.Environment.abort.Goals as goal

pub returns : goal.returns
returns g c = record {
  performs = abort_performs g.D.Disk.meaning c.args.self.now c.abandon.new.self c.args.session c.of_session.result c.in-Some.active c.in-Some.is c.of_session.ensures
      c.abandon.ensures c.requires.valid c.requires.bounds;
}

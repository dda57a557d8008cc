use Rattle.std.proofs.Common.{ap, subst}
use Rattle.jalibsuk.specs.Seen.{Seen}
use Rattle.jalibsuk.specs.Stepped.{HasEnded}
use Rattle.jalibsuk.proofs.env.Env.abort.Goals as goal

pub returns : goal.returns
returns g c = record {
  ends = subst (λ (s : Seen g.row.D.Denot). HasEnded g.D.Disk.meaning s.environment c.end.new.environment c.args.txn.session) c.self.view_is c.end.ensures.ended;
  names = ap (λ (s : Seen g.row.D.Denot). s.names) c.self.view_is;
}

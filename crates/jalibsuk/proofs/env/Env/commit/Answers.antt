use Rattle.std.proofs.Common.{ap, subst}
use Rattle.jalibsuk.specs.Seen.{Seen}
use Rattle.jalibsuk.specs.Methods.{Commits}
use Rattle.jalibsuk.proofs.env.Env.commit.Goals as goal

pub returns : goal.returns
returns g c = record {
  commits = subst (λ (s : Seen g.row.D.Denot). Commits g.D.Disk.meaning s.environment c.commit.new.environment c.args.txn.session c.commit.result) c.self.view_is c.commit.ensures.commits;
  names = ap (λ (s : Seen g.row.D.Denot). s.names) c.self.view_is;
}

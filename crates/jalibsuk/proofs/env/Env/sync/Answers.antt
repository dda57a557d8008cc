use Rattle.std.proofs.Common.{ap, subst}
use Rattle.jalibsuk.specs.Seen.{Seen}
use Rattle.jalibsuk.specs.Methods.{Syncs}
use Rattle.jalibsuk.proofs.env.Env.sync.Goals as goal

pub returns : goal.returns
returns g c = record {
  syncs = subst (λ (s : Seen g.row.D.Denot). Syncs g.D.Disk.meaning s.environment c.sync_all.new.environment c.sync_all.result) c.self.view_is c.sync_all.ensures.syncs;
  names = ap (λ (s : Seen g.row.D.Denot). s.names) c.self.view_is;
}

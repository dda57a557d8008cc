use Rattle.std.proofs.Common.{ap, subst}
use Rattle.jalibsuk.specs.Seen.{Seen}
use Rattle.jalibsuk.specs.Checkpointed.{Checkpoints}
use Rattle.jalibsuk.proofs.env.Env.checkpoint.Goals as goal

pub returns : goal.returns
returns g c = record {
  checkpoints = subst (λ (s : Seen g.row.D.Denot). Checkpoints g.D.Disk.meaning s.environment c.checkpoint.new.environment c.checkpoint.result) c.self.view_is c.checkpoint.ensures.checkpoints;
  names = ap (λ (s : Seen g.row.D.Denot). s.names) c.self.view_is;
}

use Rattle.std.proofs.Common.{ap, subst}
use Rattle.jalibsuk.specs.Seen.{Seen}
use Rattle.jalibsuk.specs.Methods.{Begins}
use Rattle.jalibsuk.proofs.env.Env.begin.Goals as goal

pub returns : goal.returns
returns g c = record {
  begins = subst (λ (s : Seen g.row.D.Denot). Begins g.D.Disk.meaning s.environment c.begin.new.environment c.args.options.isolation c.args.options.durability c.begin.result) c.self.view_is
      c.begin.ensures.begins;
  names = ap (λ (s : Seen g.row.D.Denot). s.names) c.self.view_is;
}

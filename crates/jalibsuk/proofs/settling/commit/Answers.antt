use Rattle.std.proofs.Common.{subst}
use Rattle.jalibsuk.specs.declared.stage.Stage.{Stage}
use Rattle.jalibsuk.specs.Methods.{Settles}
use Rattle.jalibsuk.proofs.settling.commit.Goals as goal

pub returns-clause-commits : goal.returns-clause-commits
returns-clause-commits g c =
    let asked = c.give_commit-stage.ensures.asked in (
      c.durability_of-durability.result,
      c.durability_of-durability.ensures,
      _,
      asked.0,
      asked.1,
      subst (λ (s : Stage). Settles g.D.Disk.meaning c.durability_of-durability.result c.args.session c.give_commit-stage.new.environment c.settle.new.environment s c.settle.result) asked.2 c.settle.ensures.settles,
    )

use Rattle.std.proofs.Common.{subst}
use Rattle.jalibsuk.specs.declared.stage.OwnStage.{OwnStage}
use Rattle.jalibsuk.specs.Methods.{SettlesNow}
use Rattle.jalibsuk.proofs.settling.give_now.Goals as goal

pub returns-clause-gives : goal.returns-clause-gives
returns-clause-gives g c = λ asked made. (
  _,
  c.give-answered.result,
  c.give-answered.ensures.gives asked made,
  subst (λ (s : OwnStage). SettlesNow g.D.Disk.meaning c.give-answered.new.environment c.settle_now.new.environment s c.give-answered.result c.settle_now.result) c.own_stage_of-stage.ensures c.settle_now.ensures.settles,
)

use Rattle.std.proofs.Common.{Option, subst}
use Rattle.store_model.specs.declared.durability.Durability.{Durability}
use Rattle.script_run.specs.Events.{awaited_of}
use Rattle.script_run.specs.UnderWay.{IsUnderWay}
use Rattle.script_run.proofs.recorded.Recorded.follow.Goals as goal

pub returns-in-Some-clause-goes_on : goal.returns-in-Some-clause-goes_on
returns-in-Some-clause-goes_on g c = λ p under.
    c.follow_commit.ensures.goes_on p (subst (λ (o : Option Durability). IsUnderWay g.D.Disk.meaning p (awaited_of o) c.args.self.now) c.in-Some.is under)

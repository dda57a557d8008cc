use Rattle.std.proofs.Common.{subst}
use Rattle.store_model.specs.declared.durability.Durability.{Durability}
use Rattle.script_run.specs.Events.Awaited.{Follow}
use Rattle.script_run.specs.UnderWay.{IsUnderWay}
use Rattle.script_run.proofs.RunLaws.{as_synced}
use Rattle.script_run.proofs.recorded.Recorded.follow_commit.Goals as goal

pub returns-in-Sync-clause-goes_on : goal.returns-in-Sync-clause-goes_on
returns-in-Sync-clause-goes_on g c = λ p under.
    c.sync.ensures.goes_on p (subst (λ (d : Durability). IsUnderWay g.D.Disk.meaning p (Follow d) c.args.self.now) c.in-Sync.is under)

pub returns-in-WriteNoSync-clause-goes_on : goal.returns-in-WriteNoSync-clause-goes_on
returns-in-WriteNoSync-clause-goes_on g c = λ p under.
    c.write_out.ensures.goes_on p (subst (λ (d : Durability). IsUnderWay g.D.Disk.meaning p (Follow d) c.args.self.now) c.in-WriteNoSync.is under)

pub returns-in-NoSync-clause-goes_on : goal.returns-in-NoSync-clause-goes_on
returns-in-NoSync-clause-goes_on g c = λ p under.
    let x = c.args.self.now in
    c.sync-in-NoSync.ensures.goes_on p (as_synced g.D.Disk.meaning p x
    (subst (λ (d : Durability). IsUnderWay g.D.Disk.meaning p (Follow d) x) c.in-NoSync.is under))

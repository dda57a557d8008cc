use Rattle.jalibsuk.proofs.Usables.{usable_turned}
use Rattle.jalibsuk.proofs.checkpointing.turn.Goals as goal

pub returns : goal.returns
returns g c =
    let u = c.requires.usable in
    let e = c.turn.ensures in
    record {
      usable = usable_turned _ u.most u.st 0 c.args.step c.turn.result (e.goes_on u.most u.st 0 u.here) e.bounds;
      turned = record { goes_on = e.goes_on; steps = e.steps; grows = e.grows; crash = e.crash; same_reach = e.same_reach; never_falls = e.never_falls; cause = e.cause };
    }

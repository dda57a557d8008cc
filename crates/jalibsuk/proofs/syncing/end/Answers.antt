use Rattle.jalibsuk.proofs.Usables.{usable_at}
use Rattle.jalibsuk.proofs.syncing.end.Goals as goal

pub returns : goal.returns
returns g c =
    let u = c.requires.usable in
    let e = c.end_session.ensures in
    record {
      usable = usable_at (e.goes_on u.most u.st u.here).here (e.bounds u.bounds);
      ended = record { goes_on = e.goes_on; crash = e.crash; within = e.within; same_disk = e.same_disk };
    }

use Rattle.jalibsuk.proofs.Usables.{usable_at}
use Rattle.jalibsuk.proofs.syncing.write_out.Goals as goal

pub returns : goal.returns
returns g c =
    let u = c.requires.usable in
    let e = c.write_out.ensures in
    record {
      usable = usable_at (e.goes_on u.most u.st u.here).here (e.bounds u.bounds);
      written = record { goes_on = e.goes_on; crash = e.crash; within = e.within; never_falls = e.never_falls; cause = e.cause };
    }

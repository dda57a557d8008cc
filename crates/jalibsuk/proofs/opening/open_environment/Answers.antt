use Rattle.jalibsuk.proofs.Usables.{usable_at}
use Rattle.jalibsuk.proofs.opening.open_environment.Goals as goal

pub returns-in-Ok : goal.returns-in-Ok
returns-in-Ok g c =
    let e = c.in-Ok.ensures in
    record {
      usable = usable_at e.opened.1.here e.bounds;
      opening = record { opening = c.in-Ok.opened.opening; opened = e.opened; crash = e.crash; entry = e.entry; faults = e.faults };
    }

pub returns-in-Err : goal.returns-in-Err
returns-in-Err g c =
    let e = c.in-Err.ensures in
    record {
      usable = tt;
      opening = record {
        cause = c.in-Err.stopped.error;
        told = c.opening_error-error.ensures;
        entry = e.stopped_entry;
        stopped = e.stopped;
        faults = e.stopped_faults;
        left_alone = e.left_alone;
      };
    }

use Rattle.std.proofs.Common.{◌≤◌, sym, subst, arith}
use Rattle.script_run.proofs.Pushed.{within_none}
use Rattle.script_run.proofs.RunLaws.{pushed}
use Rattle.script_run.specs.UnderWay.{standing}
use Rattle.script_run.specs.declared.recorded.Recorded.{Recorded}
use Rattle.script_run.specs.Events.Awaited.{Nothing}
use Rattle.store_model.specs.declared.event.Event.TheVariants.{End}
use Rattle.environment.specs.Whole.{disk_of, reach_of}
use Rattle.script_run.proofs.recorded.Recorded.end_session.Goals as goal

pub returns-clause-goes_on : goal.returns-clause-goes_on
returns-clause-goes_on g c = λ p under may.
    let x = c.args.self.now in
    let e = c.end_session.ensures in
    let y : Recorded g.row.D.Denot = record { environment = c.end_session.new.self; journal = c.record.new.journal } in
    pushed g.D.Disk.meaning p Nothing Nothing x y (End c.args.session) c.record.ensures.items under (record {
      done = e.goes_on p.most (standing p x) under.running.here;
      grows = within_none (reach_of x.environment) (reach_of y.environment) e.within;
      synced = λ later met. (tt, tt);
      fresh = tt;
      ordered = may;
      steps = tt;
      sessions = tt;
      bounds = e.bounds under.running.bounds;
      never_falls = (let meaning = g.D.Disk.meaning in subst (λ d. meaning.faults (disk_of x.environment) ≤ meaning.faults d) (sym e.same_disk) (omega arith));
      fault = λ h. cc;
    }) (λ observed. e.crash observed p.most p.st p.start x.journal.items under.running.here (under.guarded observed))

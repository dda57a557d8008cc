use Rattle.std.proofs.Common.{refl}
use Rattle.je_answers.specs.After.{faulted_if}
use Rattle.script_run.proofs.EndLaws.{gained_one}
use Rattle.script_run.proofs.Standings.{alike_by, faulted_actives, faulted_waits}
use Rattle.script_run.proofs.Pushed.{within_none}
use Rattle.script_run.proofs.RunLaws.{pushed, standing_push}
use Rattle.script_run.proofs.Waiting.{fault_is, written_is}
use Rattle.script_run.specs.UnderWay.{standing}
use Rattle.script_run.specs.declared.recorded.Recorded.{Recorded}
use Rattle.script_run.specs.Events.Awaited.{Follow, Nothing}
use Rattle.store_model.specs.declared.durability.Durability.TheVariants.{WriteNoSync}
use Rattle.store_model.specs.declared.event.Event.TheVariants.{WriteOut}
use Rattle.environment.specs.Whole.{reach_of}
use Rattle.script_run.proofs.recorded.Recorded.write_out.Goals as goal

pub returns-clause-goes_on : goal.returns-clause-goes_on
returns-clause-goes_on g c = λ p under.
    let x = c.args.self.now in
    let st = standing p x in
    let e = c.write_out-answer.ensures in
    let answer = c.write_out-answer.result in
    let y : Recorded g.row.D.Denot = record { environment = c.write_out-answer.new.self; journal = c.record.new.journal } in
    let done = e.goes_on p.most st under.running.here in
    pushed g.D.Disk.meaning p (Follow WriteNoSync) Nothing x y (WriteOut answer) c.record.ensures.items under (record {
      done = done;
      grows = within_none (reach_of x.environment) (reach_of y.environment) e.within;
      synced = λ later met. (written_is st answer later under.running.fresh done.answered, tt);
      fresh = tt;
      ordered = tt;
      steps = tt;
      sessions = tt;
      bounds = e.bounds under.running.bounds;
      never_falls = e.never_falls;
      fault = λ h. e.cause (fault_is answer h);
    }) (λ observed. e.crash observed p.most p.st p.start x.journal.items under.running.here (under.guarded observed))

pub returns-clause-alike : goal.returns-clause-alike
returns-clause-alike g c = λ p.
    let x = c.args.self.now in
    let answer = c.write_out-answer.result in
    let y : Recorded g.row.D.Denot = record { environment = c.write_out-answer.new.self; journal = c.record.new.journal } in
    alike_by p x y (faulted_if answer (standing p x)) (standing_push p x y (WriteOut answer) c.record.ensures.items) (faulted_waits answer (standing p x)) (faulted_actives answer (standing p x))

pub returns-clause-gained : goal.returns-clause-gained
returns-clause-gained g c = λ stopped.
    gained_one stopped c.args.self.now.journal.items c.record.new.journal.items (WriteOut c.write_out-answer.result) c.record.ensures.items refl tt

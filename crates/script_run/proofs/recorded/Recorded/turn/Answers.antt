use Rattle.std.proofs.Common.{Ok, ap, refl}
use Rattle.script_run.proofs.EndLaws.{stopped_step, turned_lines}
use Rattle.script_run.proofs.RunLaws.{kept, pushed}
use Rattle.script_run.proofs.Steps.{turn_in_place}
use Rattle.script_run.proofs.Waiting.{fault_is}
use Rattle.script_run.specs.UnderWay.{standing}
use Rattle.script_run.specs.declared.recorded.Recorded.{Recorded}
use Rattle.script_run.specs.Events.Awaited.{Nothing}
use Rattle.store_model.specs.declared.event.Event.{Event}
use Rattle.store_model.specs.declared.event.Event.TheVariants.{Turn}
use Rattle.script_run.proofs.Growing.{grown_one, grown_same}
use Rattle.script_run.proofs.recorded.Recorded.turn.Goals as goal

pub returns-in-Err-clause-goes_on : goal.returns-in-Err-clause-goes_on
returns-in-Err-clause-goes_on g c = λ p under may.
    let x = c.args.self.now in
    let e = c.in-Err.ensures in
    let y : Recorded g.row.D.Denot = record { environment = c.turn.new.self; journal = x.journal } in
    kept g.D.Disk.meaning p x y refl under (e.goes_on p.most (standing p x) c.args.line under.running.here) e.same_reach c.turn.ensures.bounds c.turn.ensures.never_falls
    (λ observed. e.crash observed p.most p.st p.start x.journal.items c.args.line under.running.here (under.guarded observed))

pub returns-clause-goes_on : goal.returns-clause-goes_on
returns-clause-goes_on g c = λ p under may.
    let x = c.args.self.now in
    let st = standing p x in
    let line = c.args.line in
    let step = c.args.step in
    let e = c.in-Ok.ensures in
    let answer = c.in-Ok.answer in
    let event : Event = Turn line step answer in
    let y : Recorded g.row.D.Denot = record { environment = c.turn.new.self; journal = c.record.new.journal } in
    let done = e.goes_on p.most st line under.running.here in
    pushed g.D.Disk.meaning p Nothing Nothing x y event c.record.ensures.items under (record {
      done = done;
      grows = e.grows p.most st line under.running.here;
      synced = λ later met. (tt, tt);
      fresh = tt;
      ordered = tt;
      steps = turn_in_place p x line step answer done.limit c.requires.line may done.answered;
      sessions = tt;
      bounds = c.turn.ensures.bounds;
      never_falls = c.turn.ensures.never_falls;
      fault = λ h. e.cause (ap Ok (fault_is answer h));
    }) (λ observed. e.crash observed p.most p.st p.start x.journal.items line under.running.here (under.guarded observed))

pub returns-clause-line : goal.returns-clause-line
returns-clause-line g c = turned_lines c.args.self.now.journal.items c.record.new.journal.items c.args.line c.args.step c.in-Ok.answer c.requires.line c.record.ensures.items

pub returns-clause-ends : goal.returns-clause-ends
returns-clause-ends g c = λ stopped ends. stopped_step stopped c.args.self.now.journal.items c.record.new.journal.items c.args.line c.args.step c.in-Ok.answer c.record.ensures.items ends

pub returns-in-Err-clause-grew : goal.returns-in-Err-clause-grew
returns-in-Err-clause-grew g c = grown_same 1 c.args.self.now.journal.items c.args.self.now.journal.items refl

pub returns-clause-grew : goal.returns-clause-grew
returns-clause-grew g c = grown_one c.args.self.now.journal.items c.record.new.journal.items (Turn c.args.line c.args.step c.in-Ok.answer) c.record.ensures.items

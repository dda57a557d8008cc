use Rattle.std.proofs.Common.{◌<◌, List, refl, sym, subst, arith}
use Rattle.script_run.specs.Ends.{AreEndsStopped}
use Rattle.script_run.proofs.EndLaws.{stopped_line}
use Rattle.script_run.proofs.RunLaws.{kept, pushed}
use Rattle.script_run.proofs.Waiting.{IsAwaitedFor, called_synced, called_valid, fault_is, fresh_after}
use Rattle.script_run.specs.UnderWay.{standing}
use Rattle.script_run.specs.declared.recorded.Recorded.{Recorded}
use Rattle.script_run.specs.Events.{awaited_of}
use Rattle.script_run.specs.Events.Awaited.{Nothing}
use Rattle.store_model.specs.declared.event.Event.{Event}
use Rattle.store_model.specs.declared.event.Event.TheVariants.{Call as Called}
use Rattle.je_answers.specs.After.{after_event}
use Rattle.script_run.proofs.Growing.{grown_one, grown_same}
use Rattle.script_run.proofs.recorded.Recorded.step.Goals as goal

pub returns-in-Err-clause-goes_on : goal.returns-in-Err-clause-goes_on
returns-in-Err-clause-goes_on g c = λ p under calm.
    let x = c.args.self.now in
    let e = c.in-Err.ensures in
    let y : Recorded g.row.D.Denot = record { environment = c.step.new.self; journal = x.journal } in
    kept g.D.Disk.meaning p x y refl under (e.goes_on p.most (standing p x) under.running.here) e.same_reach c.step.ensures.bounds e.cause.never_falls
    (λ observed. e.crash observed p.most p.st p.start x.journal.items under.running.here (under.guarded observed))

pub returns-clause-goes_on : goal.returns-clause-goes_on
returns-clause-goes_on g c = λ p under calm.
    let x = c.args.self.now in
    let st = standing p x in
    let session = c.args.session in
    let within : session < 256 = omega arith in
    let line = c.args.line in
    let call = c.args.call in
    let e = c.in-Ok.ensures in
    let o = c.in-Ok.outcome in
    let awaited = c.awaited-awaited.result in
    let durability = c.durability_of-durability.result in
    let event : Event = Called session line call o.answer o.victims in
    let for_ : IsAwaitedFor o.answer durability awaited = record { logged = c.awaited-awaited.ensures.logged; other = c.awaited-awaited.ensures.other } in
    let y : Recorded g.row.D.Denot = record { environment = c.step.new.self; journal = c.record.new.journal } in
    let done = e.goes_on p.most st under.running.here in
    pushed g.D.Disk.meaning p Nothing (awaited_of awaited) x y event c.record.ensures.items under (record {
      done = done;
      grows = c.step.ensures.grows p.most st under.running.here;
      synced = λ later met. (
        tt,
        called_synced st (after_event st event) session line call o.answer o.victims durability awaited later (c.durability_of-durability.ensures p.most st under.running.here) for_
            (e.numbered p.most st under.running.here) met,
      );
      fresh = fresh_after o.answer durability awaited (after_event st event) for_ (λ logged. called_valid done.limit st session line call o.answer o.victims logged done.answered);
      ordered = calm;
      steps = tt;
      sessions = within;
      bounds = c.step.ensures.bounds;
      never_falls = e.cause.never_falls;
      fault = λ h. e.cause.fault (fault_is o.answer h);
    }) (λ observed. e.crash observed p.most p.st p.start x.journal.items under.running.here (under.guarded observed))

pub returns-clause-ends : goal.returns-clause-ends
returns-clause-ends g c = λ stopped running ends.
    let o = c.in-Ok.outcome in
    subst (λ (l : List Event). AreEndsStopped stopped l) (sym {A = List Event} c.record.ensures.items)
    (stopped_line stopped c.args.self.now.journal.items (Called c.args.session c.args.line c.args.call o.answer o.victims) c.args.session c.args.line c.args.call refl (λ later. tt) running ends)

pub returns-in-Err-clause-grew : goal.returns-in-Err-clause-grew
returns-in-Err-clause-grew g c = grown_same 1 c.args.self.now.journal.items c.args.self.now.journal.items refl

pub returns-clause-grew : goal.returns-clause-grew
returns-clause-grew g c =
    let o = c.in-Ok.outcome in
    grown_one c.args.self.now.journal.items c.record.new.journal.items (Called c.args.session c.args.line c.args.call o.answer o.victims) c.record.ensures.items

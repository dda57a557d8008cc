use Rattle.std.proofs.Common.{◌<◌, length, None, refl, inl, inr, sym, subst, arith}
use Rattle.script_run.proofs.Ending.{none_ended, none_resumed}
use Rattle.script_run.proofs.EndLaws.{gained_one}
use Rattle.je_answers.specs.Standing.{Standing}
use Rattle.je_answers.specs.Journal.{first_ready}
use Rattle.script_run.proofs.Pushed.{within_none}
use Rattle.script_run.proofs.RunLaws.{pushed, settles_by, standing_push}
use Rattle.script_run.proofs.Waiting.{IsAwaitedFor, fault_is, first_of, fresh_after, gone_on_synced, gone_on_valid}
use Rattle.script_run.specs.UnderWay.{standing}
use Rattle.script_run.specs.declared.recorded.Recorded.{Recorded}
use Rattle.script_run.specs.Events.{awaited_of}
use Rattle.script_run.specs.Events.Awaited.{Nothing}
use Rattle.store_model.specs.declared.event.Event.{Event}
use Rattle.store_model.specs.declared.event.Event.TheVariants.{End, Resume}
use Rattle.je_answers.specs.After.{after_event}
use Rattle.environment.specs.Whole.{reach_of}
use Rattle.script_run.proofs.recorded.Recorded.resume.Goals as goal

pub returns-in-Err-clause-goes_on : goal.returns-in-Err-clause-goes_on
returns-in-Err-clause-goes_on g c = λ p under next.
    let x = c.args.self.now in
    let e = c.in-Err.ensures in
    let y : Recorded g.row.D.Denot = record { environment = c.resume.new.self; journal = c.record.new.journal } in
    pushed g.D.Disk.meaning p Nothing Nothing x y (End c.args.session) c.record.ensures.items under (record {
      done = record { limit = None; bounded = inl refl; answered = tt; here = e.goes_on p.most (standing p x) c.args.line under.running.here next.may };
      grows = within_none (reach_of x.environment) (reach_of y.environment) e.same_reach;
      synced = λ later met. (tt, tt);
      fresh = tt;
      ordered = inr (first_of (first_ready (standing p x)) c.args.session c.args.line next.first);
      steps = tt;
      sessions = tt;
      bounds = c.resume.ensures.bounds;
      never_falls = e.cause.never_falls;
      fault = λ h. cc;
    }) (λ observed. e.crash observed p.most p.st p.start x.journal.items c.args.line under.running.here next.may (under.guarded observed))

pub returns-in-Err-clause-settles : goal.returns-in-Err-clause-settles
returns-in-Err-clause-settles g c = λ p under next.
    let x = c.args.self.now in
    let y : Recorded g.row.D.Denot = record { environment = c.resume.new.self; journal = c.record.new.journal } in
    subst (λ (s : Standing). length s.waiting < length (standing p x).waiting) (sym (standing_push p x y (End c.args.session) c.record.ensures.items))
    (c.in-Err.ensures.settles p.most (standing p x) c.args.line under.running.here next.may)

pub returns-clause-goes_on : goal.returns-clause-goes_on
returns-clause-goes_on g c = λ p under next.
    let x = c.args.self.now in
    let st = standing p x in
    let session = c.args.session in
    let within : session < 256 = omega arith in
    let line = c.args.line in
    let e = c.in-Ok.ensures in
    let o = c.in-Ok.outcome in
    let awaited = c.awaited-awaited.result in
    let durability = c.durability_of-durability.result in
    let event : Event = Resume session line o.answer o.victims in
    let for_ : IsAwaitedFor o.answer durability awaited = record { logged = c.awaited-awaited.ensures.logged; other = c.awaited-awaited.ensures.other } in
    let y : Recorded g.row.D.Denot = record { environment = c.resume.new.self; journal = c.record-2.new.journal } in
    let done = e.goes_on p.most st line under.running.here next.may in
    pushed g.D.Disk.meaning p Nothing (awaited_of awaited) x y event c.record-2.ensures.items under (record {
      done = done;
      grows = c.resume.ensures.grows p.most st line under.running.here next.may;
      synced = λ later met. (
        tt,
        gone_on_synced st (after_event st event) session line o.answer o.victims durability awaited later (c.durability_of-durability.ensures p.most st under.running.here) for_
            (e.numbered p.most st line under.running.here next.may) met,
      );
      fresh = fresh_after o.answer durability awaited (after_event st event) for_ (λ logged. gone_on_valid done.limit st session line o.answer o.victims logged done.answered);
      ordered = first_of (first_ready st) session line next.first;
      steps = tt;
      sessions = within;
      bounds = c.resume.ensures.bounds;
      never_falls = e.cause.never_falls;
      fault = λ h. e.cause.fault (fault_is o.answer h);
    }) (λ observed. e.crash observed p.most p.st p.start x.journal.items line under.running.here next.may (under.guarded observed))

pub returns-clause-settles : goal.returns-clause-settles
returns-clause-settles g c = λ p under next.
    let x = c.args.self.now in
    let st = standing p x in
    let o = c.in-Ok.outcome in
    let event : Event = Resume c.args.session c.args.line o.answer o.victims in
    let y : Recorded g.row.D.Denot = record { environment = c.resume.new.self; journal = c.record-2.new.journal } in
    settles_by p x y o.answer c.durability_of-durability.result c.awaited-awaited.result (after_event st event) (standing_push p x y event c.record-2.ensures.items)
    (record { logged = c.awaited-awaited.ensures.logged; other = c.awaited-awaited.ensures.other }) (c.in-Ok.ensures.settles p.most st c.args.line under.running.here next.may)

pub returns-in-Err-clause-begins_none : goal.returns-in-Err-clause-begins_none
returns-in-Err-clause-begins_none g c = λ p under next.
    let x = c.args.self.now in
    let y : Recorded g.row.D.Denot = record { environment = c.resume.new.self; journal = c.record.new.journal } in
    none_ended p c.args.session x y c.record.ensures.items

pub returns-clause-begins_none : goal.returns-clause-begins_none
returns-clause-begins_none g c = λ p under next.
    let x = c.args.self.now in
    let o = c.in-Ok.outcome in
    let y : Recorded g.row.D.Denot = record { environment = c.resume.new.self; journal = c.record-2.new.journal } in
    none_resumed p c.args.session c.args.line o.answer o.victims x y c.record-2.ensures.items under.running.here.right next

pub returns-in-Err-clause-gained : goal.returns-in-Err-clause-gained
returns-in-Err-clause-gained g c = λ stopped was. gained_one stopped c.args.self.now.journal.items c.record.new.journal.items (End c.args.session) c.record.ensures.items refl was

pub returns-clause-gained : goal.returns-clause-gained
returns-clause-gained g c = λ stopped was.
    let o = c.in-Ok.outcome in
    gained_one stopped c.args.self.now.journal.items c.record-2.new.journal.items (Resume c.args.session c.args.line o.answer o.victims) c.record-2.ensures.items refl tt

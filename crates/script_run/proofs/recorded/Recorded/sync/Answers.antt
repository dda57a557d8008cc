use Rattle.script_run.proofs.EndLaws.{gained_one, gained_then}
use Rattle.script_run.proofs.Standings.{alike_by, faulted_actives, faulted_waits}
use Rattle.script_run.proofs.Steps.{synced_by}
use Rattle.std.proofs.Common.{ℕ, List, [], ◌∷◌, ◌++◌, ◌≡◌, None, Some, Option, refl, inl, inr, ap, sym, ◌∙◌, subst}
use Rattle.std.specs.Option.{is_some}
use Rattle.je_disk.specs.Moments.{now}
use Rattle.je_answers.specs.Events.{IsSyncBegun, IsSyncEnded}
use Rattle.je_answers.specs.After.{after_event, after_events, faulted_if}
use Rattle.je_answers.specs.Standing.{Standing}
use Rattle.je_answers.proofs.Journals.{after_events-append}
use Rattle.script_run.proofs.Pushed.{within_none}
use Rattle.script_run.proofs.RunLaws.{IsNextEvent, last_pushed, pushed, running_push, standing_push}
use Rattle.script_run.proofs.Waiting.{begun_is, ended_is, fault_is, unbegun_is}
use Rattle.script_run.specs.UnderWay.{IsRunning, standing}
use Rattle.script_run.specs.declared.recorded.Recorded.{Recorded}
use Rattle.script_run.specs.Events.Awaited.{Ending, Follow, Nothing}
use Rattle.script_run.specs.Maintenance.{last_after}
use Rattle.store_model.specs.declared.answer.Fault.{Fault}
use Rattle.store_model.specs.declared.answer.Answer.TheVariants.{Done, DiskFault}
use Rattle.store_model.specs.declared.durability.Durability.TheVariants.{Sync}
use Rattle.store_model.specs.declared.event.Event.{Event}
use Rattle.store_model.specs.declared.event.Event.TheVariants.{SyncBegin, SyncEnd}
use Rattle.environment.specs.Whole.{IsAt, IsGuarded, disk_of, reach_of}
use Rattle.script_run.proofs.recorded.Recorded.sync.Goals as goal

pub returns-in_default-clause-goes_on : goal.returns-in_default-clause-goes_on
returns-in_default-clause-goes_on g c = λ p under.
    let x = c.args.self.now in
    let st = standing p x in
    let e = c.in_default.ensures in
    let y : Recorded g.row.D.Denot = record { environment = c.sync_begin.new.self; journal = c.record.new.journal } in
    let valid : st.fault ≡ None = under.running.fresh in
    pushed g.D.Disk.meaning p (Follow Sync) Nothing x y (SyncBegin DiskFault) c.record.ensures.items under (record {
      done = record {
        limit = None;
        bounded = inl refl;
        answered = subst (λ (f : Option Fault). IsSyncBegun f DiskFault) (sym valid) (inr refl);
        here = (e.begins p.most st under.running.here valid).1;
      };
      grows = within_none (reach_of x.environment) (reach_of y.environment) c.sync_begin.ensures.within;
      synced = λ later met. (unbegun_is st later, tt);
      fresh = tt;
      ordered = tt;
      steps = tt;
      sessions = tt;
      bounds = c.sync_begin.ensures.bounds under.running.bounds;
      never_falls = c.sync_begin.ensures.never_falls;
      fault = λ h. e.cause p.most st under.running.here valid refl;
    }) (λ observed. e.crash observed p.most p.st p.start x.journal.items valid (under.guarded observed))

pub returns-clause-goes_on : goal.returns-clause-goes_on
returns-clause-goes_on g c = λ p under.
    let meaning = g.D.Disk.meaning in
    let x = c.args.self.now in
    let st = standing p x in
    let b = c.in-Some.ensures in
    let e = c.sync_end-answer.ensures in
    let ending = c.sync_end-answer.result in
    let middle = c.sync_begin.new.self in
    let new = c.sync_end-answer.new.self in
    let valid : st.fault ≡ None = under.running.fresh in
    let begun : List Event = x.journal.items ++ SyncBegin Done ∷ [] in
    let syncing = running_push meaning p (Follow Sync) Ending x.environment middle x.journal.items (SyncBegin Done) under.running (record {
      done = record {
        limit = None;
        bounded = inl refl;
        answered = subst (λ (f : Option Fault). IsSyncBegun f Done) (sym valid) (inl refl);
        here = (b.begins p.most st under.running.here valid).1;
      };
      grows = within_none (reach_of x.environment) (reach_of middle) c.sync_begin.ensures.within;
      synced = λ later met. (begun_is st later met, tt);
      fresh = (valid, refl);
      ordered = tt;
      steps = tt;
      sessions = tt;
      bounds = c.sync_begin.ensures.bounds under.running.bounds;
      never_falls = c.sync_begin.ensures.never_falls;
      fault = λ h. cc;
    }) in
    let st1 : Standing = after_event st (SyncBegin Done) in
    let stands : after_events p.st begun ≡ st1 = after_events-append p.st x.journal.items (SyncBegin Done ∷ []) in
    let here1 : IsAt p.most meaning.observable (now (meaning.history (disk_of middle))) middle st1 =
    subst (λ (s : Standing). IsAt p.most meaning.observable (now (meaning.history (disk_of middle))) middle s) stands syncing.here in
    let out : st1.begun ≡ Some c.commits-begun.result = ap (λ (n : ℕ). Some n) (sym (c.commits-begun.ensures p.most st under.running.here)) in
    let ends = e.ends p.most st1 here1 valid out in
    let done = running_push meaning p Ending Nothing middle new begun (SyncEnd ending) syncing
    (subst (λ (s : Standing). IsNextEvent meaning p Ending Nothing middle new (last_after None begun) s (SyncEnd ending)) (sym stands) (record {
      done = record { limit = None; bounded = inl refl; answered = subst (λ (f : Option Fault). IsSyncEnded f st1.begun ending) (sym valid) ends.0; here = ends.1 };
      grows = within_none (reach_of middle) (reach_of new) e.within;
      synced = λ later met. (ended_is st1 ending later ends.0, tt);
      fresh = tt;
      ordered = tt;
      steps = tt;
      sessions = tt;
      bounds = e.bounds (c.sync_begin.ensures.bounds under.running.bounds);
      never_falls = e.never_falls;
      fault = λ h. e.cause p.most st1 here1 valid (fault_is ending h);
    })) in
    let all = ◌∙◌ {A = List Event} c.record-3.ensures.items (ap (λ (l : List Event). l ++ SyncEnd ending ∷ []) c.record-2.ensures.items) in
    record {
      running = subst (λ (l : List Event). IsRunning meaning p Nothing new l) (sym {A = List Event} all) done;
      guarded = λ observed.
          let guarded_begun = b.crash observed p.most p.st p.start x.journal.items valid (under.guarded observed) in
          subst (λ (l : List Event). IsGuarded p.most p.st p.start (meaning.history (disk_of new)) new l) (sym {A = List Event} all)
          (e.crash observed p.most p.st p.start begun syncing.here (subst (λ (s : Standing). s.fault ≡ None) (sym stands) valid) (ap (λ (s : Standing). s.begun) stands ∙ out) guarded_begun);
    }

pub returns-in_default-clause-alike : goal.returns-in_default-clause-alike
returns-in_default-clause-alike g c = λ p.
    let x = c.args.self.now in
    let y : Recorded g.row.D.Denot = record { environment = c.sync_begin.new.self; journal = c.record.new.journal } in
    alike_by p x y (after_event (standing p x) (SyncBegin DiskFault)) (standing_push p x y (SyncBegin DiskFault) c.record.ensures.items) refl refl

pub returns-in_default-clause-gained : goal.returns-in_default-clause-gained
returns-in_default-clause-gained g c = λ stopped. gained_one stopped c.args.self.now.journal.items c.record.new.journal.items (SyncBegin DiskFault) c.record.ensures.items refl tt

pub returns-clause-alike : goal.returns-clause-alike
returns-clause-alike g c = λ p.
    let x = c.args.self.now in
    let ending = c.sync_end-answer.result in
    let m : Recorded g.row.D.Denot = record { environment = c.sync_begin.new.self; journal = c.record-2.new.journal } in
    let y : Recorded g.row.D.Denot = record { environment = c.sync_end-answer.new.self; journal = c.record-3.new.journal } in
    let st : Standing = record (after_event (standing p x) (SyncBegin Done)) { begun = None } in
    alike_by p x y (faulted_if ending st)
    (standing_push p m y (SyncEnd ending) c.record-3.ensures.items ∙ ap (λ (s : Standing). after_event s (SyncEnd ending)) (standing_push p x m (SyncBegin Done) c.record-2.ensures.items))
    (faulted_waits ending st) (faulted_actives ending st)

pub returns-clause-gained : goal.returns-clause-gained
returns-clause-gained g c = λ stopped.
    let before = c.args.self.now.journal.items in
    let middle = c.record-2.new.journal.items in
    let after = c.record-3.new.journal.items in
    gained_then stopped before middle after (gained_one stopped before middle (SyncBegin Done) c.record-2.ensures.items refl tt)
    (gained_one stopped middle after (SyncEnd c.sync_end-answer.result) c.record-3.ensures.items refl tt)

pub returns-in_default-clause-synced : goal.returns-in_default-clause-synced
returns-in_default-clause-synced g c = λ p under.
    let x = c.args.self.now in
    let y : Recorded g.row.D.Denot = record { environment = c.sync_begin.new.self; journal = c.record.new.journal } in
    inr (inl (last_pushed x y (SyncBegin DiskFault) c.record.ensures.items), ap (λ (s : Standing). is_some s.fault) (standing_push p x y (SyncBegin DiskFault) c.record.ensures.items))

pub returns-clause-synced : goal.returns-clause-synced
returns-clause-synced g c = λ p under.
    let x = c.args.self.now in
    let st = standing p x in
    let valid : st.fault ≡ None = under.running.fresh in
    let m : Recorded g.row.D.Denot = record { environment = c.sync_begin.new.self; journal = c.record-2.new.journal } in
    let y : Recorded g.row.D.Denot = record { environment = c.sync_end-answer.new.self; journal = c.record-3.new.journal } in
    synced_by p x m y c.sync_end-answer.result c.record-2.ensures.items c.record-3.ensures.items
    (c.sync_end-answer.ensures.ends p.most (after_event st (SyncBegin Done)) (c.in-Some.ensures.begins p.most st under.running.here valid).1 valid
    (ap (λ (n : ℕ). Some n) (sym (c.commits-begun.ensures p.most st under.running.here)))).0

-- A run goes on by one event.
use Rattle.std.proofs.Common.{◌≡◌, ◌≤◌, ◌<◌, true, List, [], ◌∷◌, ◌++◌, Option, None, Some, Ok, refl, ap, sym, ◌∙◌, subst, ⊎_elim, inl, inr}
use Rattle.je_order.specs.Counts.{HasRisen}
use Rattle.je_disk.specs.DiskMeaning.{DiskMeaning}
use Rattle.je_disk.specs.Moments.{now}
use Rattle.store_model.specs.declared.answer.Answer.{Answer}
use Rattle.store_model.specs.declared.durability.Durability.{Durability}
use Rattle.store_model.specs.declared.durability.Durability.TheVariants.{NoSync, Sync}
use Rattle.store_model.specs.declared.event.Event.{Event}
use Rattle.store_model.specs.Journal.{answers_some, is_disk_fault}
use Rattle.je_answers.specs.Standing.{Standing}
use Rattle.je_answers.specs.After.{after_event, after_events}
use Rattle.je_answers.specs.Journal.{IsInOrder, IsSettling, IsSyncedAtOnce, first_ready}
use Rattle.je_answers.proofs.Journals.{after_events-append, answers-push}
use Rattle.engine.specs.Limits.{IsWithin}
use Rattle.environment.specs.declared.environment.Environment.{Environment}
use Rattle.environment.specs.Limits.{reach_behind}
use Rattle.environment.specs.Whole.{CanGoOn, HasDone, IsAt, IsGuarded, disk_of, reach_of}
use Rattle.script_run.specs.declared.recorded.Recorded.{Recorded}
use Rattle.script_run.specs.Ends.{AreOf}
use Rattle.script_run.specs.Events.{Awaited, IsFresh, IsMet, reach_by}
use Rattle.script_run.specs.Events.Awaited.{Follow, Nothing}
use Rattle.script_run.specs.Maintenance.{IsStepInPlace, last_after}
use Rattle.script_run.specs.Running.{Begins}
use Rattle.script_run.specs.UnderWay.{Beginning, IsCalm, IsRunning, IsUnderWay, Settles, last_event, standing}
use Rattle.script_run.proofs.Pushed.{bounded_push, caused_later, caused_push, last_push, near_push, ordered_push, steps_push, synced_push, within_then}
use Rattle.script_run.proofs.SessionLaws.{MayBeOf, event_keeps}
use Rattle.script_run.proofs.Waiting.{IsAwaitedFor}

module _ {D : Type 0} (meaning : DiskMeaning D) where
  -- an event that a run may go on with behind its last one, what was awaited before it and is behind it
  pub record IsNextEvent (p : Beginning) (before awaited : Awaited) (old new : Environment D) (last : Option Event) (st : Standing) (event : Event) : Type 0 where
    pub done : HasDone p.most meaning.observable (now (meaning.history (disk_of new))) old new st event
    pub grows : IsWithin (reach_of new) (reach_behind (reach_of old) st event)
    pub synced : (later : List Event) → IsMet awaited (after_event st event) later → IsMet before st (event ∷ later) × IsSyncedAtOnce st event later
    pub fresh : IsFresh awaited (after_event st event)
    pub ordered : IsInOrder st event
    pub steps : IsStepInPlace last st event
    pub sessions : MayBeOf (λ s. s < 256) event
    pub bounds : CanGoOn new
    pub never_falls : meaning.faults (disk_of old) ≤ meaning.faults (disk_of new)
    pub fault : answers_some is_disk_fault event ≡ true → HasRisen (meaning.faults (disk_of old)) (meaning.faults (disk_of new))

  pub running_push : (p : Beginning) (before awaited : Awaited) (old new : Environment D) (journal : List Event) (event : Event) → IsRunning meaning p before old journal →
      IsNextEvent p before awaited old new (last_after None journal) (after_events p.st journal) event → IsRunning meaning p awaited new (journal ++ event ∷ [])
  running_push p before awaited old new journal event running next =
      let st = after_events p.st journal in
      let stands = after_events-append p.st journal (event ∷ []) in
      record {
        here = subst (λ (s : Standing). IsAt p.most meaning.observable (now (meaning.history (disk_of new))) new s) (sym stands) next.done.here;
        limits = running.limits ++ next.done.limit ∷ [];
        answers = answers-push p.st running.limits journal next.done.limit event running.answers next.done.answered;
        bounded = bounded_push p.first (reach_of old) p.st running.limits journal next.done.limit event running.answers running.bounded running.near next.done.bounded;
        near = near_push p.first (reach_of old) (reach_of new) p.st journal event running.near next.grows;
        synced = λ later met.
            let both = next.synced later (subst (λ (s : Standing). IsMet awaited s later) stands met) in
            synced_push p.st journal event later (running.synced (event ∷ later) both.0) both.1;
        fresh = subst (λ (s : Standing). IsFresh awaited s) (sym stands) next.fresh;
        ordered = ordered_push p.st journal event running.ordered next.ordered;
        steps = steps_push None p.st journal event running.steps next.steps;
        sessions = subst (λ (s : Standing). AreOf (λ n. n < 256) s.actives) (sym stands) (event_keeps (λ n. n < 256) st event next.sessions running.sessions);
        bounds = next.bounds;
        caused = caused_push p.faults (meaning.faults (disk_of old)) (meaning.faults (disk_of new)) journal event running.caused next.never_falls next.fault;
      }

  -- the same of an environment with its journal
  pub pushed : (p : Beginning) (before awaited : Awaited) (x y : Recorded D) (event : Event) → y.journal.items ≡ x.journal.items ++ event ∷ [] → IsUnderWay meaning p before x →
      IsNextEvent p before awaited x.environment y.environment (last_event x) (standing p x) event →
      (meaning.observable ≡ true → IsGuarded p.most p.st p.start (meaning.history (disk_of y.environment)) y.environment (x.journal.items ++ event ∷ [])) → IsUnderWay meaning p awaited y
  pushed p before awaited x y event items under next guarded = record {
    running = subst (λ (l : List Event). IsRunning meaning p awaited y.environment l) (sym items)
        (running_push p before awaited x.environment y.environment x.journal.items event under.running next);
    guarded = λ observed. subst (λ (l : List Event). IsGuarded p.most p.st p.start (meaning.history (disk_of y.environment)) y.environment l) (sym items) (guarded observed);
  }

  -- no event more: a call found no memory
  pub kept : (p : Beginning) (x y : Recorded D) → y.journal.items ≡ x.journal.items → IsUnderWay meaning p Nothing x →
      IsAt p.most meaning.observable (now (meaning.history (disk_of y.environment))) y.environment (standing p x) → IsWithin (reach_of y.environment) (reach_of x.environment) → CanGoOn y.environment →
      meaning.faults (disk_of x.environment) ≤ meaning.faults (disk_of y.environment) →
      (meaning.observable ≡ true → IsGuarded p.most p.st p.start (meaning.history (disk_of y.environment)) y.environment x.journal.items) → IsUnderWay meaning p Nothing y
  kept p x y items under here within bounds steps guarded = record {
    running = subst (λ (l : List Event). IsRunning meaning p Nothing y.environment l) (sym items) (record {
      here = here;
      limits = under.running.limits;
      answers = under.running.answers;
      bounded = under.running.bounded;
      near = within_then (reach_of y.environment) (reach_of x.environment) (reach_by p.first p.st x.journal.items) within under.running.near;
      synced = under.running.synced;
      fresh = tt;
      ordered = under.running.ordered;
      steps = under.running.steps;
      sessions = under.running.sessions;
      bounds = bounds;
      caused = caused_later p.faults (meaning.faults (disk_of x.environment)) (meaning.faults (disk_of y.environment)) x.journal.items under.running.caused steps;
    });
    guarded = λ observed. subst (λ (l : List Event). IsGuarded p.most p.st p.start (meaning.history (disk_of y.environment)) y.environment l) (sym items) (guarded observed);
  }

  -- a logged commit that is not only written out waits for a sync
  pub as_synced : (p : Beginning) (x : Recorded D) → IsUnderWay meaning p (Follow NoSync) x → IsUnderWay meaning p (Follow Sync) x
  as_synced p x under = record {
    running = record {
      here = under.running.here;
      limits = under.running.limits;
      answers = under.running.answers;
      bounded = under.running.bounded;
      near = under.running.near;
      synced = under.running.synced;
      fresh = under.running.fresh;
      ordered = under.running.ordered;
      steps = under.running.steps;
      sessions = under.running.sessions;
      bounds = under.running.bounds;
      caused = under.running.caused;
    };
    guarded = under.guarded;
  }

  -- where nothing is awaited a sync may be, unless the environment is invalid
  pub may_sync : (p : Beginning) (x : Recorded D) → (standing p x).fault ≡ None → IsUnderWay meaning p Nothing x → IsUnderWay meaning p (Follow Sync) x
  may_sync p x valid under = record {
    running = record {
      here = under.running.here;
      limits = under.running.limits;
      answers = under.running.answers;
      bounded = under.running.bounded;
      near = under.running.near;
      synced = λ later met. under.running.synced later tt;
      fresh = valid;
      ordered = under.running.ordered;
      steps = under.running.steps;
      sessions = under.running.sessions;
      bounds = under.running.bounds;
      caused = under.running.caused;
    };
    guarded = under.guarded;
  }

  -- a run that begins
  pub started : (p : Beginning) (x : Recorded D) → [] ≡ x.journal.items → Begins meaning p x.environment → IsUnderWay meaning p Nothing x
  started p x none begins = record {
    running = subst (λ (l : List Event). IsRunning meaning p Nothing x.environment l) none begins.running;
    guarded = λ observed. subst (λ (l : List Event). IsGuarded p.most p.st p.start (meaning.history (disk_of x.environment)) x.environment l) none (begins.guarded observed);
  }

  pub starts_calm : (p : Beginning) (x : Recorded D) → [] ≡ x.journal.items → Begins meaning p x.environment → IsCalm p x
  starts_calm p x none begins = subst (λ (l : List Event). first_ready (after_events p.st l) ≡ None) none begins.calm

module _ {D : Type 0} where
  -- where the model stands behind one event more
  pub standing_push : (p : Beginning) (x y : Recorded D) (event : Event) → y.journal.items ≡ x.journal.items ++ event ∷ [] → standing p y ≡ after_event (standing p x) event
  standing_push p x y event items = ap (after_events p.st) items ∙ after_events-append p.st x.journal.items (event ∷ [])

  -- the journal's last event is the one that it has more
  pub last_pushed : (x y : Recorded D) (event : Event) → y.journal.items ≡ x.journal.items ++ event ∷ [] → last_event y ≡ Some event
  last_pushed x y event items = ap (last_after None) items ∙ last_push None x.journal.items event

  -- fewer calls wait, or fewer of them may go on
  pub settles_by : (p : Beginning) (x y : Recorded D) (answer : Answer) (durability : Durability) (awaited : Option Durability) (st : Standing) → standing p y ≡ st → IsAwaitedFor answer durability awaited →
      IsSettling answer (standing p x) st → Settles p (Ok awaited) x y
  settles_by p x y answer durability awaited st is for_ settling = by_case awaited refl where
    now_is : IsSettling answer (standing p x) (standing p y)
    now_is = subst (λ (s : Standing). IsSettling answer (standing p x) s) (sym is) settling

    by_case : (a : Option Durability) → awaited ≡ a → Settles p (Ok a) x y
    by_case None e = ⊎_elim (λ fewer. inl fewer) (λ again. inr (again.1, again.2)) now_is
    by_case (Some d) e = ⊎_elim (λ fewer. fewer) (λ again. (let wrong : None ≡ Some d = sym (for_.other again.0) ∙ e in cc)) now_is

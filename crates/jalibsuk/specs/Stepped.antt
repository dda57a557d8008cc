-- What one event comes to in an environment: all that the environment promises of it, as one fact.
use Rattle.std.specs.Prelude.{ℕ, ◌≡◌, ◌≤◌, ◌++◌, ◌∷◌, [], List, Option, Result, true, IfOk, OnErr}
use Rattle.std.specs.declared.alloc.AllocError.{AllocError}
use Rattle.je_order.specs.Counts.{HasRisen}
use Rattle.je_disk.specs.DiskMeaning.{DiskMeaning}
use Rattle.je_disk.specs.Moments.{History, now}
use Rattle.store_model.specs.declared.answer.Answer.{Answer}
use Rattle.store_model.specs.declared.answer.Answer.TheVariants.{DiskFault}
use Rattle.store_model.specs.declared.call.Call.{Call}
use Rattle.store_model.specs.declared.event.Event.{Event}
use Rattle.store_model.specs.declared.event.Event.TheVariants.{End, WriteOut}
use Rattle.je_answers.specs.Standing.{Standing}
use Rattle.je_answers.specs.After.{after_event, after_events}
use Rattle.je_answers.specs.Events.{IsAnswered}
use Rattle.je_answers.specs.Journal.{attempt_of}
use Rattle.engine.specs.Limits.{IsWithin, reach_after}
use Rattle.engine.specs.Steps.{IsNumbered}
use Rattle.environment.specs.declared.environment.Environment.{Environment}
use Rattle.environment.specs.declared.outcome.Outcome.{Outcome}
use Rattle.environment.specs.Calls.{HasCause, called}
use Rattle.environment.specs.Limits.{owing_after, written_call}
use Rattle.environment.specs.Steps.{Appends}
use Rattle.environment.specs.Whole.{GoesOn, GoesOnSafely, HasDone, HasLimit, IsGuarded, disk_of, reach_of}
use Rattle.jalibsuk.specs.Usable.{StandsAt}

module _ {D : Type 0} (meaning : DiskMeaning D) where
  -- A session's call came to `result`. Wherever the model stood, it is answered as the model answers it there, by evaluation on what the session's
  -- transaction sees; with the limit that the environment had; and a crash at any moment keeps what is promised. Out of memory all is as it was.
  pub record HasStepped (old new : Environment D) (session : ℕ) (call : Call) (result : Result Outcome AllocError) : Type 0 where
    pub goes_on : (most : ℕ) (st : Standing) → StandsAt meaning most old st → GoesOn most meaning.observable (now (meaning.history (disk_of new))) old new st (called session 0 call) st result
    pub exact : (most : ℕ) (st : Standing) → StandsAt meaning most old st
        → IfOk result (λ o. (limit : Option Answer) × HasLimit old (owing_after st session) (written_call st session call) limit × IsAnswered limit st (called session 0 call o))
    pub numbered : (most : ℕ) (st : Standing) → StandsAt meaning most old st → IfOk result (λ o. IsNumbered o.answer (after_event st (called session 0 call o)).commits)
    pub grows : (most : ℕ) (st : Standing) → StandsAt meaning most old st → IsWithin (reach_of new) (reach_after (reach_of old) (written_call st session call))
    pub crash : meaning.observable ≡ true → (most : ℕ) (st : Standing) (start : History) (journal : List Event) → StandsAt meaning most old (after_events st journal)
        → IsGuarded most st start (meaning.history (disk_of old)) old journal → GoesOnSafely most st start (meaning.history (disk_of new)) new journal (called session 0 call) journal result
    pub appends : (most : ℕ) (st : Standing) → StandsAt meaning most old st
        → IfOk result (λ o. Appends meaning old new (written_call st session call) (attempt_of st (called session 0 call o)) o.answer)
    pub same_reach : OnErr result (IsWithin (reach_of new) (reach_of old))
    pub cause : HasCause (meaning.faults (disk_of old)) (meaning.faults (disk_of new)) result

  -- a session has ended: its call that waits is withdrawn, and its transaction aborted
  pub record HasEnded (old new : Environment D) (session : ℕ) : Type 0 where
    pub goes_on : (most : ℕ) (st : Standing) → StandsAt meaning most old st → HasDone most meaning.observable (now (meaning.history (disk_of new))) old new st (End session)
    pub crash : meaning.observable ≡ true → (most : ℕ) (st : Standing) (start : History) (journal : List Event) → StandsAt meaning most old (after_events st journal)
        → IsGuarded most st start (meaning.history (disk_of old)) old journal → IsGuarded most st start (meaning.history (disk_of new)) new (journal ++ End session ∷ [])
    pub within : IsWithin (reach_of new) (reach_of old)
    pub same_disk : disk_of new ≡ disk_of old

  -- the log was written out to its files, with this answer
  pub record HasWritten (old new : Environment D) (answer : Answer) : Type 0 where
    pub goes_on : (most : ℕ) (st : Standing) → StandsAt meaning most old st → HasDone most meaning.observable (now (meaning.history (disk_of new))) old new st (WriteOut answer)
    pub crash : meaning.observable ≡ true → (most : ℕ) (st : Standing) (start : History) (journal : List Event) → StandsAt meaning most old (after_events st journal)
        → IsGuarded most st start (meaning.history (disk_of old)) old journal → IsGuarded most st start (meaning.history (disk_of new)) new (journal ++ WriteOut answer ∷ [])
    pub within : IsWithin (reach_of new) (reach_of old)
    pub never_falls : meaning.faults (disk_of old) ≤ meaning.faults (disk_of new)
    pub cause : answer ≡ DiskFault → HasRisen (meaning.faults (disk_of old)) (meaning.faults (disk_of new))

-- What a call of a session comes to, for all that an environment may stand at.
use Rattle.std.specs.Prelude.{ℕ, ◌≡◌, List, Option, true, Result, IfOk, OnErr}
use Rattle.std.specs.declared.alloc.AllocError.{AllocError}
use Rattle.je_disk.specs.DiskMeaning.{DiskMeaning}
use Rattle.je_disk.specs.Moments.{History, now}
use Rattle.store_model.specs.declared.answer.Answer.{Answer}
use Rattle.store_model.specs.declared.call.Call.{Call}
use Rattle.store_model.specs.declared.event.Event.{Event}
use Rattle.je_answers.specs.Standing.{Standing}
use Rattle.je_answers.specs.After.{after_event, after_events}
use Rattle.je_answers.specs.Events.{IsAnswered}
use Rattle.je_answers.specs.Journal.{attempt_of}
use Rattle.engine.specs.Limits.{IsWithin, reach_after}
use Rattle.engine.specs.Steps.{IsNumbered}
use Rattle.environment.specs.declared.environment.Environment.{Environment}
use Rattle.environment.specs.declared.outcome.Outcome.{Outcome}
use Rattle.environment.specs.Calls.{called}
use Rattle.environment.specs.Limits.{owing_after, written_call}
use Rattle.environment.specs.Steps.{Appends}
use Rattle.environment.specs.Whole.{GoesOn, GoesOnSafely, HasLimit, IsAt, IsGuarded, disk_of, reach_of}

module _ {D : Type 0} where
  -- a call was answered, or there was no memory
  pub record AnswersCall (meaning : DiskMeaning D) (old new : Environment D) (session line : ℕ) (call : Call) (result : Result Outcome AllocError) : Type 0 where
    pub goes_on : (most : ℕ) (st : Standing) → IsAt most meaning.observable (now (meaning.history (disk_of old))) old st
        → GoesOn most meaning.observable (now (meaning.history (disk_of new))) old new st (called session line call) st result
    pub exact : (most : ℕ) (st : Standing) → IsAt most meaning.observable (now (meaning.history (disk_of old))) old st
        → IfOk result (λ o. (limit : Option Answer) × HasLimit old (owing_after st session) (written_call st session call) limit × IsAnswered limit st (called session line call o))
    pub numbered : (most : ℕ) (st : Standing) → IsAt most meaning.observable (now (meaning.history (disk_of old))) old st
        → IfOk result (λ o. IsNumbered o.answer (after_event st (called session line call o)).commits)
    pub grows : (most : ℕ) (st : Standing) → IsAt most meaning.observable (now (meaning.history (disk_of old))) old st
        → IsWithin (reach_of new) (reach_after (reach_of old) (written_call st session call))
    pub crash : meaning.observable ≡ true → (most : ℕ) (st : Standing) (start : History) (journal : List Event)
        → IsAt most meaning.observable (now (meaning.history (disk_of old))) old (after_events st journal)
        → IsGuarded most st start (meaning.history (disk_of old)) old journal
        → GoesOnSafely most st start (meaning.history (disk_of new)) new journal (called session line call) journal result
    pub appends : (most : ℕ) (st : Standing) → IsAt most meaning.observable (now (meaning.history (disk_of old))) old st
        → IfOk result (λ o. Appends meaning old new (written_call st session call) (attempt_of st (called session line call o)) o.answer)
    pub stays : OnErr result (IsWithin (reach_of new) (reach_of old))

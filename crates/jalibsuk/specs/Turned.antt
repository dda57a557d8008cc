-- What one step of maintenance comes to in an environment: all that the environment promises of it, as one fact.
use Rattle.std.specs.Prelude.{ℕ, ◌≡◌, ◌≤◌, List, None, Result, Ok, true, IfOk, OnErr}
use Rattle.std.specs.declared.alloc.AllocError.{AllocError}
use Rattle.je_order.specs.Counts.{HasRisen}
use Rattle.je_disk.specs.DiskMeaning.{DiskMeaning}
use Rattle.je_disk.specs.Moments.{History, now}
use Rattle.store_model.specs.declared.answer.Answer.{Answer}
use Rattle.store_model.specs.declared.answer.Answer.TheVariants.{DiskFault}
use Rattle.store_model.specs.declared.event.Event.{Event}
use Rattle.store_model.specs.declared.event.Event.TheVariants.{Turn}
use Rattle.store_model.specs.declared.step.Step.{Step}
use Rattle.je_answers.specs.Standing.{Standing}
use Rattle.je_answers.specs.After.{after_events}
use Rattle.sessions.specs.AtStanding.{owing}
use Rattle.engine.specs.Limits.{IsWithin}
use Rattle.environment.specs.declared.environment.Environment.{Environment}
use Rattle.environment.specs.Limits.{reach_behind}
use Rattle.environment.specs.Turning.{StepsTo, TurnsSafely, TurnsTo}
use Rattle.environment.specs.Whole.{IsGuarded, disk_of, reach_of}
use Rattle.jalibsuk.specs.Usable.{StandsAt}

module _ {D : Type 0} (meaning : DiskMeaning D) where
  -- A step of maintenance came to `result`. Wherever the model stood, the step is one of the model there; without a fault before, it did to the trees and
  -- the log what it says; and a crash at any moment keeps what is promised. Out of memory the model stands where it stood.
  pub record HasTurned (old new : Environment D) (step : Step) (result : Result Answer AllocError) : Type 0 where
    pub goes_on : (most : ℕ) (st : Standing) (line : ℕ) → StandsAt meaning most old st → TurnsTo most meaning.observable (now (meaning.history (disk_of new))) old new st line step result
    pub steps : (most : ℕ) (st : Standing) → StandsAt meaning most old st → st.fault ≡ None → StepsTo meaning (owing st) old new step result
    pub grows : (most : ℕ) (st : Standing) (line : ℕ) → StandsAt meaning most old st → IfOk result (λ answer. IsWithin (reach_of new) (reach_behind (reach_of old) st (Turn line step answer)))
    pub crash : meaning.observable ≡ true → (most : ℕ) (st : Standing) (start : History) (journal : List Event) (line : ℕ) → StandsAt meaning most old (after_events st journal)
        → IsGuarded most st start (meaning.history (disk_of old)) old journal → TurnsSafely most st start (meaning.history (disk_of new)) new journal line step result
    pub same_reach : OnErr result (IsWithin (reach_of new) (reach_of old))
    pub never_falls : meaning.faults (disk_of old) ≤ meaning.faults (disk_of new)
    pub cause : result ≡ Ok DiskFault → HasRisen (meaning.faults (disk_of old)) (meaning.faults (disk_of new))

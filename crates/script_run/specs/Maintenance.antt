-- Where the steps of maintenance of a script stand in a journal.
use Rattle.std.specs.Prelude.{ℕ, ◌≡◌, ◌≢◌, ◌⊎◌, ◌∷◌, [], List, Option, None, Some}
use Rattle.store_model.specs.declared.step.Step.{Step}
use Rattle.store_model.specs.declared.step.Step.TheVariants.{Sync as SyncStep}
use Rattle.store_model.specs.declared.answer.Answer.{Answer}
use Rattle.store_model.specs.declared.answer.Answer.TheVariants.{Done, Durable, DiskFault}
use Rattle.store_model.specs.declared.event.Event.{Event}
use Rattle.store_model.specs.declared.event.Event.TheVariants.{SyncBegin, SyncEnd, Turn}
use Rattle.je_answers.specs.Standing.{Standing}
use Rattle.je_answers.specs.After.{after_event}
use Rattle.je_answers.specs.Journal.{first_ready}

-- the last event of a journal that began behind this one
abbrev pub last_after : Option Event → List Event → Option Event
last_after last [] = last
last_after last (event ∷ events) = last_after (Some event) events

-- a sync has just failed: the log was not written out, or was not synced
abbrev pub HasSyncFailed : Option Event → Type 0
HasSyncFailed last = (last ≡ Some (SyncBegin DiskFault)) ⊎ (last ≡ Some (SyncEnd DiskFault))

-- A step was given by a line of the script, while no call may go on; the calls that a failed sync lets go on do so behind the step that asked for it.
-- Where a sync that a script asks for is done, a sync that made all commits so far durable has just ended.
pub record IsTurnInPlace (last : Option Event) (st : Standing) (line : ℕ) (step : Step) (answer : Answer) : Type 0 where
  pub given : line ≢ 0
  pub calm : (first_ready st ≡ None) ⊎ ((step ≡ SyncStep) × HasSyncFailed last)
  pub synced : step ≡ SyncStep → answer ≡ Done → last ≡ Some (SyncEnd (Durable st.commits))

-- an event that is a step of maintenance stands where it may; of other events this says nothing
abbrev pub IsStepInPlace : Option Event → Standing → Event → Type 0
IsStepInPlace last st (Turn line step answer) = IsTurnInPlace last st line step answer
IsStepInPlace last st event = Unit {0}

-- each step of a journal that goes on from a standing, behind some event
abbrev pub AreStepsInPlace : Option Event → Standing → List Event → Type 0
AreStepsInPlace last st [] = Unit {0}
AreStepsInPlace last st (event ∷ events) = IsStepInPlace last st event × AreStepsInPlace (Some event) (after_event st event) events

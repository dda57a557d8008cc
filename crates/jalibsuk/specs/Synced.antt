-- A sync of all commits so far, as one call.
use Rattle.std.specs.Prelude.{ℕ, ◌≡◌, ◌⊎◌, ◌≤◌, ◌++◌, ◌∷◌, [], List, None, Some, true}
use Rattle.je_disk.specs.DiskMeaning.{DiskMeaning}
use Rattle.je_disk.specs.Moments.{History}
use Rattle.store_model.specs.declared.answer.Answer.{Answer}
use Rattle.store_model.specs.declared.answer.Answer.TheVariants.{Done, Durable, DiskFault, Invalid}
use Rattle.store_model.specs.declared.answer.Fault.{Fault}
use Rattle.store_model.specs.declared.event.Event.{Event}
use Rattle.store_model.specs.declared.event.Event.TheVariants.{SyncBegin, SyncEnd}
use Rattle.je_answers.specs.Standing.{Standing}
use Rattle.je_answers.specs.After.{after_events}
use Rattle.engine.specs.Limits.{IsWithin}
use Rattle.environment.specs.declared.environment.Environment.{Environment}
use Rattle.environment.specs.Whole.{IsGuarded, disk_of, reach_of}
use Rattle.jalibsuk.specs.Usable.{StandsAt}

-- the events of a sync that is answered so: it failed as it began, or it ended
abbrev pub AreOfSync : List Event → Answer → Type 0
AreOfSync events answer = ((events ≡ SyncBegin DiskFault ∷ []) × (answer ≡ DiskFault)) ⊎ (events ≡ SyncBegin Done ∷ SyncEnd answer ∷ [])

-- each commit so far is durable, or the disk failed
abbrev pub IsDurable : ℕ → Answer → Type 0
IsDurable commits answer = (answer ≡ Durable commits) ⊎ (answer ≡ DiskFault)

module _ {D : Type 0} (meaning : DiskMeaning D) where
  -- a sync of a valid environment was answered so, by these events
  pub record SyncsBy (old new : Environment D) (answer : Answer) (events : List Event) : Type 0 where
    pub are : AreOfSync events answer
    pub goes_on : (most : ℕ) (st : Standing) → StandsAt meaning most old st → st.fault ≡ None → StandsAt meaning most new (after_events st events) × IsDurable st.commits answer
    pub crash : meaning.observable ≡ true → (most : ℕ) (st : Standing) (start : History) (journal : List Event) → StandsAt meaning most old (after_events st journal)
        → (after_events st journal).fault ≡ None → IsGuarded most st start (meaning.history (disk_of old)) old journal
        → IsGuarded most st start (meaning.history (disk_of new)) new (journal ++ events)

  -- what a sync did: nothing in an invalid environment; else it made each commit so far durable, or the disk failed
  pub record HasSynced (old new : Environment D) (answer : Answer) : Type 0 where
    pub valid : (most : ℕ) (st : Standing) → StandsAt meaning most old st → st.fault ≡ None → (events : List Event) × SyncsBy old new answer events
    pub invalid : (most : ℕ) (st : Standing) (first : Fault) → StandsAt meaning most old st → st.fault ≡ Some first → (answer ≡ Invalid first) × (new ≡ old)
    pub within : IsWithin (reach_of new) (reach_of old)
    pub never_falls : meaning.faults (disk_of old) ≤ meaning.faults (disk_of new)

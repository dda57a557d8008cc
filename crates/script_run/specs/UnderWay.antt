-- A run under way.
use Rattle.std.specs.Prelude.{ℕ, ◌≡◌, ◌≤◌, ◌<◌, ◌+◌, ◌⊎◌, List, Option, None, Some, Result, Ok, Err, true, length, vec_capacity, option_map}
use Rattle.std.specs.declared.alloc.AllocError.{AllocError}
use Rattle.std.specs.Option.{is_some}
use Rattle.je_order.specs.Counts.{HasRisen}
use Rattle.je_disk.specs.DiskMeaning.{DiskMeaning}
use Rattle.je_disk.specs.Moments.{History, now}
use Rattle.store_model.specs.declared.answer.Answer.{Answer}
use Rattle.store_model.specs.declared.answer.Answer.TheVariants.{Durable}
use Rattle.store_model.specs.declared.durability.Durability.{Durability}
use Rattle.store_model.specs.declared.event.Event.{Event}
use Rattle.store_model.specs.declared.event.Event.TheVariants.{SyncEnd}
use Rattle.store_model.specs.declared.step.Step.{Step}
use Rattle.store_model.specs.declared.step.Step.TheVariants.{Sync as SyncStep}
use Rattle.store_model.specs.Journal.{is_disk_fault}
use Rattle.je_answers.specs.Standing.{Standing, active_of}
use Rattle.je_answers.specs.After.{AnswersAsModel, after_events}
use Rattle.je_answers.specs.Journal.{AreResumedInOrder, IsFirstReady, first_ready, has_answer, ready_in}
use Rattle.engine.specs.Limits.{IsWithin, Reach}
use Rattle.environment.specs.declared.environment.Environment.{Environment}
use Rattle.environment.specs.Calls.{MayResume}
use Rattle.environment.specs.Limits.{AreBounded}
use Rattle.environment.specs.Whole.{CanGoOn, IsAt, IsGuarded, disk_of, reach_of}
use Rattle.script_run.specs.declared.recorded.Recorded.{Recorded}
use Rattle.script_run.specs.Events.{Awaited, AreSyncedBefore, IsFresh, IsMet, awaited_of, reach_by}
use Rattle.script_run.specs.Events.Awaited.{Nothing}
use Rattle.script_run.specs.Ends.{AreOf}
use Rattle.script_run.specs.Maintenance.{AreStepsInPlace, HasSyncFailed, last_after}

-- where a run began: the most bytes of a log file, how far the log and its trees reached, where the model stood, the disk's history, and how many faults
-- the disk had met
pub record Beginning : Type 0 where
  pub most : ℕ
  pub first : Reach
  pub st : Standing
  pub start : History
  pub faults : ℕ

-- since the disk's count stood at `before` it never fell, and it rose where the journal has a disk fault
pub record IsCaused (before after : ℕ) (journal : List Event) : Type 0 where
  pub never_falls : before ≤ after
  pub fault : has_answer is_disk_fault journal ≡ true → HasRisen before after

module _ {D : Type 0} (meaning : DiskMeaning D) where
  -- A run is under way, whose last event may still wait for something. The environment is where the journal leaves the model; each answer so far is
  -- the model's, within the limits of the log; each commit was followed by what its durability asks for, and the calls that waited went on in order.
  pub record IsRunning (p : Beginning) (awaited : Awaited) (environment : Environment D) (journal : List Event) : Type 0 where
    pub here : IsAt p.most meaning.observable (now (meaning.history (disk_of environment))) environment (after_events p.st journal)
    pub limits : List (Option Answer)
    pub answers : AnswersAsModel p.st limits journal
    pub bounded : AreBounded p.first p.st journal limits
    pub near : IsWithin (reach_of environment) (reach_by p.first p.st journal)
    pub synced : (later : List Event) → IsMet awaited (after_events p.st journal) later → AreSyncedBefore p.st journal later
    pub fresh : IsFresh awaited (after_events p.st journal)
    pub ordered : AreResumedInOrder p.st journal
    pub steps : AreStepsInPlace None p.st journal
    pub sessions : AreOf (λ s. s < 256) (after_events p.st journal).actives
    pub bounds : CanGoOn environment
    pub caused : IsCaused p.faults (meaning.faults (disk_of environment)) journal

  -- and where the disk is observable, it was safe at each moment
  pub record IsUnderWay (p : Beginning) (awaited : Awaited) (x : Recorded D) : Type 0 where
    pub running : IsRunning p awaited x.environment x.journal.items
    pub guarded : meaning.observable ≡ true → IsGuarded p.most p.st p.start (meaning.history (disk_of x.environment)) x.environment x.journal.items

  -- a call was given, and something may be awaited; or there was no memory, and nothing is
  abbrev pub GoesOnWith : Beginning → Result (Option Durability) AllocError → Recorded D → Type 0
  GoesOnWith p (Ok awaited) x = IsUnderWay p (awaited_of awaited) x
  GoesOnWith p (Err error) x = IsUnderWay p Nothing x

module _ {D : Type 0} where
  -- where the model stands now
  abbrev pub standing : Beginning → Recorded D → Standing
  standing p x = after_events p.st x.journal.items

  -- the calls that wait and the transactions under way are those that were
  pub record StandsAlike (p : Beginning) (old new : Recorded D) : Type 0 where
    pub waiting : (standing p new).waiting ≡ (standing p old).waiting
    pub actives : (standing p new).actives ≡ (standing p old).actives

  -- a session has no transaction; and one that had none has none
  abbrev pub IsOutside : Beginning → ℕ → Recorded D → Type 0
  IsOutside p session x = active_of session (standing p x).actives ≡ None

  abbrev pub BeginsNone : Beginning → Recorded D → Recorded D → Type 0
  BeginsNone p old new = (session : ℕ) → IsOutside p session old → IsOutside p session new

  -- no call may go on
  abbrev pub IsCalm : Beginning → Recorded D → Type 0
  IsCalm p x = first_ready (standing p x) ≡ None

  -- the journal's last event
  abbrev pub last_event : Recorded D → Option Event
  last_event x = last_after None x.journal.items

  -- a sync made all commits durable, and no more calls may go on than did; or it failed, and the environment is invalid
  abbrev pub HasSynced : Beginning → Recorded D → Recorded D → Type 0
  HasSynced p old new =
      ((last_event new ≡ Some (SyncEnd (Durable (standing p new).commits))) × (first_ready (standing p new) ≡ first_ready (standing p old)))
      ⊎ (HasSyncFailed (last_event new) × (is_some (standing p new).fault ≡ true))

  -- a step may be taken: no call may go on, or the sync that it asks for failed; unless the environment is invalid, the sync that it asks for is done
  pub record MayTurn (p : Beginning) (step : Step) (x : Recorded D) : Type 0 where
    pub calm : (first_ready (standing p x) ≡ None) ⊎ ((step ≡ SyncStep) × HasSyncFailed (last_event x))
    pub synced : step ≡ SyncStep → (standing p x).fault ≡ None → last_event x ≡ Some (SyncEnd (Durable (standing p x).commits))

  -- this session's call, which that line gave, is the first that may go on
  pub record IsNext (p : Beginning) (session line : ℕ) (x : Recorded D) : Type 0 where
    pub first : option_map {U = ℕ × ℕ} (λ w. (w.session, w.line)) (first_ready (standing p x)) ≡ Some (session, line)
    pub may : MayResume (standing p x) session line

  -- a session may end: no call may go on, or its own is the first that may
  abbrev pub MayEnd : Beginning → ℕ → Recorded D → Type 0
  MayEnd p session x = (first_ready (standing p x) ≡ None) ⊎ IsFirstReady (standing p x) session

  -- fewer calls wait than did, or as many, of which fewer may go on
  abbrev pub HasSettled : Beginning → Recorded D → Recorded D → Type 0
  HasSettled p old new =
      (length (standing p new).waiting < length (standing p old).waiting)
      ⊎ ((length (standing p new).waiting ≡ length (standing p old).waiting) × (ready_in (standing p new) < ready_in (standing p old)))

  -- the same once a call went on: where its commit waits for something, or where its session was ended, fewer calls wait
  abbrev pub Settles : Beginning → Result (Option Durability) AllocError → Recorded D → Recorded D → Type 0
  Settles p (Ok None) old new = HasSettled p old new
  Settles p (Ok (Some durability)) old new = length (standing p new).waiting < length (standing p old).waiting
  Settles p (Err error) old new = length (standing p new).waiting < length (standing p old).waiting

  -- the journal has room for so many events more
  abbrev pub HasRoom : ℕ → Recorded D → Type 0
  HasRoom n x = length x.journal.items + n ≤ vec_capacity x.journal

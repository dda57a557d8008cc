-- Opening and closing.
use Rattle.std.specs.Prelude.{ℕ, ◌≡◌, ◌≤◌, List, None, Bool, true, false, Result, Ok, Err, if◌then◌else◌}
use Rattle.je_order.specs.Counts.{HasRisen}
use Rattle.je_disk.specs.DiskMeaning.{DiskMeaning}
use Rattle.je_disk.specs.Moments.{History, now}
use Rattle.store_model.specs.declared.event.Event.{Event}
use Rattle.store_model.specs.declared.store.Store.{Store}
use Rattle.je_answers.specs.Standing.{Standing}
use Rattle.je_answers.specs.After.{after_events}
use Rattle.engine.specs.Crash.{ImagesMean, IsSafeRun, KeepsEntry}
use Rattle.engine.specs.Files.{MeanStore}
use Rattle.engine.specs.Lengths.{AreLengthsWithin}
use Rattle.engine.specs.Opening.{StopsBy}
use Rattle.engine.specs.Untouched.{IsLeftAlone}
use Rattle.engine.specs.declared.open_err.OpenErr.{OpenErr}
use Rattle.engine.specs.declared.open_err.OpenErr.TheVariants.{Disk, Memory, IdsEnded, Unreadable, WrongIndex}
use Rattle.environment.specs.declared.environment.Environment.{Environment}
use Rattle.environment.specs.Whole.{IsGuarded, IsOpened, IsOpenedSafely, disk_of}
use Rattle.jalibsuk.specs.declared.error.Error.{Error}
use Rattle.jalibsuk.specs.declared.not_opened.NotOpened.{NotOpened}
use Rattle.jalibsuk.specs.declared.error.Error.TheVariants as error
use Rattle.jalibsuk.specs.Usable.{StandsAt}

-- why an environment was not opened
abbrev pub error_of_opening : OpenErr → Error
error_of_opening Disk = error.DiskFault
error_of_opening Memory = error.Memory
error_of_opening IdsEnded = error.IdsEnded
error_of_opening (Unreadable first) = error.Unreadable first
error_of_opening (WrongIndex name) = error.WrongIndex

-- whether closing met a fault of the disk
abbrev pub told_closed : Bool → Result (Unit {0}) Error
told_closed failed = if failed then Err error.DiskFault else Ok tt

module _ {D : Type 0} (meaning : DiskMeaning D) where
  -- the environment that a disk has was opened: the model starts from the store that its files mean
  pub record HasOpened (file_max : ℕ) (disk : D) (environment : Environment D) : Type 0 where
    pub opening : Store
    pub opened : IsOpened file_max meaning.observable (now (meaning.history disk)).reads (now (meaning.history (disk_of environment))) environment opening
    pub crash : meaning.observable ≡ true → IsOpenedSafely file_max (now (meaning.history disk)).reads opening (meaning.history (disk_of environment)) environment
    pub entry : meaning.observable ≡ true → KeepsEntry (meaning.history disk) (meaning.history (disk_of environment))
    pub faults : meaning.faults disk ≤ meaning.faults (disk_of environment)

  -- it was not, by this cause, and the disk was left so
  pub record HasStopped (disk left : D) (e : Error) : Type 0 where
    pub cause : OpenErr
    pub told : e ≡ error_of_opening cause
    pub entry : meaning.observable ≡ true → KeepsEntry (meaning.history disk) (meaning.history left)
    pub stopped : StopsBy meaning.observable (now (meaning.history disk)).reads (meaning.faults disk) (meaning.faults left) cause
    pub faults : meaning.faults disk ≤ meaning.faults left
    pub left_alone : meaning.observable ≡ true → IsLeftAlone cause (meaning.history disk) (meaning.history left)

  abbrev pub IsOpening : {X : Type 0} → ℕ → D → (X → Environment D) → Result X (NotOpened D) → Type 0
  IsOpening file_max disk environment_of (Ok x) = HasOpened file_max disk (environment_of x)
  IsOpening file_max disk environment_of (Err stopped) = HasStopped disk stopped.disk stopped.error

  -- the same where the disk is let go
  abbrev pub IsOpeningAlone : {X : Type 0} → ℕ → D → (X → Environment D) → Result X Error → Type 0
  IsOpeningAlone file_max disk environment_of (Ok x) = HasOpened file_max disk (environment_of x)
  IsOpeningAlone file_max disk environment_of (Err e) = (left : D) × HasStopped disk left e

  -- it was closed, and its disk was left so: the files mean the committed store, unless the disk failed
  pub record HasClosed (old : Environment D) (left : D) (result : Result (Unit {0}) Error) : Type 0 where
    pub failed : Bool
    pub told : result ≡ told_closed failed
    pub crash : meaning.observable ≡ true → (most : ℕ) (st : Standing) (start : History) (journal : List Event) → IsGuarded most st start (meaning.history (disk_of old)) old journal
        → IsSafeRun st start (meaning.history left) journal
    pub images : meaning.observable ≡ true → failed ≡ false → (most : ℕ) (st : Standing) (start : History) (journal : List Event) → StandsAt meaning most old (after_events st journal)
        → IsGuarded most st start (meaning.history (disk_of old)) old journal → (after_events st journal).fault ≡ None
        → ImagesMean start.moment (meaning.history left) (meaning.history left).moment (after_events st journal).store
    pub files : meaning.observable ≡ true → failed ≡ false → (most : ℕ) (st : Standing) → StandsAt meaning most old st → st.fault ≡ None → MeanStore (now (meaning.history left)).reads st.store
    pub lengths : meaning.observable ≡ true → failed ≡ false → (most : ℕ) (st : Standing) (start : History) (journal : List Event) → StandsAt meaning most old (after_events st journal)
        → IsGuarded most st start (meaning.history (disk_of old)) old journal → (after_events st journal).fault ≡ None → AreLengthsWithin most (now start).reads (now (meaning.history left)).reads
    pub cause : failed ≡ true → HasRisen (meaning.faults (disk_of old)) (meaning.faults left)
    pub never_falls : meaning.faults (disk_of old) ≤ meaning.faults left

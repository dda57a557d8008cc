-- A load before it is written.
use Rattle.std.specs.Prelude.{ℕ, ◌≡◌, ◌≤◌, Bool, true, false, Option, Result, Ok, Err, not}
use Rattle.store_model.specs.declared.store.Database.{Database}
use Rattle.std.specs.Option.{is_some}
use Rattle.je_disk.specs.DiskMeaning.{DiskMeaning}
use Rattle.je_disk.specs.Moments.{History, now}
use Rattle.je_disk.specs.States.{synced_crash_states}
use Rattle.store_model.specs.declared.store.Store.{Store}
use Rattle.engine.specs.Crash.{KeepsEntry}
use Rattle.engine.specs.Limits.{IsWithin}
use Rattle.engine.specs.Opening.{StartsAt, reach_in}
use Rattle.environment.specs.declared.environment.Environment.{Environment}
use Rattle.script_run.specs.Running.{Begins}
use Rattle.script_run.specs.UnderWay.{Beginning}
use Rattle.je_program.specs.declared.cause.Cause.{Cause}
use Rattle.je_program.specs.declared.cause.Cause.TheVariants.{NoDatabase, OtherKind}
use Rattle.je_program.specs.Commands.{keeps_otherwise, takes_pairs}

-- why a store of so many databases does not take the pairs of a dump into one of them
abbrev pub IsBar : Cause → Bool → Bool → ℕ → Type 0
IsBar NoDatabase place otherwise line = place ≡ false
IsBar (OtherKind at) place otherwise line = (place ≡ true) × (otherwise ≡ true) × (at ≡ line)
IsBar cause place otherwise line = ⊥

-- whether the database is to be made, where the store takes them
abbrev pub IsPlaceFor : Bool → ℕ → ℕ → Option Database → Result Bool Cause → Type 0
IsPlaceFor dup line count database (Ok make) = (takes_pairs count database ≡ true) × (keeps_otherwise dup database ≡ false) × (make ≡ not (is_some database))
IsPlaceFor dup line count database (Err cause) = IsBar cause (takes_pairs count database) (keeps_otherwise dup database) line

-- An environment was opened over a disk with this history and this count of faults: a run may begin here, nothing was pending then, and the files of
-- entry were kept.
pub record HasStart {D : Type 0} (meaning : DiskMeaning D) (old : History) (before : ℕ) (opening : Store) (p : Beginning) (environment : Environment D) : Type 0 where
  pub starts : StartsAt meaning.observable (now old).reads opening p.st
  pub reach : IsWithin p.first (reach_in starts.held starts.meaning)
  pub stable : meaning.observable ≡ true → (now p.start).crash_states ≡ synced_crash_states (now p.start).reads
  pub entry : meaning.observable ≡ true → KeepsEntry old p.start
  pub earlier : before ≤ p.faults
  pub begins : Begins meaning p environment

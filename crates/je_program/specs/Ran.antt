-- A run that was given all its lines, before it is closed.
use Rattle.std.specs.Prelude.{ℕ, ◌≡◌, ◌≤◌, [], true, false, slice_index_or}
use Rattle.je_disk.specs.DiskMeaning.{DiskMeaning}
use Rattle.je_disk.specs.Moments.{History, now}
use Rattle.je_disk.specs.States.{synced_crash_states}
use Rattle.store_model.specs.declared.store.Store.{Store}
use Rattle.engine.specs.Crash.{KeepsEntry}
use Rattle.engine.specs.Limits.{IsWithin}
use Rattle.engine.specs.Opening.{StartsAt, reach_in}
use Rattle.script_run.specs.declared.running.Running.{Running}
use Rattle.script_run.specs.Ends.{AreEndsInPlace}
use Rattle.script_run.specs.Events.Awaited.{Nothing}
use Rattle.script_run.specs.UnderWay.{Beginning, IsCalm, IsUnderWay, standing}

-- A run that began where an environment was opened over a disk with this history and this count of faults: nothing was pending then, and the files of
-- entry were kept. It is under way still, its sessions end in place, and unless memory ran out none was stopped, no transaction is under way and
-- no call may go on.
pub record HasRun {D : Type 0} (meaning : DiskMeaning D) (old : History) (before : ℕ) (opening : Store) (p : Beginning) (running : Running D) : Type 0 where
  pub starts : StartsAt meaning.observable (now old).reads opening p.st
  pub reach : IsWithin p.first (reach_in starts.held starts.meaning)
  pub stable : meaning.observable ≡ true → (now p.start).crash_states ≡ synced_crash_states (now p.start).reads
  pub entry : meaning.observable ≡ true → KeepsEntry old p.start
  pub earlier : before ≤ p.faults
  pub under : IsUnderWay meaning p Nothing running.recorded
  pub ends : AreEndsInPlace running.stopped p.st running.recorded.journal.items
  pub none_stopped : running.memory_ended ≡ false → (session : ℕ) → slice_index_or running.stopped session false ≡ false
  pub ended : running.memory_ended ≡ false → (standing p running.recorded).actives ≡ []
  pub calm : running.memory_ended ≡ false → IsCalm p running.recorded

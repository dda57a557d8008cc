-- A run of lines: what it has been given, and whom it gives no more.
use Rattle.std.specs.Prelude.{ℕ, ◌≡◌, ◌<◌, ◌++◌, ◌∷◌, [], List, None, true, false, length, slice_index_or}
use Rattle.je_disk.specs.DiskMeaning.{DiskMeaning}
use Rattle.je_answers.specs.Journal.{first_ready}
use Rattle.store_model.specs.declared.event.Event.TheVariants.{End}
use Rattle.store_model.specs.declared.plan.ScriptLine.{ScriptLine}
use Rattle.environment.specs.declared.environment.Environment.{Environment}
use Rattle.environment.specs.Whole.{IsGuarded, disk_of}
use Rattle.script_run.specs.declared.running.Running.{Running}
use Rattle.script_run.specs.Events.Awaited.{Nothing}
use Rattle.script_run.specs.Ends.{AreEndsBelow, AreEndsStopped, HasGained, IsStopped}
use Rattle.script_run.specs.Lines.{HasGiven}
use Rattle.script_run.specs.UnderWay.{Beginning, HasSettled, IsCalm, IsRunning}

module _ {D : Type 0} where
  -- each session has its flag; a run that was halted gives nothing more, and memory had run out
  pub record AreFlags (x : Running D) : Type 0 where
    pub sessions : length x.stopped ≡ 256
    pub memory : x.halted ≡ true → x.memory_ended ≡ true
    pub steps : x.halted ≡ true → x.steps_stopped ≡ true
    pub all : x.halted ≡ true → (session : ℕ) → session < 256 → slice_index_or x.stopped session false ≡ true

  -- the lines of a script that it was given, without those whose session was ended, and the steps behind one that found no memory
  abbrev pub HasLines : Running D → List ScriptLine → Type 0
  HasLines x lines = HasGiven x.recorded.journal.items x.memory_ended x.stopped x.steps_stopped lines

  -- while it gives lines only sessions are ended that were stopped
  abbrev pub EndsStopped : Running D → Type 0
  EndsStopped x = AreEndsStopped x.stopped x.recorded.journal.items

  -- while it ends sessions those were ended that come before this one
  abbrev pub EndsBelow : Beginning → ℕ → Running D → Type 0
  EndsBelow p bound x = AreEndsBelow bound x.stopped p.st x.recorded.journal.items

  -- it went on without a line: only sessions were ended that were stopped, who was stopped stays so, and a run that was halted does
  pub record HasGoneOn (old new : Running D) : Type 0 where
    pub stopped : (session : ℕ) → IsStopped old.stopped session → IsStopped new.stopped session
    pub halted : new.halted ≡ false → old.halted ≡ false
    pub gained : HasGained new.stopped old.recorded.journal.items new.recorded.journal.items

  -- a session was ended
  pub record HasEnded (session : ℕ) (old new : Running D) : Type 0 where
    pub stopped : new.stopped ≡ old.stopped
    pub halted : new.halted ≡ old.halted
    pub ended : new.recorded.journal.items ≡ old.recorded.journal.items ++ End session ∷ []

  -- or there was no room even for its end, and the run was halted
  pub record HasHalted (old new : Running D) : Type 0 where
    pub stopped : (session : ℕ) → IsStopped old.stopped session → IsStopped new.stopped session
    pub halted : new.halted ≡ true
    pub same : new.recorded.journal.items ≡ old.recorded.journal.items

  -- unless it was halted no call may go on
  abbrev pub IsCalmOrHalted : Beginning → Running D → Type 0
  IsCalmOrHalted p x = x.halted ≡ false → IsCalm p x.recorded

  -- unless it was halted the calls that wait came nearer to rest
  abbrev pub HasSettledOrHalted : Beginning → Running D → Running D → Type 0
  HasSettledOrHalted p old new = new.halted ≡ false → HasSettled p old.recorded new.recorded

module _ {D : Type 0} (meaning : DiskMeaning D) where
  -- a run begins here with an environment in which no call may go on
  pub record Begins (p : Beginning) (environment : Environment D) : Type 0 where
    pub running : IsRunning meaning p Nothing environment []
    pub guarded : meaning.observable ≡ true → IsGuarded p.most p.st p.start (meaning.history (disk_of environment)) environment []
    pub calm : first_ready p.st ≡ None

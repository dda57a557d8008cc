use Rattle.std.proofs.Common.{◌≡◌, ◌<◌, ℕ, List, false}
use Rattle.store_model.specs.declared.plan.ScriptLine.{ScriptLine}
use Rattle.script_run.specs.Ends.{HasGrown}
use Rattle.script_run.specs.Events.Awaited.{Nothing}
use Rattle.script_run.specs.UnderWay.{Beginning, IsOutside, IsUnderWay}
use Rattle.script_run.specs.Running.{AreFlags, EndsBelow, EndsStopped, HasLines, IsCalmOrHalted}
use Rattle.script_run.proofs.running.Running.end_sessions.Given as goal

-- the run goes on, and no call may unless it was halted
abbrev pub invariant-loop-session : goal.invariant-loop-session
invariant-loop-session g l =
    record {
      flags : AreFlags l.self;
      goes_on : (p : Beginning) → IsUnderWay g.D.Disk.meaning p Nothing l.initial.self.recorded → IsCalmOrHalted p l.initial.self → IsUnderWay g.D.Disk.meaning p Nothing l.self.recorded;
      calm : (p : Beginning) → IsUnderWay g.D.Disk.meaning p Nothing l.initial.self.recorded → IsCalmOrHalted p l.initial.self → IsCalmOrHalted p l.self;
      ended : (p : Beginning) → IsUnderWay g.D.Disk.meaning p Nothing l.initial.self.recorded → IsCalmOrHalted p l.initial.self → l.self.halted ≡ false → (session : ℕ) → session < l.session → IsOutside p session l.self.recorded;
      ends : (p : Beginning) → IsUnderWay g.D.Disk.meaning p Nothing l.initial.self.recorded → IsCalmOrHalted p l.initial.self → EndsStopped l.initial.self → EndsBelow p l.session l.self;
      grew : HasGrown 0 l.initial.self.recorded.journal.items l.self.recorded.journal.items;
      given : (lines : List ScriptLine) → HasLines l.initial.self lines → HasLines l.self lines;
    }

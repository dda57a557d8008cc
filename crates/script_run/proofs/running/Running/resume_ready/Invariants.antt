use Rattle.std.proofs.Common.{◌*◌, ◌+◌, ◌^◌, List}
use Rattle.store_model.specs.declared.plan.ScriptLine.{ScriptLine}
use Rattle.script_run.specs.Events.Awaited.{Nothing}
use Rattle.script_run.specs.UnderWay.{Beginning, BeginsNone, IsUnderWay}
use Rattle.script_run.specs.Running.{AreFlags, HasGoneOn, HasLines}
use Rattle.script_run.proofs.Resting.{AreCounted}
use Rattle.script_run.proofs.running.Running.resume_ready.Given as goal

-- the run goes on, and its calls that wait are counted
abbrev pub invariant-loop-session : goal.invariant-loop-session
invariant-loop-session g l =
    record {
      flags : AreFlags l.self;
      goes_on : (p : Beginning) → IsUnderWay g.D.Disk.meaning p Nothing l.initial.self.recorded → IsUnderWay g.D.Disk.meaning p Nothing l.self.recorded;
      counts : (p : Beginning) → IsUnderWay g.D.Disk.meaning p Nothing l.initial.self.recorded → AreCounted p l.self.recorded l.waiting l.left;
      begins_none : (p : Beginning) → IsUnderWay g.D.Disk.meaning p Nothing l.initial.self.recorded → BeginsNone p l.initial.self.recorded l.self.recorded;
      gone_on : HasGoneOn l.initial.self l.self;
      given : (lines : List ScriptLine) → HasLines l.initial.self lines → HasLines l.self lines;
    }

-- fewer wait, or fewer of them may go on
abbrev pub decreases-loop-session : goal.decreases-loop-session
decreases-loop-session g l = l.waiting * 2 ^ 64 + l.left

use Rattle.std.proofs.Common.{◌≡◌, true, false}
use Rattle.std.specs.List.{list_all, list_any}
use Rattle.std.specs.Vec.Iter.{into_iter_items}
use Rattle.script_text.specs.Grammar.{is_line}
use Rattle.script_run.specs.Events.Awaited.{Nothing}
use Rattle.script_run.specs.UnderWay.{Beginning, IsUnderWay}
use Rattle.script_run.specs.Pauses.{pauses}
use Rattle.script_run.specs.Running.{AreFlags, EndsStopped, HasLines, IsCalmOrHalted}
use Rattle.script_run.proofs.running.Running.execute_all.Given as goal

-- the run goes on and has not paused, and no call may go on unless it was halted
abbrev pub invariant-loop-given : goal.invariant-loop-given
invariant-loop-given g l =
    record {
      flags : AreFlags l.self;
      goes_on : (p : Beginning) → IsUnderWay g.D.Disk.meaning p Nothing l.initial.self.recorded → IsCalmOrHalted p l.initial.self → IsUnderWay g.D.Disk.meaning p Nothing l.self.recorded;
      calm : (p : Beginning) → IsUnderWay g.D.Disk.meaning p Nothing l.initial.self.recorded → IsCalmOrHalted p l.initial.self → IsCalmOrHalted p l.self;
      ends : EndsStopped l.initial.self → EndsStopped l.self;
      lines : list_all is_line (into_iter_items l.given-iterator) ≡ true;
      given : HasLines l.self l.yielded;
      going : list_any (pauses l.pause) l.self.recorded.journal.items ≡ false;
    }

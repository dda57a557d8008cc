use Rattle.std.proofs.Common.{length, take, drop, ◌-◌, ◌≤◌}
use Rattle.script_text.specs.Report.{NoneWaits, none_begun}
use Rattle.script_text.proofs.waiting.first_waiting.Given as goal

abbrev pub invariant-loop-first : goal.invariant-loop-first
invariant-loop-first l = (l.first ≤ length l.seen) × NoneWaits none_begun (take l.first l.seen) (drop l.first l.seen)

abbrev pub decreases-loop-first : goal.decreases-loop-first
decreases-loop-first l = length l.seen - l.first

use Rattle.std.proofs.Common.{length}
use Rattle.sessions.proofs.Ends.{IsEnding}
use Rattle.sessions.proofs.ending.end_autos.Given as goal

abbrev pub invariant-loop-session : goal.invariant-loop-session
invariant-loop-session l = IsEnding l.victims l.initial.sessions l.sessions

abbrev pub decreases-loop-session : goal.decreases-loop-session
decreases-loop-session l = length l.sessions.txns.actives.items

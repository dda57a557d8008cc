use Rattle.std.proofs.Common.{◌+◌}
use Rattle.sessions.specs.Spares.{HasSpare}
use Rattle.sessions.proofs.spare.buffers_of.Given as goal

abbrev pub invariant-loop : goal.invariant-loop
invariant-loop l = HasSpare l.size (l.counter + 1) l.buffers.items

use Rattle.std.proofs.Common.{◌≡◌, ◌≤◌, ◌+◌, drop, filter, length}
use Rattle.je_program.specs.Commands.{is_kept_pair}
use Rattle.je_program.proofs.output.kept_in.Given as goal

-- those counted so far, and those that are left
abbrev pub invariant-loop-event : goal.invariant-loop-event
invariant-loop-event l = (l.count + length (filter is_kept_pair (drop l.event-index l.journal)) ≡ length (filter is_kept_pair l.journal)) × (l.count ≤ l.event-index)

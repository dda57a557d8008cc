use Rattle.std.proofs.Common.{◌≡◌, ◌≤◌, ◌+◌, drop, filter, length}
use Rattle.je_program.specs.Commands.{is_loaded}
use Rattle.je_program.proofs.output.loaded_in.Given as goal

-- those counted so far, and those that are left
abbrev pub invariant-loop-event : goal.invariant-loop-event
invariant-loop-event l = (l.count + length (filter is_loaded (drop l.event-index l.journal)) ≡ length (filter is_loaded l.journal)) × (l.count ≤ l.event-index)

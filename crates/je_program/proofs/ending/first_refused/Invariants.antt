use Rattle.std.proofs.Common.{◌≡◌, drop}
use Rattle.je_program.specs.Run.{first_refused}
use Rattle.je_program.proofs.ending.first_refused.Given as goal

-- what is left has the first one
abbrev pub invariant-loop-event : goal.invariant-loop-event
invariant-loop-event l = first_refused l.kept (drop l.event-index l.journal) ≡ first_refused l.kept l.journal

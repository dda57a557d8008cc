use Rattle.std.proofs.Common.{◌≡◌, drop}
use Rattle.je_program.specs.Run.{cause_of_room}
use Rattle.je_program.proofs.ending.room_cause.Given as goal

-- what is left gives the cause
abbrev pub invariant-loop-event : goal.invariant-loop-event
invariant-loop-event l = cause_of_room (drop l.event-index l.journal) ≡ cause_of_room l.journal

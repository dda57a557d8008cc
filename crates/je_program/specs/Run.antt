-- How a run ends.
use Rattle.std.specs.Prelude.{ℕ, [], ◌∷◌, List, Option, Some, None, Bool, true, false, if◌then◌else◌}
use Rattle.store_model.specs.declared.answer.Answer.{Answer}
use Rattle.store_model.specs.declared.answer.Answer.TheVariants.{LogFull, IdsEnded, DiskFault}
use Rattle.store_model.specs.declared.event.Event.{Event}
use Rattle.store_model.specs.declared.event.Event.TheVariants.{Call as Called}
use Rattle.store_model.specs.Journal.{answer_of, is_disk_fault}
use Rattle.je_answers.specs.Journal.{has_answer}
use Rattle.load_laws.specs.Given.{is_refusal}
use Rattle.je_program.specs.declared.cause.Cause.{Cause}
use Rattle.je_program.specs.declared.cause.Cause.TheVariants.{Done, Usage, BadScript, BadDump, Disk, Unreadable, WrongIndex, Memory, Findings, NoEnvironment, NoDatabase, OtherKind, RefusedPair, Input, InputTooLong, LogFull as NoRoom, IdsEnded as NoNumbers}

-- the cause that a journal's first answer of LogFull or IdsEnded gives
abbrev pub cause_of_answer : Option Answer → Cause → Cause
cause_of_answer (Some LogFull) later = NoRoom
cause_of_answer (Some IdsEnded) later = NoNumbers
cause_of_answer answer later = later

-- the cause that the first answer of LogFull or IdsEnded gives; done where there is none
abbrev pub cause_of_room : List Event → Cause
cause_of_room [] = Done
cause_of_room (event ∷ events) = cause_of_answer (answer_of event) (cause_of_room events)

-- an answer by which a run may end otherwise than well
abbrev pub ends_otherwise : Answer → Bool
ends_otherwise DiskFault = true
ends_otherwise LogFull = true
ends_otherwise IdsEnded = true
ends_otherwise answer = false

-- how a run with this journal ends, if there was memory for all of it and closing met no fault
abbrev pub cause_of_journal : List Event → Cause
cause_of_journal journal = if has_answer is_disk_fault journal then Disk else cause_of_room journal

-- the line of an event, where that is a call that was refused
abbrev pub refused_line : Bool → Event → Option ℕ
refused_line kept (Called session line call answer victims) = if is_refusal kept answer then Some line else None
refused_line kept event = None

-- the first line that there is of two
abbrev pub line_or : Option ℕ → Option ℕ → Option ℕ
line_or None later = later
line_or (Some line) later = Some line

-- the line of a journal's first call that was refused
abbrev pub first_refused : Bool → List Event → Option ℕ
first_refused kept [] = None
first_refused kept (event ∷ events) = line_or (refused_line kept event) (first_refused kept events)

-- the cause that a refused call gives; done where there is none
abbrev pub cause_of_refusal : Option ℕ → Cause
cause_of_refusal None = Done
cause_of_refusal (Some line) = RefusedPair line

-- how a load ends whose run ended so: by a call that was refused, if no other cause ended it
abbrev pub cause_of_load : Bool → Cause → List Event → Cause
cause_of_load kept Done journal = cause_of_refusal (first_refused kept journal)
cause_of_load kept cause journal = cause

-- whether a script was run to its end and the disk met no fault: all was done, or some calls found no room in the log or no number
abbrev pub is_run_through : Cause → Bool
is_run_through Done = true
is_run_through NoRoom = true
is_run_through NoNumbers = true
is_run_through cause = false

-- the process status of each cause
abbrev pub status_of : Cause → ℕ
status_of Done = 0
status_of Usage = 2
status_of (BadScript line) = 3
status_of (BadDump line) = 3
status_of Disk = 4
status_of (Unreadable corruption) = 5
status_of (WrongIndex name) = 5
status_of Memory = 6
status_of Findings = 9
status_of NoEnvironment = 10
status_of NoDatabase = 10
status_of (OtherKind line) = 3
status_of (RefusedPair line) = 3
status_of Input = 7
status_of InputTooLong = 11
status_of NoRoom = 12
status_of NoNumbers = 12

-- the process status of a cause where the output could not be written
abbrev pub unwritten_status_of : Cause → ℕ
unwritten_status_of Memory = 6
unwritten_status_of cause = 8

-- A journal in which no answer ends the run otherwise than well.
use Rattle.std.proofs.Common.{◌≡◌, ◌||◌, List, [], ◌∷◌, Bool, true, false, Option, Some, None, refl, ◌∙◌}
use Rattle.std.specs.Option.{option_map_or}
use Rattle.store_model.specs.declared.answer.Answer.{Answer}
use Rattle.store_model.specs.declared.answer.Answer.TheVariants.{DiskFault, LogFull, IdsEnded}
use Rattle.store_model.specs.declared.event.Event.{Event}
use Rattle.store_model.specs.Journal.{answer_of, is_disk_fault}
use Rattle.je_answers.specs.Journal.{has_answer}
use Rattle.je_program.specs.declared.cause.Cause.{Cause}
use Rattle.je_program.specs.declared.cause.Cause.TheVariants.{Done}
use Rattle.je_program.specs.Run.{cause_of_answer, cause_of_journal, cause_of_room, ends_otherwise}

-- where one of two tests fails, so does the other
both_fail : (a b c d : Bool) → (a ≡ false → c ≡ false) → (b ≡ false → d ≡ false) → (a || b) ≡ false → (c || d) ≡ false
both_fail true b c d first second none = cc
both_fail false b c d first second none = rw (first refl) (second none)

-- an answer that does not end the run is no disk fault, and leaves the cause to the others
no_fault : (answer : Option Answer) → option_map_or ends_otherwise answer false ≡ false → option_map_or is_disk_fault answer false ≡ false
no_fault None none = refl
no_fault (Some DiskFault) none = cc
no_fault (Some answer) none = refl

leaves_cause : (answer : Option Answer) (later : Cause) → option_map_or ends_otherwise answer false ≡ false → cause_of_answer answer later ≡ later
leaves_cause None later none = refl
leaves_cause (Some LogFull) later none = cc
leaves_cause (Some IdsEnded) later none = cc
leaves_cause (Some answer) later none = refl

front_fails : (a b : Bool) → (a || b) ≡ false → a ≡ false
front_fails true b none = cc
front_fails false b none = refl

rest_fails : (a b : Bool) → (a || b) ≡ false → b ≡ false
rest_fails true b none = cc
rest_fails false b none = none

none_faults : (journal : List Event) → has_answer ends_otherwise journal ≡ false → has_answer is_disk_fault journal ≡ false
none_faults [] none = refl
none_faults (event ∷ events) none =
    both_fail (option_map_or ends_otherwise (answer_of event) false) (has_answer ends_otherwise events) (option_map_or is_disk_fault (answer_of event) false) (has_answer is_disk_fault events)
    (no_fault (answer_of event)) (none_faults events) none

none_full : (journal : List Event) → has_answer ends_otherwise journal ≡ false → cause_of_room journal ≡ Done
none_full [] none = refl
none_full (event ∷ events) none =
    let front = front_fails (option_map_or ends_otherwise (answer_of event) false) (has_answer ends_otherwise events) none in
    let rest = rest_fails (option_map_or ends_otherwise (answer_of event) false) (has_answer ends_otherwise events) none in
    leaves_cause (answer_of event) (cause_of_room events) front ∙ none_full events rest

pub ends_well : (journal : List Event) → has_answer ends_otherwise journal ≡ false → cause_of_journal journal ≡ Done
ends_well journal none = rw (none_faults journal none) (none_full journal none)

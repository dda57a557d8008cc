-- Answers behind which a load gives no further line.
use Rattle.std.specs.Prelude.{◌≡◌, ◌∷◌, [], List, Bool, true, false, not}
use Rattle.store_model.specs.declared.answer.Answer.{Answer}
use Rattle.store_model.specs.declared.answer.Answer.TheVariants.{Done, Txn, Logged, KeyExist}
use Rattle.store_model.specs.declared.event.Event.{Event}
use Rattle.store_model.specs.declared.event.Event.TheVariants.{Call as Called, End}
use Rattle.je_answers.specs.Journal.{lines_of}

-- whether a call was refused, or waits: it is neither done nor logged, nor did it begin a transaction; where what is there may be kept, a put that found
-- its record is none
abbrev pub is_refusal : Bool → Answer → Bool
is_refusal kept Done = false
is_refusal kept (Txn txn) = false
is_refusal kept (Logged commit) = false
is_refusal kept KeyExist = not kept
is_refusal kept answer = true

-- whether an event is a call that was refused
abbrev pub is_refused : Bool → Event → Bool
is_refused kept (Called session line call answer victims) = is_refusal kept answer
is_refused kept event = false

-- behind a call that was refused no line is given
abbrev pub IsLastIfRefused : Bool → Event → List Event → Type 0
IsLastIfRefused kept (Called session line call answer victims) later = is_refusal kept answer ≡ true → lines_of later ≡ []
IsLastIfRefused kept event later = Unit {0}

-- of the calls of a journal only the last may be a refused one
abbrev pub StopsAtRefusal : Bool → List Event → Type 0
StopsAtRefusal kept [] = Unit {0}
StopsAtRefusal kept (event ∷ events) = IsLastIfRefused kept event events × StopsAtRefusal kept events

-- behind the end of session 1 no line is given
abbrev pub IsEndLast : Event → List Event → Type 0
IsEndLast (End session) later = session ≡ 1 → lines_of later ≡ []
IsEndLast event later = Unit {0}

-- and so in a whole journal
abbrev pub AreEndsLast : List Event → Type 0
AreEndsLast [] = Unit {0}
AreEndsLast (event ∷ events) = IsEndLast event events × AreEndsLast events

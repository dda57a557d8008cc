-- What the events of a journal answer and acknowledge.
use Rattle.std.specs.Prelude.{ℕ, nat_le, Bool, true, false, Option, None, Some}
use Rattle.std.specs.Option.{option_map_or}
use Rattle.store_model.specs.declared.answer.Answer.{Answer}
use Rattle.store_model.specs.declared.answer.Answer.TheVariants.{Logged, Durable, DiskFault}
use Rattle.store_model.specs.declared.durability.Durability.{Durability}
use Rattle.store_model.specs.declared.durability.Durability.TheVariants.{WriteNoSync}
use Rattle.store_model.specs.declared.event.Event.{Event}
use Rattle.store_model.specs.declared.event.Event.TheVariants.{Call as Called, Resume, End, WriteOut, SyncBegin, SyncEnd, Turn}

-- what an event answers; the end of a session answers nothing
abbrev pub answer_of : Event → Option Answer
answer_of (Called session line call answer victims) = Some answer
answer_of (Resume session line answer victims) = Some answer
answer_of (End session) = None
answer_of (WriteOut answer) = Some answer
answer_of (SyncBegin answer) = Some answer
answer_of (SyncEnd answer) = Some answer
answer_of (Turn line step answer) = Some answer

-- whether it answers one of a kind
abbrev pub answers_some : (Answer → Bool) → Event → Bool
answers_some test event = option_map_or test (answer_of event) false

-- a commit was answered, whose sync or write-out comes later
abbrev pub is_logged : Answer → Bool
is_logged (Logged commit) = true
is_logged answer = false

-- a disk fault was answered
abbrev pub is_disk_fault : Answer → Bool
is_disk_fault DiskFault = true
is_disk_fault answer = false

-- whether an event acknowledges the commit with that number: a sync each, and a write-out one that waits for no sync
abbrev pub acknowledges : Durability → ℕ → Event → Bool
acknowledges durability commit (SyncEnd (Durable last)) = nat_le commit last
acknowledges WriteNoSync commit (WriteOut (Durable last)) = nat_le commit last
acknowledges durability commit event = false

-- Which commits a journal says are written.
use Rattle.std.specs.Prelude.{ℕ, List, [], ◌∷◌, max}
use Rattle.store_model.specs.declared.answer.Answer.TheVariants.{Durable}
use Rattle.store_model.specs.declared.event.Event.{Event}
use Rattle.store_model.specs.declared.event.Event.TheVariants.{SyncEnd, WriteOut}

-- how many commits an event says the disk reads from then on: a sync's end, which says that they are durable after any crash, and a write
abbrev pub written_by : Event → ℕ
written_by (SyncEnd (Durable commit)) = commit
written_by (WriteOut (Durable commit)) = commit
written_by event = 0

-- the written count: the greatest number that a finished sync or a write said
abbrev pub written_of : List Event → ℕ
written_of [] = 0
written_of (event ∷ events) = max (written_by event) (written_of events)

use Rattle.std.proofs.Common.{◌∙◌, List, map, length, leb, ap, sym, refl}
use Rattle.std.specs.Vec.Iter.{into_iter_items}
use Rattle.node_core.specs.declared.slot.Slot.{Slot}
use Rattle.node_core.specs.declared.slot.Marked.{Marked}
use Rattle.node_core.specs.Sorted.{put_all}
use Rattle.node_core.specs.Changes.{set_now}
use Rattle.node_log.proofs.NodeFromSlots.{no_room}
use Rattle.node_log.proofs.reading.put_slots.Goals as goal

pub returns-then-not-has_room-clause-room : goal.returns-then-not-has_room-clause-room
returns-then-not-has_room-clause-room c =
    let slots = c.loop-slot.node.slots in
    let full = c.if-not-has_room.ensures.full refl in
    let all = ap (λ (l : List Slot). put_all (map set_now l) slots) (sym c.in-Some.ensures.steps.0) ∙ c.loop-slot.invariant.0 in
    sym (ap (λ (l : List Marked). leb (length l) 128) (sym all) ∙ no_room c.in-Some.slot (into_iter_items c.next.new.self) slots full.0 full.1)

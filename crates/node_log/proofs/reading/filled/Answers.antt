use Rattle.std.proofs.Common.{◌≡◌, ◌++◌, ◌∙◌, List, [], map, ap, sym, rules, arith}
use Rattle.std.proofs.lemmas.Grind.{common_steps}
use Rattle.std.specs.Vec.Iter.{into_iter_items}
use Rattle.node_core.specs.declared.slot.Slot.{Slot}
use Rattle.node_core.specs.declared.node.Node.{Node}
use Rattle.node_core.specs.Changes.{set_now}
use Rattle.node_log.proofs.NodeFromSlots.{fills, cleared_is}
use Rattle.node_log.proofs.RisingSlots.{room_left}
use Rattle.node_log.proofs.reading.filled.Goals as goal

pub put_slot-requires : goal.put_slot-requires
put_slot-requires c none =
    room_left c.loop-slot.node.slots c.in-Some.slot (into_iter_items c.next.new.self) c.args.slots
    (ap (λ (l : List Slot). c.loop-slot.node.slots ++ map set_now l) (sym c.in-Some.ensures.steps.0) ∙ c.loop-slot.invariant.0) c.requires.few

pub loop-slot-preserved : goal.loop-slot-preserved
loop-slot-preserved c =
    let put = c.in_ok-put_slot.ensures.ok in
    let is = ap (λ (l : List Slot). c.loop-slot.node.slots ++ map set_now l) (sym c.in-Some.ensures.steps.0) ∙ c.loop-slot.invariant.0 in (
      ap (λ (n : Node). n.slots ++ map set_now (into_iter_items c.next.new.self)) put
          ∙ fills c.loop-slot.node.slots c.in-Some.slot (into_iter_items c.next.new.self) c.args.slots c.requires.rises is,
      ap (λ (n : Node). n.db) put ∙ c.loop-slot.invariant.1,
      ap (λ (n : Node). n.number) put ∙ c.loop-slot.invariant.2,
      ap (λ (n : Node). n.level) put ∙ c.loop-slot.invariant.3,
    )

pub returns : goal.returns
returns c =
    let none : into_iter_items c.loop-slot.slot-iterator ≡ [] = first_of (search rules, grind (arith, common_steps)) in
    cleared_is c.loop-slot.node c.clear_changed.new.self c.args.db c.args.number c.args.level (into_iter_items c.loop-slot.slot-iterator) c.args.slots
    c.clear_changed.ensures.value c.loop-slot.invariant.0 none c.loop-slot.invariant.1 c.loop-slot.invariant.2 c.loop-slot.invariant.3

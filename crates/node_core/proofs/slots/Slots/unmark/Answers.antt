use Rattle.std.proofs.Common.{◌≡◌, ◌∙◌, length, map, ap, arith}
use Rattle.std.proofs.lemmas.List.{length-map}
use Rattle.node_core.specs.Changes.{unmarked}
use Rattle.node_core.proofs.SlotPositions.{are_unmarked, written_over}
use Rattle.node_core.proofs.slots.Slots.unmark.Goals as goal

pub invariant_of-self : goal.invariant_of-self
invariant_of-self c =
    let ms = c.self.inside.marked.items in
    let ns = c.unmark_all.new.marked in
    let is : ns ≡ map unmarked ms = c.unmark_all.ensures ∙ ap (map unmarked) c.as_mut_slice.ensures.value in
    are_unmarked ms _ c.self.invariant (written_over ms ns c.self.inside.marked.len (omega (arith, c.self.inside.marked.ok.0)) (ap length is ∙ length-map ms unmarked) ∙ is)

use Rattle.std.proofs.Common.{◌∙◌, List, refl, subst}
use Rattle.node_core.specs.declared.slot.Marked.{Marked}
use Rattle.node_core.specs.Sorted.{IsAt}
use Rattle.node_core.proofs.slots.Slots.find.Goals as goal

pub returns-then-is_at : goal.returns-then-is_at
returns-then-is_at c =
    subst (λ (ks : List Marked). IsAt c.args.at.now ks c.rank_in-index.result) (c.deref-2.ensures.value ∙ c.self.view_is) (c.if-is_at.ensures.found refl)

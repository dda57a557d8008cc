use Rattle.std.proofs.Common.{List, sym, subst}
use Rattle.node_core.specs.declared.slot.Marked.{Marked}
use Rattle.node_core.specs.Changes.{committed}
use Rattle.node_core.proofs.NodeImages.{GoesOn, cleared_goes_on}
use Rattle.node_core.proofs.node.Node.clear_changed.Goals as goal

pub returns-clause-image : goal.returns-clause-image
returns-clause-image c = λ some.
    subst (λ (ks : List Marked). GoesOn (committed ks) ks) (sym c.unmark.ensures.value) (cleared_goes_on c.args.self.now.slots c.unmark.ensures.slots.rises)

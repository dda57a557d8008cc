use Rattle.std.proofs.Common.{◌∙◌, List, Option, ap₂, subst, sym}
use Rattle.je_order.specs.declared.name.Name.{Name}
use Rattle.tree_nodes.specs.declared.node.Node.{Node}
use Rattle.tree_nodes.specs.Marks.{IsSinceRow, before_at}
use Rattle.tree_nodes.proofs.MarkLaws.{since_row}
use Rattle.tree_nodes.proofs.level.Level.has_before.Goals as goal

pub returns : goal.returns
returns c = λ is.
    subst (IsSinceRow c.args.since) c.self.view_is
    (since_row c.args.since c.self.inside.lows.entries c.self.inside.nodes.items c.self.inside.names.items c.self.inside.due c.self.invariant
    (λ i. ap₂ (λ (nodes : List Node) (names : List (Option Name)). before_at c.args.since names nodes i) (sym c.as_slice.ensures.value) (sym c.as_slice-2.ensures.value) ∙ c.has_before.ensures is i))

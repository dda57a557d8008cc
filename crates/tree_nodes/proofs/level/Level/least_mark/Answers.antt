use Rattle.std.proofs.Common.{◌∙◌, List, Option, ap₂, subst, sym}
use Rattle.je_order.specs.declared.name.Name.{Name}
use Rattle.tree_nodes.specs.declared.node.Node.{Node}
use Rattle.tree_nodes.specs.Nodes.{NodeRow}
use Rattle.tree_nodes.specs.Marks.{IsFromRow, IsMarkOrAt, IsMarkOrOfRow, is_marked_before, mark_at}
use Rattle.tree_nodes.proofs.MarkLaws.{from_row, mark_row}
use Rattle.tree_nodes.proofs.level.Level.least_mark.Goals as goal

pub returns-clause-all : goal.returns-clause-all
returns-clause-all c =
    subst (IsFromRow c.least_mark.result) c.self.view_is
    (from_row c.least_mark.result c.self.inside.lows.entries c.self.inside.nodes.items c.self.inside.names.items c.self.inside.due c.self.invariant
    (λ i. ap₂ (λ (nodes : List Node) (names : List (Option Name)). is_marked_before (mark_at names nodes i) c.least_mark.result) (sym c.as_slice.ensures.value) (sym c.as_slice-2.ensures.value) ∙ c.least_mark.ensures.all i))

pub returns-clause-some : goal.returns-clause-some
returns-clause-some c =
    subst (λ (row : NodeRow). IsMarkOrOfRow c.args.bound row c.least_mark.result) c.self.view_is
    (mark_row c.args.bound c.self.inside.lows.entries c.self.inside.nodes.items c.self.inside.names.items c.self.inside.due c.least_mark.result c.self.invariant
    (subst (λ (names : List (Option Name)). IsMarkOrAt c.args.bound names c.self.inside.nodes.items c.least_mark.result) c.as_slice-2.ensures.value
    (subst (λ (nodes : List Node). IsMarkOrAt c.args.bound c.as_slice-2.result.now nodes c.least_mark.result) c.as_slice.ensures.value c.least_mark.ensures.some)))

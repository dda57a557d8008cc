use Rattle.std.proofs.Common.{◌∙◌, ap, sym}
use Rattle.std.specs.Ordering.{is_eq}
use Rattle.je_order.specs.Edges.Edge.{Behind}
use Rattle.je_order.proofs.Orderings.{equal_from_test, name_exact}
use Rattle.je_order.specs.Order.{name_cmp}
use Rattle.cursor_je.specs.Looks.{edge_in, name_in}
use Rattle.cursor_je.proofs.name_edge.NameEdge.is_behind.Goals as goal

pub returns-in-Behind : goal.returns-in-Behind
returns-in-Behind c same =
    let a = name_in c.in-Behind.edge in
    let b = name_in c.args.name.now in
    ap edge_in c.in-Behind.is ∙ ap Behind (name_exact a b (equal_from_test (name_cmp a b) (sym (c.is_eq.ensures ∙ ap is_eq c.cmp_name.ensures) ∙ same)))

use Rattle.std.proofs.Common.{◌∙◌, ap, sym}
use Rattle.std.specs.Ordering.{is_ge}
use Rattle.je_order.specs.Edges.{is_below}
use Rattle.cursor_je.specs.Looks.{name_in, edge_in}
use Rattle.cursor_je.proofs.EdgeLaws.{below_behind_key}
use Rattle.cursor_je.proofs.name_edge.NameEdge.is_above.Goals as goal

pub returns-in-BehindKey : goal.returns-in-BehindKey
returns-in-BehindKey c =
    c.is_ge-in-BehindKey.ensures ∙ ap is_ge c.cmp_bytes.ensures ∙ below_behind_key c.in-BehindKey.key.now (name_in c.args.name.now)
    ∙ sym (ap (λ edge. is_below (edge_in edge) (name_in c.args.name.now)) c.in-BehindKey.is)

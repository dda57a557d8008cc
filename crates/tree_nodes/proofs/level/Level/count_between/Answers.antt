use Rattle.std.proofs.Common.{◌∙◌, ap, filter, length, option_copied}
use Rattle.std.specs.Map.{keys_of}
use Rattle.je_order.specs.Edges.{is_between}
use Rattle.je_order.specs.Edges.Edge.{At}
use Rattle.record_map.specs.Cells.{upper_edge}
use Rattle.tree_nodes.specs.Nodes.{NodeRow}
use Rattle.tree_nodes.proofs.LowLaws.{lows_counted}
use Rattle.tree_nodes.proofs.level.Level.count_between.Goals as goal

pub returns : goal.returns
returns c =
    let inside = is_between (At c.args.low.now) (upper_edge (option_copied c.args.high)) in
    c.count_lows.ensures ∙ lows_counted inside c.self.inside.lows.entries c.self.inside.nodes.items ∙ ap (λ (row : NodeRow). length (filter inside (keys_of row))) c.self.view_is

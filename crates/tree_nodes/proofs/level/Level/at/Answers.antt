use Rattle.std.proofs.Common.{◌∙◌, ap, sym, Some, option_map}
use Rattle.record_map.specs.Cells.{value_at}
use Rattle.tree_nodes.specs.Nodes.{node_at}
use Rattle.tree_nodes.proofs.Places.{value_placed, read_at}
use Rattle.tree_nodes.proofs.level.Level.at.Goals as goal

pub returns-in-Some : goal.returns-in-Some
returns-in-Some c =
    ap Some (read_at c.self.inside.nodes.items c.in-Some.place.now c.index.result.now (c.self.invariant.places.within c.args.low.now c.in-Some.place.now (sym c.in-Some.ensures.value)) c.index.ensures)
    ∙ ap (option_map (node_at c.self.inside.nodes.items)) c.in-Some.ensures.value
    ∙ sym (value_placed c.args.low.now c.self.inside.lows.entries c.self.inside.nodes.items)
    ∙ ap (value_at c.args.low.now) c.self.view_is

pub returns-in-None : goal.returns-in-None
returns-in-None c =
    ap (option_map (node_at c.self.inside.nodes.items)) c.in-None.ensures.value
    ∙ sym (value_placed c.args.low.now c.self.inside.lows.entries c.self.inside.nodes.items)
    ∙ ap (value_at c.args.low.now) c.self.view_is

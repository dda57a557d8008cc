use Rattle.std.proofs.Common.{◌≡◌, sym, subst, IsSome}
use Rattle.record_map.specs.Cells.{value_at}
use Rattle.tree_nodes.specs.declared.node.Node.{Node}
use Rattle.tree_nodes.specs.Nodes.{NodeRow, least, IsOver, node_at, placed}
use Rattle.tree_nodes.proofs.Places.{is_low, over_placed, read_at}
use Rattle.std.proofs.Common.{◌∙◌, ap}
use Rattle.std.specs.Map.{keys_of}
use Rattle.tree_nodes.specs.Lows.{low_up_to}
use Rattle.tree_nodes.proofs.LowLaws.{low_found}
use Rattle.tree_nodes.proofs.level.Level.over.Goals as goal

pub low_over-place-requires : goal.low_over-place-requires
low_over-place-requires c = is_low least c.self.inside.lows.entries c.self.inside.nodes.items (subst (λ (row : NodeRow). IsSome (value_at least row)) (sym c.self.view_is) c.requires)

pub returns-clause-over : goal.returns-clause-over
returns-clause-over c =
    let found = c.low_over-place.result in
    let same : c.index.result.now ≡ node_at c.self.inside.nodes.items found.1 =
    read_at c.self.inside.nodes.items found.1 c.index.result.now (c.self.invariant.places.within found.0.now found.1 c.low_over-place.ensures.over.there) c.index.ensures in
    subst (λ (row : NodeRow). IsOver row c.args.name.now (found.0.now, c.index.result.now)) c.self.view_is
    (subst (λ (n : Node). IsOver (placed c.self.inside.lows.entries c.self.inside.nodes.items) c.args.name.now (found.0.now, n)) (sym same)
    (over_placed c.self.inside.lows.entries c.self.inside.nodes.items c.args.name.now (found.0.now, found.1) c.low_over-place.ensures.over))

pub returns-clause-low : goal.returns-clause-low
returns-clause-low c =
    let found = c.low_over-place.result in
    low_found c.self.inside.lows.entries c.self.inside.nodes.items c.args.name.now (found.0.now, found.1) c.low_over-place.ensures.last
    ∙ ap (λ (row : NodeRow). low_up_to c.args.name.now (keys_of row)) c.self.view_is

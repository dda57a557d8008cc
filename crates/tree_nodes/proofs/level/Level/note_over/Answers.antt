use Rattle.std.proofs.Common.{◌≡◌, ◌∙◌, IsSome, ap, subst, sym, set, true, ◌||◌, option_map}
use Rattle.record_map.specs.Cells.{value_at}
use Rattle.tree_nodes.specs.declared.node.Node.{Node}
use Rattle.tree_nodes.specs.Nodes.{NodeRow, least, HasPut, placed, node_at, noted_as}
use Rattle.tree_nodes.specs.Noted.{is_low_over, noted_row}
use Rattle.tree_nodes.proofs.LowLaws.{low_found}
use Rattle.tree_nodes.proofs.NoteLaws.{noted_over}
use Rattle.tree_nodes.proofs.Places.{is_low, sets, rising_placed, read_at, value_placed}
use Rattle.tree_nodes.proofs.DuePlaces.{due_set}
use Rattle.tree_nodes.proofs.level.Level.note_over.Goals as goal

pub low_over-place-requires : goal.low_over-place-requires
low_over-place-requires c = is_low least c.self.inside.lows.entries c.self.inside.nodes.items (subst (λ (row : NodeRow). IsSome (value_at least row)) (sym c.self.view_is) c.requires)

pub returns-clause-noted : goal.returns-clause-noted
returns-clause-noted c =
    let lows = c.self.inside.lows.entries in
    let nodes = c.self.inside.nodes.items in
    let found = c.low_over-place.result in
    let same : c.index.result.now ≡ node_at nodes found.1 = read_at nodes found.1 c.index.result.now (c.self.invariant.places.within found.0.now found.1 c.low_over-place.ensures.over.there) c.index.ensures in
    let put : HasPut (placed lows nodes) (placed lows (set nodes found.1 c.noted.result)) found.0.now (noted_as true (node_at nodes found.1)) =
    subst (λ (n : Node). HasPut (placed lows nodes) (placed lows (set nodes found.1 c.noted.result)) found.0.now n) (c.noted.ensures ∙ ap (noted_as true) same)
    (sets lows nodes found.0.now found.1 c.noted.result c.self.invariant.places c.low_over-place.ensures.over.there) in
    subst (λ (row : NodeRow). placed lows (set nodes found.1 c.noted.result) ≡ noted_row (λ e. e.1.noted || is_low_over row c.args.name.now e.0) row) c.self.view_is
    (noted_over (placed lows nodes) (placed lows (set nodes found.1 c.noted.result)) c.args.name.now found.0.now (node_at nodes found.1) (rising_placed lows nodes c.self.invariant.places.rising)
    (rising_placed lows (set nodes found.1 c.noted.result) c.self.invariant.places.rising) (value_placed found.0.now lows nodes ∙ ap (option_map (node_at nodes)) c.low_over-place.ensures.over.there)
    (low_found lows nodes c.args.name.now (found.0.now, found.1) c.low_over-place.ensures.last) put)

pub returns-clause-rising : goal.returns-clause-rising
returns-clause-rising c = rising_placed c.self.inside.lows.entries (set c.self.inside.nodes.items c.low_over-place.result.1 c.noted.result) c.self.invariant.places.rising

pub invariant_of-self : goal.invariant_of-self
invariant_of-self c =
    let found = c.low_over-place.result in
    due_set c.self.inside.lows.entries c.self.inside.nodes.items c.self.inside.names.items c.self.inside.due found.1 c.noted.result c.as_slice.result.now c.as_slice-2.result.now c.note_due.new.due c.self.invariant
    (c.self.invariant.places.within found.0.now found.1 c.low_over-place.ensures.over.there) c.as_slice.ensures.value c.as_slice-2.ensures.value c.note_due.ensures

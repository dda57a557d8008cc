use Rattle.std.proofs.Common.{subst}
use Rattle.tree_nodes.specs.Nodes.{NodeRow, HasTaken, placed}
use Rattle.tree_nodes.proofs.DuePlaces.{due_without, place_within}
use Rattle.tree_nodes.proofs.Places.{takes, takes_places, rising_placed}
use Rattle.tree_nodes.proofs.level.Level.remove.Goals as goal

pub forget-requires-clause-within : goal.forget-requires-clause-within
forget-requires-clause-within c =
    (place_within c.self.inside.lows.entries c.self.inside.nodes.items c.self.inside.names.items c.self.inside.due c.args.low.now c.place_at-place.result c.self.invariant c.place_at-place.ensures).0

pub forget-requires-clause-covers : goal.forget-requires-clause-covers
forget-requires-clause-covers c =
    (place_within c.self.inside.lows.entries c.self.inside.nodes.items c.self.inside.names.items c.self.inside.due c.args.low.now c.place_at-place.result c.self.invariant c.place_at-place.ensures).1

pub returns-clause-taken : goal.returns-clause-taken
returns-clause-taken c =
    subst (λ (row : NodeRow). HasTaken row (placed c.remove.new.self.entries c.self.inside.nodes.items) c.args.low.now) c.self.view_is
    (takes c.self.inside.lows.entries c.remove.new.self.entries c.self.inside.nodes.items c.args.low.now c.remove.ensures.updates.0)

pub returns-clause-rising : goal.returns-clause-rising
returns-clause-rising c = rising_placed c.remove.new.self.entries c.self.inside.nodes.items c.remove.ensures.ordered

pub invariant_of-self : goal.invariant_of-self
invariant_of-self c =
    due_without c.self.inside.lows.entries c.remove.new.self.entries c.self.inside.nodes.items c.self.inside.names.items c.forget.new.names.items c.self.inside.due c.forget.new.due c.args.low.now c.place_at-place.result c.self.invariant
    c.place_at-place.ensures c.remove.ensures.updates.0
    (takes_places c.self.inside.lows.entries c.remove.new.self.entries c.self.inside.nodes.items c.args.low.now c.self.invariant.places c.remove.ensures.updates.0 c.remove.ensures.entries c.remove.ensures.ordered)
    c.forget.ensures.names c.forget.ensures.due

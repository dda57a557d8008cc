use Rattle.std.proofs.Common.{IsSome, subst, sym, set}
use Rattle.record_map.specs.Cells.{value_at}
use Rattle.tree_nodes.specs.Nodes.{NodeRow, HasPut, placed}
use Rattle.tree_nodes.proofs.Places.{is_low, sets, rising_placed}
use Rattle.tree_nodes.proofs.DuePlaces.{due_set}
use Rattle.tree_nodes.proofs.level.Level.set.Goals as goal

pub place_of-place-requires : goal.place_of-place-requires
place_of-place-requires c =
    is_low c.args.low.now c.self.inside.lows.entries c.self.inside.nodes.items (subst (λ (row : NodeRow). IsSome (value_at c.args.low.now row)) (sym c.self.view_is) c.requires)

pub returns-clause-put : goal.returns-clause-put
returns-clause-put c =
    subst (λ (row : NodeRow). HasPut row (placed c.self.inside.lows.entries (set c.self.inside.nodes.items c.place_of-place.result c.args.node)) c.args.low.now c.args.node) c.self.view_is
    (sets c.self.inside.lows.entries c.self.inside.nodes.items c.args.low.now c.place_of-place.result c.args.node c.self.invariant.places c.place_of-place.ensures)

pub returns-clause-rising : goal.returns-clause-rising
returns-clause-rising c = rising_placed c.self.inside.lows.entries (set c.self.inside.nodes.items c.place_of-place.result c.args.node) c.self.invariant.places.rising

pub invariant_of-self : goal.invariant_of-self
invariant_of-self c =
    due_set c.self.inside.lows.entries c.self.inside.nodes.items c.self.inside.names.items c.self.inside.due c.place_of-place.result c.args.node c.as_slice.result.now c.as_slice-2.result.now c.note_due.new.due c.self.invariant
    (c.self.invariant.places.within c.args.low.now c.place_of-place.result c.place_of-place.ensures) c.as_slice.ensures.value c.as_slice-2.ensures.value c.note_due.ensures

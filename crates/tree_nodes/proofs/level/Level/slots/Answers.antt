use Rattle.std.proofs.Common.{◌≡◌, ◌∙◌, List, IfOk, map, ap, subst, sym, length, ℕ, ◌<◌, option_copied}
use Rattle.std.specs.List.{AllByRecursion}
use Rattle.je_order.specs.Edges.{is_between}
use Rattle.je_order.specs.Edges.Edge.{At}
use Rattle.je_order.specs.declared.name.Name.{Name}
use Rattle.record_map.specs.Cells.{between_edges, upper_edge}
use Rattle.tree_nodes.specs.declared.node.Node.{Node}
use Rattle.tree_nodes.specs.Nodes.{NodeRow, placed}
use Rattle.tree_nodes.specs.Levels.{slot_of}
use Rattle.tree_nodes.proofs.Places.{all_passed, passed_placed}
use Rattle.tree_nodes.proofs.level.Level.slots.Goals as goal

pub slots_of-requires : goal.slots_of-requires
slots_of-requires c =
    let upto = upper_edge (option_copied c.args.high) in
    subst (AllByRecursion (λ (e : Name × ℕ). e.1 < length c.as_slice.result.now)) (sym c.lows_between.ensures)
    (all_passed (is_between (At c.args.low.now) upto) (length c.as_slice.result.now) c.self.inside.lows.entries
    (subst (λ (nodes : List Node). AllByRecursion (λ (e : Name × ℕ). e.1 < length nodes) c.self.inside.lows.entries) (sym c.as_slice.ensures.value) c.self.invariant.places.each))

pub returns : goal.returns
returns c =
    let upto = upper_edge (option_copied c.args.high) in
    let lows = c.self.inside.lows.entries in
    let nodes = c.self.inside.nodes.items in
    let first : placed c.lows_between.result c.as_slice.result.now ≡ placed (between_edges (At c.args.low.now) upto lows) nodes =
    ap (λ (l : List (Name × ℕ)). placed l c.as_slice.result.now) c.lows_between.ensures ∙ ap (placed (between_edges (At c.args.low.now) upto lows)) c.as_slice.ensures.value in
    let same : placed c.lows_between.result c.as_slice.result.now ≡ between_edges (At c.args.low.now) upto c.args.self.now =
    first ∙ passed_placed (is_between (At c.args.low.now) upto) lows nodes ∙ ap (between_edges (At c.args.low.now) upto) c.self.view_is in
    subst (λ (row : NodeRow). IfOk c.slots_of.result (λ slots. slots ≡ map slot_of row)) same c.slots_of.ensures

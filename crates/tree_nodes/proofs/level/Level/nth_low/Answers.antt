use Rattle.std.proofs.Common.{◌≡◌, ◌∙◌, ℕ, List, Option, IfOk, ap, subst, filter, option_copied, option_map}
use Rattle.std.specs.List.{slice_get}
use Rattle.std.specs.Map.{keys_of}
use Rattle.je_order.specs.Edges.{is_between}
use Rattle.je_order.specs.Edges.Edge.{At}
use Rattle.je_order.specs.declared.name.Name.{Name}
use Rattle.record_map.specs.Cells.{upper_edge}
use Rattle.tree_nodes.specs.Nodes.{NodeRow}
use Rattle.tree_nodes.proofs.LowLaws.{low_nth}
use Rattle.tree_nodes.proofs.level.Level.nth_low.Goals as goal

pub returns : goal.returns
returns c =
    let inside = is_between (At c.args.low.now) (upper_edge (option_copied c.args.high)) in
    let same = ap (λ (lows : List (Name × ℕ)). option_map (λ (e : Name × ℕ). e.0) (slice_get lows c.args.n)) c.lows_between.ensures
    ∙ low_nth inside c.self.inside.lows.entries c.self.inside.nodes.items c.args.n
    ∙ ap (λ (row : NodeRow). slice_get (filter inside (keys_of row)) c.args.n) c.self.view_is in
    subst (λ (o : Option Name). IfOk c.nth_name.result (λ found. found ≡ o)) same c.nth_name.ensures

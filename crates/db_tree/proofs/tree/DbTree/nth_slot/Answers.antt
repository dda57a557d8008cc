use Rattle.std.proofs.Common.{◌≡◌, ◌∙◌, ap, subst, List, Option, IfOk, option_copied}
use Rattle.std.specs.List.{slice_get}
use Rattle.je_order.specs.Edges.{is_between}
use Rattle.je_order.specs.Edges.Edge.{At}
use Rattle.je_order.specs.declared.name.Name.{Name}
use Rattle.record_map.specs.declared.cell.Cell.{Cell}
use Rattle.record_map.specs.Cells.{upper_edge}
use Rattle.tree_nodes.specs.Lows.{lows_of}
use Rattle.db_tree.specs.Splitting.{name_of}
use Rattle.db_tree.proofs.SplitPlans.{bin_nth, in_names}
use Rattle.db_tree.proofs.tree.DbTree.nth_slot.Goals as goal

pub returns-then-level-eq0 : goal.returns-then-level-eq0
returns-then-level-eq0 c =
    let p = is_between (At c.args.low.now) (upper_edge (option_copied c.args.high)) in
    let same = ap (λ (cells : List (Name × Cell)). name_of (slice_get cells c.args.n)) c.between.ensures.cells
    ∙ bin_nth p c.args.self.now.cells (lows_of c.args.self.now.levels) c.args.level c.args.n c.if-level-eq0.true in
    subst (λ (o : Option Name). IfOk c.nth_name.result (λ found. found ≡ o)) same c.nth_name.ensures

pub returns : goal.returns
returns c =
    let p = is_between (At c.args.low.now) (upper_edge (option_copied c.args.high)) in
    subst (λ (names : List Name). IfOk c.nth_low.result (λ found. found ≡ slice_get names c.args.n)) (in_names p c.args.self.now.cells c.args.self.now.levels c.args.level c.if-level-eq0.false) c.nth_low.ensures

use Rattle.std.proofs.Common.{◌∙◌, sym, ap, List, refl, length, arith}
use Rattle.je_order.specs.Edges.{is_below}
use Rattle.je_order.specs.declared.name.Name.{Name}
use Rattle.record_map.specs.declared.cell.Cell.{Cell}
use Rattle.record_map.specs.Cells.{edge_of, last_of}
use Rattle.db_tree.specs.Seen.{occupied}
use Rattle.db_tree.proofs.Seen.{occupied_rises}
use Rattle.db_tree.proofs.ReadCells.{occupied_passed, passed_few}
use Rattle.db_tree.proofs.tree.DbTree.last_below.Goals as goal

pub last_occupied-requires : goal.last_occupied-requires
last_occupied-requires c =
    let few = passed_few (is_below (edge_of c.args.upto)) c.args.self.now.cells in
    let count = c.len-count.ensures.value in
    let cells = ap length c.in-Some.ensures.cells in
    omega (arith, few, count, cells)

pub returns-in-Some-clause-found : goal.returns-in-Some-clause-found
returns-in-Some-clause-found c =
    c.last_occupied.ensures
    ∙ ap (λ (l : List (Name × Cell)). last_of (occupied l)) c.in-Some.ensures.cells
    ∙ ap last_of (occupied_passed (is_below (edge_of c.args.upto)) c.args.self.now.cells)

pub returns-in-Some-clause-rising : goal.returns-in-Some-clause-rising
returns-in-Some-clause-rising c = occupied_rises c.args.self.now.cells c.len-count.ensures.rising

pub returns-in-None-clause-found : goal.returns-in-None-clause-found
returns-in-None-clause-found c = sym (ap last_of (sym (occupied_passed (is_below (edge_of c.args.upto)) c.args.self.now.cells) ∙ ap occupied (c.in-None.ensures.none refl)))

pub returns-in-None-clause-rising : goal.returns-in-None-clause-rising
returns-in-None-clause-rising c = occupied_rises c.args.self.now.cells c.len-count.ensures.rising

use Rattle.std.proofs.Common.{◌∙◌, sym, ap, List, refl}
use Rattle.je_order.specs.Edges.{is_between}
use Rattle.je_order.specs.Edges.Edge.{End}
use Rattle.je_order.specs.declared.name.Name.{Name}
use Rattle.record_map.specs.declared.cell.Cell.{Cell}
use Rattle.record_map.specs.Cells.{edge_of, first_of}
use Rattle.db_tree.specs.Seen.{occupied}
use Rattle.db_tree.proofs.Seen.{occupied_rises}
use Rattle.db_tree.proofs.ReadCells.{occupied_passed}
use Rattle.db_tree.proofs.tree.DbTree.next.Goals as goal

pub returns-in-Some-clause-found : goal.returns-in-Some-clause-found
returns-in-Some-clause-found c =
    c.first_occupied.ensures
    ∙ ap (λ (l : List (Name × Cell)). first_of (occupied l)) c.in-Some.ensures.cells
    ∙ ap first_of (occupied_passed (is_between (edge_of c.args.from) End) c.args.self.now.cells)

pub returns-in-Some-clause-rising : goal.returns-in-Some-clause-rising
returns-in-Some-clause-rising c = occupied_rises c.args.self.now.cells c.iter_from.ensures.rising

pub returns-in-None-clause-found : goal.returns-in-None-clause-found
returns-in-None-clause-found c = sym (ap first_of (sym (occupied_passed (is_between (edge_of c.args.from) End) c.args.self.now.cells) ∙ ap occupied (c.in-None.ensures.none refl)))

pub returns-in-None-clause-rising : goal.returns-in-None-clause-rising
returns-in-None-clause-rising c = occupied_rises c.args.self.now.cells c.iter_from.ensures.rising

use Rattle.db_tree.proofs.PlaceLaws.{cell_gone, cell_same}
use Rattle.db_tree.proofs.tree.DbTree.take_cell.Goals as goal

pub returns-then-is_new-clause-cells : goal.returns-then-is_new-clause-cells
returns-then-is_new-clause-cells c = λ before made. cell_gone c.args.self.now.cells c.remove.new.self before c.args.name.now c.args.is_new c.if-is_new.true c.remove.ensures.rising c.remove.ensures.others made

pub returns-else-is_new-clause-cells : goal.returns-else-is_new-clause-cells
returns-else-is_new-clause-cells c = λ before made. cell_same c.args.self.now.cells before c.args.name.now c.args.is_new c.if-is_new.false made

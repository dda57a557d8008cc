use Rattle.std.proofs.Common.{◌∙◌}
use Rattle.db_tree.proofs.PlaceLaws.{levels_back}
use Rattle.db_tree.proofs.tree.DbTree.take_back.Goals as goal

pub returns-clause-levels : goal.returns-clause-levels
returns-clause-levels c = λ before is.
    levels_back c.args.name.now c.args.room.now before c.args.self.now c.as_slice.result.now c.as_slice-2.result.now c.take_cell.new.self.levels c.restore_all.new.self.levels c.shrink.new.self.levels is c.as_slice.ensures.value c.as_slice-2.ensures.value c.take_cell.ensures.levels
    c.restore_all.ensures.back c.shrink.ensures.back

pub returns-clause-cells : goal.returns-clause-cells
returns-clause-cells c = λ before is. c.shrink.ensures.cells ∙ c.restore_all.ensures.cells ∙ c.take_cell.ensures.cells before.cells is.cells

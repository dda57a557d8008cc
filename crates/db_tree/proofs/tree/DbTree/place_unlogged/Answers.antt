use Rattle.std.proofs.Common.{◌∙◌, sym}
use Rattle.db_tree.proofs.PlaceLaws.{cell_kept}
use Rattle.db_tree.proofs.WaitingNodes.{none_split}
use Rattle.db_tree.proofs.tree.DbTree.place_unlogged.Goals as goal

pub returns-then-has_cell-clause-cell : goal.returns-then-has_cell-clause-cell
returns-then-has_cell-clause-cell c = cell_kept c.args.self.now.cells c.args.name.now (sym c.has_cell.ensures ∙ c.if-has_cell.true)

pub returns-then-has_cell-clause-split : goal.returns-then-has_cell-clause-split
returns-then-has_cell-clause-split c = none_split c.args.first c.args.fanout c.args.name.now c.args.self.now c.height-height.ensures.parts (sym c.has_cell.ensures ∙ c.if-has_cell.true)

use Rattle.std.proofs.Common.{◌∙◌, refl, sym, ap, length}
use Rattle.in_tree.proofs.StoredLaws.{cells_from_first, from_first}
use Rattle.in_tree.proofs.stored.cells_of.Goals as goal

pub returns-in_err-cells-clause-none : goal.returns-in_err-cells-clause-none
returns-in_err-cells-clause-none c = λ _. sym (cells_from_first c.args.trees.now c.args.db c.in_ok-tree.tree.now c.in_ok-tree.ensures.value) ∙ c.in_err-cells.ensures.none refl

pub returns-clause-cells : goal.returns-clause-cells
returns-clause-cells c = c.in_ok-cells.ensures.cells ∙ cells_from_first c.args.trees.now c.args.db c.in_ok-tree.tree.now c.in_ok-tree.ensures.value

pub returns-clause-count : goal.returns-clause-count
returns-clause-count c = c.len.ensures.value ∙ ap length (sym (from_first c.in_ok-tree.tree.now.cells) ∙ sym c.in_ok-cells.ensures.cells)

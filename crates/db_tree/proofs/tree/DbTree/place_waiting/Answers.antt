use Rattle.std.proofs.Common.{◌∙◌, subst, sym}
use Rattle.db_tree.proofs.PlaceLaws.{cell_moved, few_placed, raised_is}
use Rattle.db_tree.proofs.WaitingNodes.{split_low, split_high}
use Rattle.db_tree.specs.Notes.{AreUnnotedSince}
use Rattle.db_tree.proofs.tree.DbTree.place_waiting.Goals as goal

pub returns-then-not-is_raised-clause-cell : goal.returns-then-not-is_raised-clause-cell
returns-then-not-is_raised-clause-cell c =
    cell_moved c.args.self.now.cells c.grow.new.self.cells c.put_new.new.self.cells c.wait_each.new.self.cells c.args.name.now c.in_ok-grow.ensures.cells c.wait_each.ensures.cells c.in-Ok.ensures.cell

pub returns-clause-cell : goal.returns-clause-cell
returns-clause-cell c =
    cell_moved c.args.self.now.cells c.grow.new.self.cells c.put_new.new.self.cells c.wait.new.self.cells c.args.name.now c.in_ok-grow.ensures.cells (c.wait.ensures.cells ∙ c.wait_each.ensures.cells) c.in-Ok.ensures.cell

pub returns-clause-few : goal.returns-clause-few
returns-clause-few c =
    few_placed c.args.splits.now c.args.self.now.levels c.grow.new.self.levels c.put_new.new.self.levels c.wait_each.new.self.levels c.wait.new.self.levels c.in_ok-grow.ensures.waits c.in-Ok.ensures.levels c.wait_each.ensures.few c.wait.ensures.few
    (raised_is c.args.splits.now c.args.self.now.levels c.height.result c.height.ensures.value c.if-not-is_raised.false)

pub returns-then-not-is_raised-clause-split : goal.returns-then-not-is_raised-clause-split
returns-then-not-is_raised-clause-split c =
    split_low c.args.first c.args.splits.now c.args.self.now.levels c.grow.new.self.levels c.put_new.new.self.levels c.wait_each.new.self.levels c.height.result c.height.ensures.value c.if-not-is_raised.true c.height-grown.ensures.parts
    c.in_ok-grow.ensures.grown c.in_ok-grow.ensures.lows c.in_ok-grow.ensures.numbers c.in-Ok.ensures.levels c.wait_each.ensures.waiting

pub returns-clause-split : goal.returns-clause-split
returns-clause-split c =
    split_high c.args.first c.args.splits.now c.args.self.now.levels c.grow.new.self.levels c.put_new.new.self.levels c.wait_each.new.self.levels c.wait.new.self.levels c.height.result _ c.height.ensures.value c.if-not-is_raised.false c.height-grown.ensures.parts
    c.in_ok-grow.ensures.grown c.in_ok-grow.ensures.lows c.in_ok-grow.ensures.numbers c.in-Ok.ensures.levels c.wait_each.ensures.waiting c.in_ok-root.ensures c.wait.ensures.waiting

pub returns-then-not-is_raised-clause-since : goal.returns-then-not-is_raised-clause-since
returns-then-not-is_raised-clause-since c = λ all. c.wait_each.ensures.since (subst (AreUnnotedSince c.args.mark) (sym c.in-Ok.ensures.levels) (c.in_ok-grow.ensures.since all))

pub returns-clause-since : goal.returns-clause-since
returns-clause-since c = λ all. c.wait.ensures.since (c.wait_each.ensures.since (subst (AreUnnotedSince c.args.mark) (sym c.in-Ok.ensures.levels) (c.in_ok-grow.ensures.since all)))

pub returns-then-not-is_raised-clause-tree : goal.returns-then-not-is_raised-clause-tree
returns-then-not-is_raised-clause-tree c = λ es base newest behind tree. c.wait_each.ensures.tree es base newest (c.in-Ok.ensures.tree es base newest (c.in_ok-grow.ensures.tree es base newest behind tree))

pub returns-clause-tree : goal.returns-clause-tree
returns-clause-tree c = λ es base newest behind tree. c.wait.ensures.tree es base newest (c.wait_each.ensures.tree es base newest (c.in-Ok.ensures.tree es base newest (c.in_ok-grow.ensures.tree es base newest behind tree)))

use Rattle.std.proofs.Common.{drop, ◌+◌}
use Rattle.in_tree.proofs.Preparation.{drops_begin, drops_turn, drops_step, drops_end}
use Rattle.in_tree.proofs.preparing.drop_made.Goals as goal

pub loop-change-init : goal.loop-change-init
loop-change-init c = drops_begin c.args.trees.now c.args.changes.now

pub loop-change-preserved : goal.loop-change-preserved
loop-change-preserved c =
    let i = c.loop-change.change-index in
    let changes = c.args.changes.now in
    drops_step c.args.trees.now c.loop-change.trees c.drop_one.new.trees changes (drop (i + 1) changes) c.change-item.result
    (drops_turn c.args.trees.now c.loop-change.trees changes i c.change-item.result c.loop-change-test.true c.change-item.is c.loop-change.invariant) c.drop_one.ensures

pub returns : goal.returns
returns c = drops_end c.args.trees.now c.loop-change.trees c.args.changes.now c.loop-change.change-index c.loop-change-test.false c.loop-change.invariant

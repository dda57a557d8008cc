use Rattle.std.proofs.Common.{◌∙◌}
use Rattle.db_tree.proofs.GrowLaws.{splits_next}
use Rattle.db_tree.proofs.tree.DbTree.split_each.Goals as goal

pub loop-level-preserved : goal.loop-level-preserved
loop-level-preserved c =
    let done = c.in-Ok.ensures in
    splits_next c.args.first c.args.self.now.levels c.loop-level.self.levels c.split_one.new.self.levels c.args.self.now.cells c.loop-level.self.cells c.split_one.new.self.cells c.loop-level.level c.args.splits.now
    c.index-splits-level.result c.loop-level-test.true done.lows done.waits c.split_one.ensures.cells c.split_one.ensures.tree done.split (done.number ∙ c.saturating_add-number.ensures) c.loop-level.invariant

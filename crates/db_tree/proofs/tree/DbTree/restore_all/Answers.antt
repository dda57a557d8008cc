use Rattle.std.proofs.Common.{refl, ◌∙◌}
use Rattle.db_tree.proofs.ForcedLaws.{restored, restore_begin, restore_more}
use Rattle.db_tree.proofs.tree.DbTree.restore_all.Goals as goal

pub loop-i-init : goal.loop-i-init
loop-i-init c = record { forced = restore_begin c.args.images.now c.args.self.now.levels c.height-height.ensures.parts; cells = refl }

pub loop-i-preserved : goal.loop-i-preserved
loop-i-preserved c = record {
  forced = restore_more c.args.images.now c.loop-i.i c.index-images-i.result c.args.self.now.levels c.loop-i.self.levels c.restore_one.new.self.levels c.loop-i-test.true c.index-images-i.is c.loop-i.invariant.forced c.restore_one.ensures.forced;
  cells = c.restore_one.ensures.cells ∙ c.loop-i.invariant.cells;
}

pub returns-clause-back : goal.returns-clause-back
returns-clause-back c = λ before cleared all. restored before c.args.self.now.levels c.loop-i.self.levels c.args.images.now c.loop-i.i c.loop-i-test.false cleared all c.loop-i.invariant.forced

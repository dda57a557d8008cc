use Rattle.std.proofs.Common.{false, refl, ◌∙◌}
use Rattle.db_tree.proofs.ForcedLaws.{clear_begin, force_more, force_end}
use Rattle.db_tree.proofs.tree.DbTree.clear_all.Goals as goal

pub loop-i-init : goal.loop-i-init
loop-i-init c = record { forced = clear_begin c.args.images.now c.args.self.now.levels c.height-height.ensures.parts; cells = refl; tree = λ es base newest tree. tree }

pub loop-i-preserved : goal.loop-i-preserved
loop-i-preserved c = record {
  forced = force_more false c.args.images.now c.loop-i.i c.index-images-i.result c.args.self.now.levels c.loop-i.self.levels c.clear_one.new.self.levels c.loop-i-test.true c.index-images-i.is c.loop-i.invariant.forced c.clear_one.ensures.forced;
  cells = c.clear_one.ensures.cells ∙ c.loop-i.invariant.cells;
  tree = λ es base newest tree. c.clear_one.ensures.tree es base newest (c.loop-i.invariant.tree es base newest tree);
}

pub returns-clause-forced : goal.returns-clause-forced
returns-clause-forced c = force_end false c.args.images.now c.loop-i.i c.args.self.now.levels c.loop-i.self.levels c.loop-i-test.false c.loop-i.invariant.forced

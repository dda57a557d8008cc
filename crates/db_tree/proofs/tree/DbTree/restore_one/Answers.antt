use Rattle.db_tree.proofs.ForcedLaws.{restore_this, restore_none}
use Rattle.db_tree.proofs.tree.DbTree.restore_one.Goals as goal

pub returns-then-image-clause-forced : goal.returns-then-image-clause-forced
returns-then-image-clause-forced c = restore_this c.args.image.now c.args.self.now.levels c.set_forced.new.self.levels c.if-image.true c.set_forced.ensures.forced

pub returns-else-image-clause-forced : goal.returns-else-image-clause-forced
returns-else-image-clause-forced c = restore_none c.args.image.now c.args.self.now.levels c.height-height.ensures.parts c.if-image.false

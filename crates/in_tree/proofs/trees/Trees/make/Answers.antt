use Rattle.in_tree.proofs.Checked.{none_there}
use Rattle.in_tree.proofs.trees.Trees.make.Goals as goal

pub make-requires : goal.make-requires
make-requires c = none_there c.args.self.now.forest c.args.db c.requires

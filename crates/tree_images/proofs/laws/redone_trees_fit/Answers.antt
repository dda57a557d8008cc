use Rattle.tree_images.proofs.RedoneTrees.{redone_fit}
use Rattle.tree_images.proofs.laws.redone_trees_fit.Goals as goal

pub returns : goal.returns
returns c = redone_fit

use Rattle.tree_images.proofs.Roots.{roots_right, roots_read}
use Rattle.tree_images.proofs.laws.roots_are_right.Goals as goal

pub returns-clause-right : goal.returns-clause-right
returns-clause-right c = roots_right

pub returns-clause-read : goal.returns-clause-read
returns-clause-read c = roots_read

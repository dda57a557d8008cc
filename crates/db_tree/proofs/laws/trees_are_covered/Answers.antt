use Rattle.db_tree.proofs.Covering.{covered}
use Rattle.db_tree.proofs.laws.trees_are_covered.Goals as goal

pub returns : goal.returns
returns c = covered

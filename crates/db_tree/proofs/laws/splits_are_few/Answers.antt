use Rattle.db_tree.proofs.FewSplits.{images_few, nodes_few}
use Rattle.db_tree.proofs.laws.splits_are_few.Goals as goal

pub returns-clause-images : goal.returns-clause-images
returns-clause-images c = images_few

pub returns-clause-nodes : goal.returns-clause-nodes
returns-clause-nodes c = nodes_few

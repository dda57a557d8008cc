use Rattle.tree_images.proofs.Grown.{homes_agree, root_home}
use Rattle.tree_images.proofs.Splits.{splits_of_nodes, grown_nodes}
use Rattle.tree_images.proofs.laws.nodes_are_split.Goals as goal

pub returns-clause-homes : goal.returns-clause-homes
returns-clause-homes c = homes_agree

pub returns-clause-splits : goal.returns-clause-splits
returns-clause-splits c = splits_of_nodes

pub returns-clause-grown : goal.returns-clause-grown
returns-clause-grown c = grown_nodes

pub returns-clause-root : goal.returns-clause-root
returns-clause-root c = root_home

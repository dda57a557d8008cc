use Rattle.db_tree.proofs.Contents.{bins_show}
use Rattle.db_tree.proofs.Children.{ins_show}
use Rattle.db_tree.proofs.laws.images_show_their_nodes.Goals as goal

pub returns-clause-bins : goal.returns-clause-bins
returns-clause-bins c = bins_show

pub returns-clause-ins : goal.returns-clause-ins
returns-clause-ins c = ins_show

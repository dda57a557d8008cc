use Rattle.tree_images.proofs.Read.{read_fit, unread_fit}
use Rattle.tree_images.proofs.ReadForest.{forests_fit}
use Rattle.tree_images.proofs.laws.read_trees_fit.Goals as goal

pub returns-clause-read : goal.returns-clause-read
returns-clause-read c = read_fit

pub returns-clause-unread : goal.returns-clause-unread
returns-clause-unread c = unread_fit

pub returns-clause-forests : goal.returns-clause-forests
returns-clause-forests c = forests_fit

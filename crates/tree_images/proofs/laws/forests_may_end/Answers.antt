use Rattle.tree_images.proofs.LatestNewest.{latest_are_newest}
use Rattle.tree_images.proofs.ForestEnds.{forests_may_end}
use Rattle.tree_images.proofs.laws.forests_may_end.Goals as goal

pub returns-clause-newest : goal.returns-clause-newest
returns-clause-newest c = latest_are_newest

pub returns-clause-end : goal.returns-clause-end
returns-clause-end c = forests_may_end

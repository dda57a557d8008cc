use Rattle.tree_images.proofs.Newest.{newest_stays, commits_newest}
use Rattle.tree_images.proofs.laws.newest_changes_rise.Goals as goal

pub returns-clause-stays : goal.returns-clause-stays
returns-clause-stays c = newest_stays

pub returns-clause-commits : goal.returns-clause-commits
returns-clause-commits c = commits_newest

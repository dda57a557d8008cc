use Rattle.txn_views.proofs.ViewLaws.{views-are_seen}
use Rattle.txn_views.proofs.laws.views_are_seen.Goals as goal

pub returns : goal.returns
returns c = views-are_seen

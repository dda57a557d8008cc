use Rattle.txn_views.proofs.OwnLaws.{none-is_last}
use Rattle.txn_views.proofs.laws.none_is_last.Goals as goal

pub returns : goal.returns
returns c = none-is_last

use Rattle.txn_views.proofs.RightLaws.{changes-are_right}
use Rattle.txn_views.proofs.laws.changes_are_right.Goals as goal

pub returns : goal.returns
returns c = changes-are_right

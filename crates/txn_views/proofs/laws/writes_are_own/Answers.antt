use Rattle.txn_views.proofs.WriteLaws.{writes-are_own}
use Rattle.txn_views.proofs.laws.writes_are_own.Goals as goal

pub returns : goal.returns
returns c = writes-are_own

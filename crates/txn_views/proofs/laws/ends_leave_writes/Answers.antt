use Rattle.txn_views.proofs.EndLaws.{ends-leave_writes}
use Rattle.txn_views.proofs.laws.ends_leave_writes.Goals as goal

pub returns : goal.returns
returns c = ends-leave_writes

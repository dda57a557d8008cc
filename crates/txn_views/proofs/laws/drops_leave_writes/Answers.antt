use Rattle.txn_views.proofs.EndLaws.{drops-leave_writes}
use Rattle.txn_views.proofs.laws.drops_leave_writes.Goals as goal

pub returns : goal.returns
returns c = drops-leave_writes

use Rattle.std.proofs.Common.{◌≡◌, false, subst}
use Rattle.std.specs.List.{AllByRecursion}
use Rattle.lock_table.specs.Locks.{is_range}
use Rattle.lock_table.specs.Records.{queue_at}
use Rattle.lock_table.specs.Table.{locks_at, is_among}
use Rattle.lock_table.proofs.RangeLocks.{none_ranged, nobody}
use Rattle.lock_table.proofs.table.LockTable.has_ranges.Goals as goal

pub returns : goal.returns
returns c = λ h r. subst (λ v. AllByRecursion (λ o. is_range o.mode ≡ false) (locks_at r v).0) c.self.view_is
    (none_ranged (is_among c.self.inside.ranging) (queue_at r c.self.inside.queues.entries) (nobody c.self.inside.ranging c.is_empty.result c.is_empty.ensures.0 h) (c.self.invariant.1 r))

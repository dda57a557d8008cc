use Rattle.std.proofs.Common.{drop}
use Rattle.std.specs.List.{list_any}
use Rattle.lock_table.specs.Locks.{after_read}
use Rattle.lock_table.specs.Records.{is_record, queue_at}
use Rattle.lock_table.specs.declared.record_id.RecordId.{RecordId}
use Rattle.lock_table.proofs.RecordWalks.{IsDone}
use Rattle.lock_table.proofs.calls.read_back_each.Given as goal

abbrev pub invariant-loop-at : goal.invariant-loop-at
invariant-loop-at l = (r : RecordId) → IsDone (after_read l.txn) (queue_at r l.initial.queues.entries) (queue_at r l.queues.entries) (list_any (is_record r) l.list) (list_any (is_record r) (drop l.at-index l.list))

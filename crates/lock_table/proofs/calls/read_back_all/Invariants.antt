use Rattle.lock_table.specs.Locks.{after_read}
use Rattle.lock_table.specs.Records.{queue_at}
use Rattle.lock_table.specs.Table.{is_in_one}
use Rattle.lock_table.specs.declared.record_id.RecordId.{RecordId}
use Rattle.lock_table.proofs.RecordWalks.{IsDone}
use Rattle.lock_table.proofs.calls.read_back_all.Given as goal

abbrev pub invariant-loop-list : goal.invariant-loop-list
invariant-loop-list l = (r : RecordId) → IsDone (after_read l.txn) (queue_at r l.initial.queues.entries) (queue_at r l.queues.entries) (is_in_one l.dbs.entries r) (is_in_one l.list-iterator r)

use Rattle.lock_table.specs.Table.{at_txn, is_among, is_used}
use Rattle.lock_table.proofs.UsedDatabases.{used_more, used_asked_in}
use Rattle.lock_table.proofs.RangeLocks.{ranges_more, ranges_asked_in}
use Rattle.lock_table.proofs.NotedReads.{noted_wider, noted_asked_in}
use Rattle.lock_table.specs.Records.{queue_at}
use Rattle.lock_table.proofs.table.LockTable.ask.Goals as goal

pub invariant_of-self-2 : goal.invariant_of-self-2
invariant_of-self-2 c = (
  c.ask_in.ensures.table,
  ranges_asked_in c.ask_in.result (is_among c.note_range.new.ranging) (record { records = c.self.inside.queues.entries; pending = c.self.inside.pending.entries }) (record { records = c.ask_in.new.queues.entries; pending = c.ask_in.new.pending.entries })
      c.args.at.now (record { txn = c.args.txn; mode = c.args.asked }) (λ r. ranges_more (is_among c.self.inside.ranging) (is_among c.note_range.new.ranging) (queue_at r c.self.inside.queues.entries) c.note_range.ensures.kept (c.self.invariant.1 r))
      c.in_ok-note_range.ensures.noted c.ask_in.ensures.queues c.ask_in.ensures.err,
  noted_asked_in c.ask_in.result (λ t. at_txn t c.note_read.new.reading.entries) (record { records = c.self.inside.queues.entries; pending = c.self.inside.pending.entries }) (record { records = c.ask_in.new.queues.entries; pending = c.ask_in.new.pending.entries })
      c.args.at.now (record { txn = c.args.txn; mode = c.args.asked }) (λ r. noted_wider (λ t. at_txn t c.self.inside.reading.entries) (λ t. at_txn t c.note_read.new.reading.entries) (queue_at r c.self.inside.queues.entries) c.note_read.ensures.kept (c.self.invariant.2 r))
      c.in_ok-note_read.ensures.noted c.ask_in.ensures.queues c.ask_in.ensures.err,
  used_asked_in c.ask_in.result (is_used c.note_db.new.dbs) (record { records = c.self.inside.queues.entries; pending = c.self.inside.pending.entries }) (record { records = c.ask_in.new.queues.entries; pending = c.ask_in.new.pending.entries })
      c.args.at.now (record { txn = c.args.txn; mode = c.args.asked }) (used_more (is_used c.self.inside.dbs) (is_used c.note_db.new.dbs) (λ r. queue_at r c.self.inside.queues.entries) c.note_db.ensures.kept c.self.invariant.3)
      c.in_ok-note_db.ensures.noted c.ask_in.ensures.queues c.ask_in.ensures.err,
)

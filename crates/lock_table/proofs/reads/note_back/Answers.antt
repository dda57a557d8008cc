use Rattle.lock_table.specs.Table.{at_txn}
use Rattle.lock_table.proofs.NotedReads.{raised_wider, raised_back}
use Rattle.lock_table.proofs.reads.note_back.Goals as goal

pub returns-clause-kept : goal.returns-clause-kept
returns-clause-kept c = raised_wider (λ t. at_txn t c.args.reading.now.entries) (λ t. at_txn t c.note_there.new.reading.entries) c.args.txn c.was_plain.result c.note_there.ensures.noted

pub returns-clause-back : goal.returns-clause-back
returns-clause-back c = raised_back (λ t. at_txn t c.args.reading.now.entries) (λ t. at_txn t c.note_there.new.reading.entries) c.args.txn c.args.was c.was_plain.result c.note_there.ensures.noted c.was_plain.ensures

use Rattle.lock_table.specs.Table.{is_used}
use Rattle.lock_table.proofs.UsedDatabases.{used_empty}
use Rattle.lock_table.proofs.dbs.forget_dbs.Goals as goal

pub returns-then-is_empty : goal.returns-then-is_empty
returns-then-is_empty c = used_empty (is_used c.clear.new.self) c.args.queues.now.entries (c.is_empty.ensures.0 c.if-is_empty.true)

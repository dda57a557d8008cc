use Rattle.lock_table.proofs.RecordLists.{listed_now}
use Rattle.lock_table.proofs.listed.list_new.Goals as goal

pub returns-clause-listed : goal.returns-clause-listed
returns-clause-listed c = λ n. listed_now c.args.txn c.args.at.now _ _ (c.in_ok-list_at.ensures.ok c.args.txn c.args.at.now) n _

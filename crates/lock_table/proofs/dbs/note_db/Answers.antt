use Rattle.lock_table.proofs.RangeLocks.{still_in}
use Rattle.lock_table.proofs.dbs.note_db.Goals as goal

pub returns-clause-kept : goal.returns-clause-kept
returns-clause-kept c = λ d h. still_in _ _ _ (c.in_ok-insert.ensures.updates.0 d) h

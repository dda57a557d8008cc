use Rattle.lock_table.proofs.RangeLocks.{still_in}
use Rattle.lock_table.proofs.ranges.note_range.Goals as goal

pub returns-in_ok-insert-clause-kept : goal.returns-in_ok-insert-clause-kept
returns-in_ok-insert-clause-kept c = λ t h. still_in _ _ _ (c.in_ok-insert.ensures.updates.0 t) h

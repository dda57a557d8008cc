use Rattle.std.proofs.Common.{ap, ◌∙◌}
use Rattle.lock_table.specs.Locks.{after_cancel}
use Rattle.lock_table.proofs.WholeTable.{cancel_asked}
use Rattle.lock_table.proofs.calls.wait_there.Goals as goal

pub returns-in-Err-clause-err : goal.returns-in-Err-clause-err
returns-in-Err-clause-err c = c.cancel.ensures ∙ (ap (after_cancel c.args.lock.txn) c.in_ok-ask.ensures.ok ∙ cancel_asked c.args.lock c.args.queue.now c.requires.free c.requires.blocked)

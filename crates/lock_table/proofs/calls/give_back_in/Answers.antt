use Rattle.std.proofs.Common.{ap, sym, ◌∙◌}
use Rattle.lock_table.specs.Locks.{has_lock}
use Rattle.lock_table.specs.Records.{queue_at}
use Rattle.lock_table.proofs.CallSteps.{given_out}
use Rattle.lock_table.proofs.calls.give_back_in.Goals as goal

pub returns-clause-lists : goal.returns-clause-lists
returns-clause-lists c = λ t r n. given_out t r c.args.at.now c.args.txn (λ x. queue_at x c.give_back_at.new.queues.entries) _ (ap (has_lock c.args.txn) (sym c.owners_at.ensures) ∙ (sym c.is_in.ensures ∙ c.if-is_in.false)) (ap (has_lock c.args.txn) (sym c.waits_at.ensures) ∙ (sym c.is_in-2.ensures ∙ c.if-is_in-2.false)) (c.unlist_at.ensures t r n)

use Rattle.std.proofs.Common.{ap, sym, ◌∙◌}
use Rattle.std.specs.Option.{is_some}
use Rattle.lock_table.specs.Locks.{blocker}
use Rattle.lock_table.proofs.CallSteps.{blocked_some}
use Rattle.lock_table.proofs.calls.ask_there.Goals as goal

pub grant_there-requires : goal.grant_there-requires
grant_there-requires c = record { clear = blocked_some c.args.lock c.args.queue.now.0 ∙ (ap (λ os. is_some (blocker c.args.lock os)) (sym c.owners.ensures) ∙ sym (ap is_some c.in_default.ensures)) }

pub wait_there-requires-clause-blocked : goal.wait_there-requires-clause-blocked
wait_there-requires-clause-blocked c = blocked_some c.args.lock c.args.queue.now.0 ∙ (ap (λ os. is_some (blocker c.args.lock os)) (sym c.owners.ensures) ∙ sym (ap is_some c.in-Some.ensures))

use Rattle.std.proofs.Common.{sym, ◌∙◌}
use Rattle.txn_locks.proofs.Backs.{one_back, none_back}
use Rattle.txn_locks.proofs.undoing.give_back_one.Goals as goal

pub returns-then-is_some : goal.returns-then-is_some
returns-then-is_some c = one_back c.args.txn c.args.got.now c.args.locks.now c.give_back.new.self c.held.result c.held.ensures (sym c.is_some.ensures ∙ c.if-is_some.true) c.give_back.ensures.locks c.give_back.ensures.pending

pub returns-else-is_some : goal.returns-else-is_some
returns-else-is_some c = none_back c.args.txn c.args.got.now c.args.locks.now c.held.result c.held.ensures (sym c.is_some.ensures ∙ c.if-is_some.false)

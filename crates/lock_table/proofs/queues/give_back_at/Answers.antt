use Rattle.std.proofs.Common.{Some, None, ap, sym, ◌∙◌}
use Rattle.std.specs.Option.{is_some}
use Rattle.lock_table.specs.Locks.{after_give_back}
use Rattle.lock_table.proofs.QueueMaps.{at_equal, changed_equal, queue_written, queue_absent, queue_removed, is_nothing, give_nothing}
use Rattle.lock_table.proofs.queues.give_back_at.Goals as goal

pub returns-in_default : goal.returns-in_default
returns-in_default c = queue_absent c.args.queues.now.entries _ c.args.at.now (after_give_back c.args.txn c.args.was) (c.in_default.ensures.value ∙ at_equal c.args.at.now c.args.queues.now.entries) (give_nothing c.args.txn c.args.was) (ap (λ m. m.entries) c.get_mut.follows.holds-at-none)

pub returns-then-not-is_empty : goal.returns-then-not-is_empty
returns-then-not-is_empty c = queue_written c.args.queues.now.entries _ c.args.at.now (after_give_back c.args.txn c.args.was) c.in-Some.queue.now c.give_back.new.self (c.in-Some.ensures.value ∙ at_equal c.args.at.now c.args.queues.now.entries) c.give_back.ensures (changed_equal c.args.queues.now.entries (c.get_mut.follows.lender c.give_back.new.self).entries c.args.at.now (Some c.give_back.new.self) ((c.get_mut.follows.holds c.give_back.new.self).3 (sym (ap is_some c.in-Some.ensures.value))).0)

pub returns : goal.returns
returns c = queue_removed c.args.queues.now.entries (c.get_mut.follows.lender c.give_back.new.self).entries c.remove.new.self.entries c.args.at.now (after_give_back c.args.txn c.args.was) c.in-Some.queue.now c.give_back.new.self (c.in-Some.ensures.value ∙ at_equal c.args.at.now c.args.queues.now.entries) c.give_back.ensures (is_nothing c.give_back.new.self _ c.is_empty.ensures c.if-not-is_empty.false) (changed_equal c.args.queues.now.entries (c.get_mut.follows.lender c.give_back.new.self).entries c.args.at.now (Some c.give_back.new.self) ((c.get_mut.follows.holds c.give_back.new.self).3 (sym (ap is_some c.in-Some.ensures.value))).0) (changed_equal (c.get_mut.follows.lender c.give_back.new.self).entries c.remove.new.self.entries c.args.at.now None c.remove.ensures.updates.0)

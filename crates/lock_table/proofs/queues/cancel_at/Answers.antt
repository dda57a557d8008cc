use Rattle.std.proofs.Common.{Some, None, refl, ap, sym, ◌∙◌}
use Rattle.std.specs.Option.{is_some}
use Rattle.lock_table.specs.Locks.{after_cancel}
use Rattle.lock_table.proofs.QueueMaps.{at_equal, changed_equal, queue_written, queue_absent, queue_removed, is_nothing}
use Rattle.lock_table.proofs.queues.cancel_at.Goals as goal

pub returns-in_default : goal.returns-in_default
returns-in_default c = queue_absent c.args.queues.now.entries _ c.args.at.now (after_cancel c.args.txn) (c.in_default.ensures.value ∙ at_equal c.args.at.now c.args.queues.now.entries) refl (ap (λ m. m.entries) c.get_mut.follows.holds-at-none)

pub returns-then-not-is_empty : goal.returns-then-not-is_empty
returns-then-not-is_empty c = queue_written c.args.queues.now.entries _ c.args.at.now (after_cancel c.args.txn) c.in-Some.queue.now c.cancel.new.self (c.in-Some.ensures.value ∙ at_equal c.args.at.now c.args.queues.now.entries) c.cancel.ensures (changed_equal c.args.queues.now.entries (c.get_mut.follows.lender c.cancel.new.self).entries c.args.at.now (Some c.cancel.new.self) ((c.get_mut.follows.holds c.cancel.new.self).3 (sym (ap is_some c.in-Some.ensures.value))).0)

pub returns : goal.returns
returns c = queue_removed c.args.queues.now.entries (c.get_mut.follows.lender c.cancel.new.self).entries c.remove.new.self.entries c.args.at.now (after_cancel c.args.txn) c.in-Some.queue.now c.cancel.new.self (c.in-Some.ensures.value ∙ at_equal c.args.at.now c.args.queues.now.entries) c.cancel.ensures (is_nothing c.cancel.new.self _ c.is_empty.ensures c.if-not-is_empty.false) (changed_equal c.args.queues.now.entries (c.get_mut.follows.lender c.cancel.new.self).entries c.args.at.now (Some c.cancel.new.self) ((c.get_mut.follows.holds c.cancel.new.self).3 (sym (ap is_some c.in-Some.ensures.value))).0) (changed_equal (c.get_mut.follows.lender c.cancel.new.self).entries c.remove.new.self.entries c.args.at.now None c.remove.ensures.updates.0)

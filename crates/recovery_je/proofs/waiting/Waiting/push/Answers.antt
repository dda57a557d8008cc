use Rattle.std.proofs.Common.{[]}
use Rattle.log_replay.proofs.MapRows.{list_is_found, list_is_absent, is_there}
use Rattle.recovery_je.proofs.WaitingLaws.{waits_pushed}
use Rattle.recovery_je.proofs.waiting.Waiting.push.Goals as goal

pub returns-in_ok-push-in-Some : goal.returns-in_ok-push-in-Some
returns-in_ok-push-in-Some c =
    rw (← c.self.view_is) (waits_pushed c.args.txn c.args.change c.in-Some.changes.now c.push.new.self c.self.inside.changes.entries _
    ((c.get_mut.follows.holds c.push.new.self).3 (is_there c.args.txn _ _ c.in-Some.ensures.value)).0
    c.in_ok-push-in-Some.ensures.ok (list_is_found c.args.txn _ c.self.inside.changes.entries c.in-Some.ensures.value))

pub returns-in_ok-insert-in-None : goal.returns-in_ok-insert-in-None
returns-in_ok-insert-in-None c =
    let updates = rw c.get_mut.follows.holds-at-none at c.in_ok-insert-in-None.ensures.updates in
    rw (← c.self.view_is) (waits_pushed c.args.txn c.args.change [] c.in_ok-changes-in-None.changes c.self.inside.changes.entries _ updates.0
    c.in_ok-changes-in-None.ensures (list_is_absent c.args.txn c.self.inside.changes.entries c.in-None.ensures.value))

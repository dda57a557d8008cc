use Rattle.std.proofs.Common.{Option, subst}
use Rattle.std.specs.Option.{IfNone}
use Rattle.je_order.proofs.Results.{if_ok}
use Rattle.txn_locks.specs.declared.locked.Locked.{Locked}
use Rattle.txn_locks.specs.Taking.{state_of, HasToWait}
use Rattle.txn_locks.proofs.ReadNeeds.{not_answered}
use Rattle.txn_locks.proofs.call_locks.CallLocks.take.Goals as goal

pub returns-in-None-clause-without : goal.returns-in-None-clause-without
returns-in-None-clause-without c = λ is reads.
    let h = subst (λ (o : Option Locked). IfNone o (HasToWait c.args.txn c.args.needs.now c.args.wait (state_of c.args.self.now.locks))) c.in-None.is (c.in_ok-locked.ensures.waits is reads) in
    if_ok c.take_each.result (λ locked l. not_answered locked c.args.level c.args.txn c.args.needs.now c.args.wait (state_of c.args.self.now.locks) (state_of c.take_each.new.locks) _ h (l c.args.level)) c.take_each.ensures.locked

use Rattle.std.proofs.Common.{◌≡◌, None, Option, subst}
use Rattle.std.specs.Option.{IfNone, IfSome}
use Rattle.je_order.specs.declared.txn_id.TxnId.{TxnId}
use Rattle.store_model.specs.declared.need.Need.{Need}
use Rattle.je_answers.specs.Locking.{first_blocked}
use Rattle.txn_locks.specs.Taking.{state_of, IsStoppedAt}
use Rattle.txn_locks.proofs.ReadNeeds.{free_for, reads_leave, reads_leave_all}
use Rattle.txn_locks.proofs.reading.without_locks.Goals as goal

pub returns-in_default-clause-locked : goal.returns-in_default-clause-locked
returns-in_default-clause-locked c =
    let none : first_blocked c.args.txn c.args.needs.now (state_of c.args.locks.now).at ≡ None =
    subst (λ (o : Option TxnId). IfNone o (first_blocked c.args.txn c.args.needs.now (state_of c.args.locks.now).at ≡ None)) c.in_default.is c.in_ok-owner.ensures.none in
    (none, reads_leave_all c.args.txn c.args.needs.now (state_of c.args.locks.now) c.requires.reads (free_for c.args.txn c.args.locks.now c.have_no_cycle.ensures c.requires.none) none)

pub returns-clause-locked : goal.returns-clause-locked
returns-clause-locked c =
    let stopped = subst (λ (o : Option TxnId). IfSome o (λ owner. (n : Need) × IsStoppedAt c.args.txn c.args.needs.now (state_of c.args.locks.now) n owner)) c.in-Some.is c.in_ok-owner.ensures.stopped in (
      c.if-wait.false,
      record {
        need = stopped.0;
        stopped = stopped.1;
        locks = reads_leave c.args.txn c.args.needs.now (state_of c.args.locks.now) c.requires.reads (free_for c.args.txn c.args.locks.now c.have_no_cycle.ensures c.requires.none);
      },
    )

pub returns-then-wait-clause-waits : goal.returns-then-wait-clause-waits
returns-then-wait-clause-waits c =
    let stopped = subst (λ (o : Option TxnId). IfSome o (λ owner. (n : Need) × IsStoppedAt c.args.txn c.args.needs.now (state_of c.args.locks.now) n owner)) c.in-Some.is c.in_ok-owner.ensures.stopped in
    record { waits = c.if-wait.true; need = stopped.0; owner = c.in-Some.owner; stopped = stopped.1 }

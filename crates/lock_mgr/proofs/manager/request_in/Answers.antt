use Rattle.std.proofs.Common.{ap, sym, ◌∙◌, ◌≡◌, true, false}
use Rattle.std.specs.Option.{is_some}
use Rattle.lock_table.specs.Locks.{is_blocked, lock_of}
use Rattle.lock_table.specs.Table.{locks_at}
use Rattle.lock_table.proofs.CallSteps.{blocked_some}
use Rattle.std.proofs.lemmas.Option.{IfSome_then}
use Rattle.lock_mgr.specs.Deadlock.{waits, waits_with, victims_of}
use Rattle.je_order.proofs.Results.{if_ok}
use Rattle.lock_mgr.proofs.CycleLaws.{same_victims}
use Rattle.lock_mgr.proofs.NoDeadlockLaws.{free_same, free_granted, IsPut, no_wait, put_waits, put_through, put_back, put_stands, if_both, if_either, not_granted}
use Rattle.lock_mgr.proofs.manager.request_in.Goals as goal

pub returns-in_err-was-clause-free : goal.returns-in_err-was-clause-free
returns-in_err-was-clause-free c = free_same c.args.table.now c.ask.new.self c.requires.free c.in_err-was.ensures.settled c.in_err-was.ensures.err

pub blocked_in-requires-clause-waiting : goal.blocked_in-requires-clause-waiting
blocked_in-requires-clause-waiting c =
    let b : is_blocked (locks_at c.args.at.now c.args.table.now).0 (lock_of c.args.txn c.args.asked) ≡ true = blocked_some (lock_of c.args.txn c.args.asked) (locks_at c.args.at.now c.args.table.now).0 ∙ sym (ap is_some (rw c.in-Blocked.is at c.in_ok-was.ensures.answer)) in
    let p : IsPut c.args.table.now c.ask.new.self c.args.at.now (lock_of c.args.txn c.args.asked) = record { blocked = b; none = no_wait c.args.table.now c.args.txn c.requires.free.sound c.requires.none; locks = c.in_ok-was.ensures.locks; pending = rw c.in-Blocked.is at c.in_ok-was.ensures.pending } in
    put_stands c.args.table.now c.ask.new.self c.args.at.now (lock_of c.args.txn c.args.asked) p

pub blocked_in-requires-clause-through : goal.blocked_in-requires-clause-through
blocked_in-requires-clause-through c =
    let b : is_blocked (locks_at c.args.at.now c.args.table.now).0 (lock_of c.args.txn c.args.asked) ≡ true = blocked_some (lock_of c.args.txn c.args.asked) (locks_at c.args.at.now c.args.table.now).0 ∙ sym (ap is_some (rw c.in-Blocked.is at c.in_ok-was.ensures.answer)) in
    let p : IsPut c.args.table.now c.ask.new.self c.args.at.now (lock_of c.args.txn c.args.asked) = record { blocked = b; none = no_wait c.args.table.now c.args.txn c.requires.free.sound c.requires.none; locks = c.in_ok-was.ensures.locks; pending = rw c.in-Blocked.is at c.in_ok-was.ensures.pending } in
    put_through c.args.table.now c.ask.new.self c.args.at.now (lock_of c.args.txn c.args.asked) c.requires.free p

pub returns-in-Granted-clause-free : goal.returns-in-Granted-clause-free
returns-in-Granted-clause-free c =
    let b : is_blocked (locks_at c.args.at.now c.args.table.now).0 (lock_of c.args.txn c.args.asked) ≡ false = blocked_some (lock_of c.args.txn c.args.asked) (locks_at c.args.at.now c.args.table.now).0 ∙ sym (ap is_some (rw c.in-Granted.is at c.in_ok-was.ensures.answer)) in
    free_granted c.args.table.now c.ask.new.self c.args.at.now (lock_of c.args.txn c.args.asked) c.requires.free c.in_ok-was.ensures.settled b c.in_ok-was.ensures.locks (rw c.in-Granted.is at c.in_ok-was.ensures.pending)

pub returns-in-Blocked-clause-victims : goal.returns-in-Blocked-clause-victims
returns-in-Blocked-clause-victims c =
    let b : is_blocked (locks_at c.args.at.now c.args.table.now).0 (lock_of c.args.txn c.args.asked) ≡ true = blocked_some (lock_of c.args.txn c.args.asked) (locks_at c.args.at.now c.args.table.now).0 ∙ sym (ap is_some (rw c.in-Blocked.is at c.in_ok-was.ensures.answer)) in
    let p : IsPut c.args.table.now c.ask.new.self c.args.at.now (lock_of c.args.txn c.args.asked) = record { blocked = b; none = no_wait c.args.table.now c.args.txn c.requires.free.sound c.requires.none; locks = c.in_ok-was.ensures.locks; pending = rw c.in-Blocked.is at c.in_ok-was.ensures.pending } in
    if_ok c.blocked_in.result (λ answer h. IfSome_then (victims_of answer) h (same_victims c.args.txn (waits_with (lock_of c.args.txn c.args.asked) c.args.at.now c.args.table.now) (waits c.ask.new.self) (put_waits c.args.table.now c.ask.new.self c.args.at.now (lock_of c.args.txn c.args.asked) p))) c.blocked_in.ensures.victims

pub returns-in-Blocked-clause-err : goal.returns-in-Blocked-clause-err
returns-in-Blocked-clause-err c =
    let b : is_blocked (locks_at c.args.at.now c.args.table.now).0 (lock_of c.args.txn c.args.asked) ≡ true = blocked_some (lock_of c.args.txn c.args.asked) (locks_at c.args.at.now c.args.table.now).0 ∙ sym (ap is_some (rw c.in-Blocked.is at c.in_ok-was.ensures.answer)) in
    let p : IsPut c.args.table.now c.ask.new.self c.args.at.now (lock_of c.args.txn c.args.asked) = record { blocked = b; none = no_wait c.args.table.now c.args.txn c.requires.free.sound c.requires.none; locks = c.in_ok-was.ensures.locks; pending = rw c.in-Blocked.is at c.in_ok-was.ensures.pending } in
    if_both c.blocked_in.result (put_back c.args.table.now c.ask.new.self c.blocked_in.new.table c.args.at.now (lock_of c.args.txn c.args.asked) c.in_ok-place.place p c.in_ok-place.ensures) c.blocked_in.ensures.err c.blocked_in.ensures.err_pending

pub returns-in-Blocked-clause-free : goal.returns-in-Blocked-clause-free
returns-in-Blocked-clause-free c =
    let b : is_blocked (locks_at c.args.at.now c.args.table.now).0 (lock_of c.args.txn c.args.asked) ≡ true = blocked_some (lock_of c.args.txn c.args.asked) (locks_at c.args.at.now c.args.table.now).0 ∙ sym (ap is_some (rw c.in-Blocked.is at c.in_ok-was.ensures.answer)) in
    let p : IsPut c.args.table.now c.ask.new.self c.args.at.now (lock_of c.args.txn c.args.asked) = record { blocked = b; none = no_wait c.args.table.now c.args.txn c.requires.free.sound c.requires.none; locks = c.in_ok-was.ensures.locks; pending = rw c.in-Blocked.is at c.in_ok-was.ensures.pending } in
    if_either c.blocked_in.result (free_same c.args.table.now c.blocked_in.new.table c.requires.free c.blocked_in.ensures.sound) c.blocked_in.ensures.free
    (if_both c.blocked_in.result (put_back c.args.table.now c.ask.new.self c.blocked_in.new.table c.args.at.now (lock_of c.args.txn c.args.asked) c.in_ok-place.place p c.in_ok-place.ensures) c.blocked_in.ensures.err c.blocked_in.ensures.err_pending)

pub returns-in-Granted-clause-was : goal.returns-in-Granted-clause-was
returns-in-Granted-clause-was c = rw c.in-Granted.is at c.in_ok-was.ensures.was

pub returns-in-Blocked-clause-was : goal.returns-in-Blocked-clause-was
returns-in-Blocked-clause-was c = if_ok c.blocked_in.result (λ answer e. not_granted answer c.in-Blocked.owner _ e) c.blocked_in.ensures.owner

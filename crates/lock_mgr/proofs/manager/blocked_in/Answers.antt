use Rattle.std.proofs.Common.{◌≡◌, ◌∙◌, true, false, List, map, ap, sym}
use Rattle.je_order.specs.declared.txn_id.TxnId.{TxnId}
use Rattle.waits_for.specs.Cycles.{is_in}
use Rattle.lock_table.specs.Table.{locks_at}
use Rattle.lock_mgr.specs.Deadlock.{waits, without_waits}
use Rattle.lock_mgr.proofs.NoDeadlockLaws.{free_taken, free_victims, victims_stand}
use Rattle.lock_mgr.proofs.manager.blocked_in.Goals as goal

pub returns-then-not-wait-clause-waits : goal.returns-then-not-wait-clause-waits
returns-then-not-wait-clause-waits c = sym c.if-not-wait.true

pub returns-then-not-wait-clause-victims : goal.returns-then-not-wait-clause-victims
returns-then-not-wait-clause-victims c = tt

pub returns-then-not-wait-clause-locks : goal.returns-then-not-wait-clause-locks
returns-then-not-wait-clause-locks c = c.cancel.ensures.locks

pub returns-then-not-wait-clause-free : goal.returns-then-not-wait-clause-free
returns-then-not-wait-clause-free c = free_taken c.args.table.now c.cancel.new.self c.args.txn c.cancel.ensures.settled c.requires.through c.cancel.ensures.locks c.cancel.ensures.pending

pub returns-in-Ok-clause-locks : goal.returns-in-Ok-clause-locks
returns-in-Ok-clause-locks c = λ r.
    c.cancel_each.ensures.locks r
    ∙ ap (λ (vs : List (TxnId × List TxnId)). without_waits (map (λ v. v.0) vs) (locks_at r c.args.table.now)) c.as_slice.ensures
    ∙ ap (λ (us : List TxnId). without_waits us (locks_at r c.args.table.now)) (sym (c.answer_of.ensures.taken c.args.txn))

pub returns-in-Ok-clause-pending : goal.returns-in-Ok-clause-pending
returns-in-Ok-clause-pending c = λ t m.
    let k : is_in t (map (λ v. v.0) c.in-Ok.victims) ≡ false = rw (c.answer_of.ensures.taken c.args.txn) at m in
    let j : is_in t (map (λ v. v.0) c.as_slice.result.now) ≡ false = rw c.as_slice.ensures k in
    c.cancel_each.ensures.pending t j

pub returns-in-Ok-clause-free : goal.returns-in-Ok-clause-free
returns-in-Ok-clause-free c = free_victims c.args.txn c.args.table.now c.cancel_each.new.table c.in-Ok.victims c.cancel_each.ensures.sound (λ r. rw (← c.as_slice.ensures) (c.cancel_each.ensures.locks r)) c.cancel_each.ensures.kept c.in-Ok.ensures

pub returns-in-Ok-clause-gone : goal.returns-in-Ok-clause-gone
returns-in-Ok-clause-gone c = λ t m.
    let k : is_in t (map (λ v. v.0) c.in-Ok.victims) ≡ true = rw (c.answer_of.ensures.taken c.args.txn) at m in
    let j : is_in t (map (λ v. v.0) c.as_slice.result.now) ≡ true = rw c.as_slice.ensures k in
    c.cancel_each.ensures.gone t j (victims_stand c.args.txn c.args.table.now (waits c.args.table.now) (λ x y e. e) c.in-Ok.victims c.in-Ok.ensures t k)

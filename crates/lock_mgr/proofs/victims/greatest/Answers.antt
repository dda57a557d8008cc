use Rattle.std.proofs.Common.{sym, ◌≡◌, true, subst, get_or, arith}
use Rattle.std.proofs.lemmas.Grind.{common_steps}
use Rattle.je_order.specs.declared.txn_id.TxnId.{TxnId}
use Rattle.lock_mgr.specs.Deadlock.{is_greatest}
use Rattle.lock_mgr.specs.Reach.{greatest_from}
use Rattle.lock_mgr.proofs.GreatestTxn.{greatest_list}
use Rattle.lock_mgr.proofs.victims.greatest.Goals as goal

pub returns : goal.returns
returns c =
    let i = c.loop-txn.invariant in
    let e : c.loop-txn.found ≡ greatest_from (get_or c.args.list.now 0 (record { 0 = 0 })) c.args.list.now = grind (arith, common_steps, i) in
    subst (λ (u : TxnId). is_greatest u c.args.list.now ≡ true) (sym e) (greatest_list (record { 0 = 0 }) c.args.list.now c.requires)

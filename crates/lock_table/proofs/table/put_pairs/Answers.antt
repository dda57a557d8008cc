use Rattle.std.proofs.Common.{refl, map}
use Rattle.je_order.specs.declared.txn_id.TxnId.{TxnId}
use Rattle.lock_table.proofs.ListWalks.{walked, one_more}
use Rattle.lock_table.proofs.table.put_pairs.Goals as goal

pub loop-owner-preserved : goal.loop-owner-preserved
loop-owner-preserved c =
    one_more (λ (u : TxnId). (c.args.txn, u)) c.args.owners.now c.loop-owner.owner-index _ c.loop-owner.pairs.items c.push.new.self.items _ c.loop-owner-test.true c.loop-owner.invariant c.in_ok-push.ensures.items

pub returns : goal.returns
returns c = walked (map (λ (u : TxnId). (c.args.txn, u))) c.args.owners.now c.loop-owner.owner-index c.loop-owner.pairs.items _ refl c.loop-owner-test.false c.loop-owner.invariant

use Rattle.std.proofs.Common.{◌∙◌, ◌++◌, List, map, ap, ap₂}
use Rattle.je_order.specs.declared.txn_id.TxnId.{TxnId}
use Rattle.lock_table.specs.declared.lock.Lock.{Lock}
use Rattle.lock_table.specs.declared.record_id.RecordId.{RecordId}
use Rattle.lock_table.specs.Locks.{waited_for}
use Rattle.lock_table.specs.Records.{queue_at}
use Rattle.lock_table.proofs.ListWalks.{gives_more, gives_all}
use Rattle.lock_table.proofs.table.pairs_in.Goals as goal

pub loop-txn-preserved : goal.loop-txn-preserved
loop-txn-preserved c =
    let txn = c.in-Some.txn.now in
    let pairs = c.loop-txn.pairs.items in
    let blockers = c.as_slice.ensures.value ∙ c.in_ok-owners.ensures ∙ ap₂ (λ (os : List Lock) (ws : List Lock). waited_for txn (os, ws)) c.owners_at.ensures c.waits_at.ensures in
    gives_more (λ (e : TxnId × RecordId). map (λ (u : TxnId). (e.0, u)) (waited_for e.0 (queue_at e.1 c.args.queues.now.entries))) (txn, c.in-Some.at.now)
    c.loop-txn.txn-iterator c.next.new.self pairs c.put_pairs.new.pairs.items _ c.in-Some.ensures.steps c.loop-txn.invariant
    (c.in_ok-put_pairs.ensures ∙ ap (λ (us : List TxnId). pairs ++ map (λ (u : TxnId). (txn, u)) us) blockers)

pub returns : goal.returns
returns c =
    gives_all (λ (e : TxnId × RecordId). map (λ (u : TxnId). (e.0, u)) (waited_for e.0 (queue_at e.1 c.args.queues.now.entries)))
    c.loop-txn.txn-iterator c.loop-txn.pairs.items _ c.in-None.ensures.steps.0 c.loop-txn.invariant

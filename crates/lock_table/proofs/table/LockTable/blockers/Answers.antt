use Rattle.std.proofs.Common.{◌≡◌, ◌∙◌, [], IfOk, ap, subst, List, Option}
use Rattle.std.specs.Option.{option_map_or}
use Rattle.je_order.specs.declared.txn_id.TxnId.{TxnId}
use Rattle.lock_table.specs.declared.lock.Lock.{Lock}
use Rattle.lock_table.specs.declared.record_id.RecordId.{RecordId}
use Rattle.lock_table.specs.Locks.{waited_for}
use Rattle.lock_table.specs.Records.{queue_at}
use Rattle.lock_table.specs.Table.{waits_for}
use Rattle.lock_table.proofs.table.LockTable.blockers.Goals as goal

pub returns : goal.returns
returns c =
    let t = c.args.txn in
    let queues = c.self.inside.queues.entries in
    subst (λ (ts : List TxnId). IfOk c.waited_in.result (λ found. found.items ≡ ts))
    (ap (λ (os : List Lock). waited_for t (os, c.waits_at.result.now)) c.owners_at.ensures
    ∙ (ap (λ (ws : List Lock). waited_for t ((queue_at c.in-Some.at.now queues).0, ws)) c.waits_at.ensures
    ∙ (ap (λ (o : Option RecordId). option_map_or (λ r. waited_for t (queue_at r queues)) o []) c.in-Some.ensures.value
    ∙ ap (waits_for t) c.self.view_is)))
    c.waited_in.ensures

use Rattle.std.proofs.Common.{◌≡◌, Some, cond, subst}
use Rattle.je_order.specs.declared.txn_id.TxnId.{TxnId}
use Rattle.lock_table.specs.declared.record_id.RecordId.{RecordId}
use Rattle.je_order.specs.Transactions.{is_same_txn}
use Rattle.lock_table.specs.Table.{at_txn}
use Rattle.lock_table.proofs.RecordLists.{changed_at}
use Rattle.lock_table.proofs.calls.note_wait.Goals as goal

pub returns-clause-ok : goal.returns-clause-ok
returns-clause-ok c =
    subst (λ (k : RecordId). (t : TxnId) → at_txn t c.insert.new.self.entries ≡ cond (is_same_txn c.args.txn t) (Some k) (at_txn t c.args.pending.now.entries)) c.in_ok-key.ensures
    (changed_at c.args.pending.now.entries c.insert.new.self.entries c.args.txn (Some c.in_ok-key.key) c.in_ok-insert.ensures.updates.0)

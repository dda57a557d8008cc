use Rattle.std.proofs.Common.{subst}
use Rattle.std.specs.Option.{IfNone}
use Rattle.je_order.specs.declared.txn_id.TxnId.{TxnId}
use Rattle.lock_table.specs.Table.{IsToldIn}
use Rattle.lock_mgr.proofs.manager.LockMgr.waiter_in.Goals as goal

pub returns-clause-none : goal.returns-clause-none
returns-clause-none c = subst (λ v. IfNone c.waiter_in.result ((t : TxnId) → IsToldIn c.args.db t v → ⊥)) c.self.view_is c.waiter_in.ensures.none

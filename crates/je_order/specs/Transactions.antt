-- Transactions by their numbers.
use Rattle.std.specs.Prelude.{Bool, ◌==◌}
use Rattle.std.specs.Ordering.{nat_cmp}
use Rattle.std.specs.declared.cmp.Ordering.{Ordering}
use Rattle.je_order.specs.declared.txn_id.TxnId.{TxnId}

-- two numbers of one transaction
abbrev pub is_same_txn : TxnId → TxnId → Bool
is_same_txn x y = x.0 == y.0

-- the order of transaction numbers
abbrev pub txn_cmp : TxnId → TxnId → Ordering
txn_cmp x y = nat_cmp x.0 y.0

-- Buffers that wait to be filled.
use Rattle.std.specs.Prelude.{ℕ, ◌≡◌, ◌≤◌, [], List, Vec, vec_capacity, length}
use Rattle.std.specs.List.{AllByRecursion}
use Rattle.std.specs.declared.alloc.Global.{Global}
use Rattle.je_order.specs.declared.txn_id.TxnId.{TxnId}

-- an empty buffer with room for so many transactions
abbrev pub IsSpare : ℕ → Vec TxnId Global → Type 0
IsSpare size b = (b.items ≡ []) × (size ≤ vec_capacity b)

-- so many of them at least
pub record HasSpare (size count : ℕ) (buffers : List (Vec TxnId Global)) : Type 0 where
  pub each : AllByRecursion (IsSpare size) buffers
  pub enough : count ≤ length buffers

-- a cycle of so many transactions at most
abbrev pub IsShort : ℕ → TxnId × List TxnId → Type 0
IsShort size v = length v.1 ≤ size

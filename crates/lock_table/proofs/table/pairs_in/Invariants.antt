use Rattle.std.proofs.Common.{◌≡◌, ◌++◌, map}
use Rattle.std.specs.List.{flat_map}
use Rattle.lock_table.specs.Locks.{waited_for}
use Rattle.lock_table.specs.Records.{queue_at}
use Rattle.lock_table.proofs.table.pairs_in.Given as goal

abbrev pub invariant-loop-txn : goal.invariant-loop-txn
invariant-loop-txn l = l.pairs.items ++ flat_map (λ e. map (λ u. (e.0, u)) (waited_for e.0 (queue_at e.1 l.queues.entries))) l.txn-iterator ≡ flat_map (λ e. map (λ u. (e.0, u)) (waited_for e.0 (queue_at e.1 l.queues.entries))) l.pending.entries

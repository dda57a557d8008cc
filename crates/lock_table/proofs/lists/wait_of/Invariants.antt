use Rattle.std.proofs.Common.{◌≡◌, drop}
use Rattle.std.specs.List.{find}
use Rattle.lock_table.specs.Locks.{is_of}
use Rattle.lock_table.proofs.lists.wait_of.Given as goal

abbrev pub invariant-loop-wait : goal.invariant-loop-wait
invariant-loop-wait l = find (is_of l.txn) (drop l.wait-index l.waits) ≡ find (is_of l.txn) l.waits

use Rattle.std.proofs.Common.{◌≡◌, drop}
use Rattle.lock_mgr.specs.Reach.{greatest_from}
use Rattle.lock_mgr.proofs.victims.greatest.Given as goal

abbrev pub invariant-loop-txn : goal.invariant-loop-txn
invariant-loop-txn l = greatest_from l.found (drop l.txn-index l.list) ≡ greatest_from l.initial.found l.list

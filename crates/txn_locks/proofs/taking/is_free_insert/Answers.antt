use Rattle.std.proofs.Common.{not}
use Rattle.std.proofs.lemmas.Bool.{both_ways, false_from_ne_true, not_from_true}
use Rattle.txn_locks.specs.Taking.{state_of}
use Rattle.txn_locks.proofs.NeedSteps.{free_insert}
use Rattle.txn_locks.proofs.taking.is_free_insert.Goals as goal

pub returns : goal.returns
returns c = λ h t. free_insert t c.args.need.now (state_of c.args.locks.now) (c.is_insert.ensures c.if-not-is_insert.false)
    (c.has_ranges.ensures (false_from_ne_true c.has_ranges.result (λ k. both_ways (not c.has_ranges.result) (not_from_true c.has_ranges.result k) h)))

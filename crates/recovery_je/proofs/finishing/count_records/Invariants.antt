use Rattle.std.proofs.Common.{◌≡◌, ◌+◌, drop, length, sum_by}
use Rattle.recovery_je.proofs.finishing.count_records.Given as goal

abbrev pub invariant-loop-number : goal.invariant-loop-number
invariant-loop-number g l = l.records + sum_by (λ n. length (g.T.Loads.stored l.trees n)) (drop l.number-index l.numbers) ≡ sum_by (λ n. length (g.T.Loads.stored l.trees n)) l.numbers

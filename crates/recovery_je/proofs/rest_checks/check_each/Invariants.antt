use Rattle.std.proofs.Common.{◌≡◌, ◌++◌, drop, map}
use Rattle.std.specs.Prelude.{IsTrue}
use Rattle.std.specs.List.{AllByRecursion}
use Rattle.je_order.specs.Words.{is_word}
use Rattle.record_tree.specs.Stored.{values_of}
use Rattle.recovery_je.specs.Checking.{values_in}
use Rattle.recovery_je.specs.RestChecks.{count_of_rest, indexes_in}
use Rattle.recovery_je.proofs.rest_checks.check_each.Given as goal

abbrev pub invariant-loop-row : goal.invariant-loop-row
invariant-loop-row g l =
    let rows = values_in (g.T.Loads.stored l.trees) in
    let catalog = values_of l.left in
    record {
      counted : l.counts ++ map (count_of_rest catalog rows) (values_of (drop l.row-index l.left)) ≡ map (count_of_rest catalog rows) catalog;
      noted : l.findings ++ indexes_in catalog rows (values_of (drop l.row-index l.left)) ≡ l.initial.findings ++ indexes_in catalog rows catalog;
      words : AllByRecursion (λ r. IsTrue (is_word r.0.key)) (drop l.row-index l.left);
    }

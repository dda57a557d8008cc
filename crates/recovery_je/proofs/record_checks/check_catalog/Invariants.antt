use Rattle.std.proofs.Common.{◌≡◌, ◌++◌, [], map, drop}
use Rattle.std.specs.Prelude.{IsTrue}
use Rattle.std.specs.List.{AllByRecursion}
use Rattle.je_order.specs.Words.{is_word}
use Rattle.record_tree.specs.Stored.{values_of}
use Rattle.check_laws.specs.Parts.{kept_in_catalog, wrongs_in_catalog}
use Rattle.recovery_je.specs.Checking.{lsn_of}
use Rattle.recovery_je.specs.RecordChecks.{wrong_at}
use Rattle.recovery_je.proofs.record_checks.check_catalog.Given as goal

abbrev pub invariant-loop-record : goal.invariant-loop-record
invariant-loop-record g l =
    let f = wrong_at (lsn_of (g.T.Loads.stored l.trees)) 0 in
    let all = values_of l.records in
    record {
      noted : l.findings ++ map f (wrongs_in_catalog all l.before.items (values_of (drop l.record-index l.records))) ≡ l.initial.findings ++ map f (wrongs_in_catalog all [] all);
      kept : values_of l.left.items ++ kept_in_catalog all l.before.items (values_of (drop l.record-index l.records)) ≡ kept_in_catalog all [] all;
      words : AllByRecursion (λ r. IsTrue (is_word r.0.key)) l.left.items;
    }

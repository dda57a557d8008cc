use Rattle.std.proofs.Common.{◌≡◌, ◌++◌, map, drop}
use Rattle.record_tree.specs.Stored.{lent}
use Rattle.check_laws.specs.Parts.{wrongs_in}
use Rattle.recovery_je.specs.Checking.{lsn_of}
use Rattle.recovery_je.specs.RecordChecks.{wrong_at}
use Rattle.recovery_je.proofs.record_checks.note_each.Given as goal

abbrev pub invariant-loop-record : goal.invariant-loop-record
invariant-loop-record g l =
    let f = wrong_at (lsn_of (g.T.Loads.stored l.trees)) l.database.number in
    l.findings ++ map f (wrongs_in l.database.kind (lent (drop l.record-index l.records))) ≡ l.initial.findings ++ map f (wrongs_in l.database.kind (lent l.records))

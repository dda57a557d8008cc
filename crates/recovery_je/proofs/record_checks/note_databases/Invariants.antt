use Rattle.std.proofs.Common.{◌≡◌, ◌++◌, map, drop}
use Rattle.recovery_je.specs.Checking.{as_found, lsn_of, values_in}
use Rattle.recovery_je.specs.RecordChecks.{wrongs_of_all}
use Rattle.recovery_je.proofs.record_checks.note_databases.Given as goal

abbrev pub invariant-loop-database : goal.invariant-loop-database
invariant-loop-database g l =
    let stored = g.T.Loads.stored l.trees in
    l.findings ++ wrongs_of_all (lsn_of stored) (values_in stored) (map as_found (drop l.database-index l.databases)) ≡ l.initial.findings ++ wrongs_of_all (lsn_of stored) (values_in stored) (map as_found l.databases)

use Rattle.std.proofs.Common.{◌∙◌, ◌++◌, ap, map, List}
use Rattle.je_order.specs.declared.name.Name.{Name}
use Rattle.record_tree.specs.Stored.{Stored, values_of}
use Rattle.recovery_je.specs.declared.numbered.Numbered.{Numbered}
use Rattle.recovery_je.specs.Checking.{as_found, lsn_of, numbered_of, values_in}
use Rattle.recovery_je.specs.RecordChecks.{wrongs_of_all}
use Rattle.recovery_je.proofs.RecordNotes.{noted_all}
use Rattle.recovery_je.proofs.record_checks.check_records.Goals as goal

pub returns-clause-findings : goal.returns-clause-findings
returns-clause-findings g c =
    let stored = g.T.Loads.stored c.args.trees.now in
    noted_all stored c.deref.result.now c.in_ok-left.left.items c.in_ok-databases.databases.items c.in_ok-wrong.wrong.items c.args.findings.now c.check_catalog.new.findings c.note_databases.new.findings
    (c.deref.ensures.value ∙ c.in_ok-records.ensures.records) c.in_ok-left.ensures.left (c.in_ok-databases.ensures ∙ ap (λ (l : List (Name × Stored)). map numbered_of (values_of l)) c.deref-2.ensures.value)
    c.in_ok-wrong.ensures c.in_ok-left.ensures.findings
    (c.in_ok-note_databases.ensures ∙ ap (λ (l : List Numbered). c.check_catalog.new.findings ++ wrongs_of_all (lsn_of stored) (values_in stored) (map as_found l)) c.deref-3.ensures.value)

use Rattle.recovery_je.proofs.EntryCheckLaws.{counted_all, found_all}
use Rattle.recovery_je.proofs.entry_checks.check_trees.Goals as goal

pub returns-clause-findings : goal.returns-clause-findings
returns-clause-findings g c files es first holds =
    found_all files es (g.T.Loads.stored c.args.check.trees) c.args.check.findings c.check_records.new.findings c.check_rest.new.findings first holds c.in_ok-left.ensures.rising c.in_ok-left.ensures.findings
    c.in_ok-databases.ensures.findings

pub returns-clause-databases : goal.returns-clause-databases
returns-clause-databases g c files es holds =
    counted_all files es (g.T.Loads.stored c.args.check.trees) c.in_ok-databases.databases holds c.in_ok-left.ensures.rising c.in_ok-databases.ensures.counts

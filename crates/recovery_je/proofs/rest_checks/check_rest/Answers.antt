use Rattle.record_tree.specs.Stored.{values_of}
use Rattle.recovery_je.specs.Checking.{values_in}
use Rattle.recovery_je.proofs.AnswerLaws.{ok_weaker}
use Rattle.recovery_je.proofs.TreeCheckLaws.{ok_so}
use Rattle.recovery_je.proofs.RestCounts.{rest_counted, rest_noted}
use Rattle.recovery_je.proofs.rest_checks.check_rest.Goals as goal

pub returns-clause-counts : goal.returns-clause-counts
returns-clause-counts g c =
    ok_weaker _ _ c.check_each.result (λ counts is. rest_counted (values_in (g.T.Loads.stored c.args.trees.now)) (values_of c.args.left.now) counts c.requires.left is) c.check_each.ensures.counts

pub returns-clause-findings : goal.returns-clause-findings
returns-clause-findings g c =
    ok_so c.check_each.result (rest_noted (values_in (g.T.Loads.stored c.args.trees.now)) (values_of c.args.left.now) c.args.findings.now c.check_each.new.findings c.requires.left) c.check_each.ensures.findings

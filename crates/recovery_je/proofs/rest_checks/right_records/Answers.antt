use Rattle.std.proofs.Common.{◌∙◌, sym}
use Rattle.record_tree.specs.Stored.{lent, values_of}
use Rattle.recovery_je.proofs.RestCounts.{all_right}
use Rattle.recovery_je.proofs.rest_checks.right_records.Goals as goal

pub returns-then-not-is_wrong-clause-right : goal.returns-then-not-is_wrong-clause-right
returns-then-not-is_wrong-clause-right g c =
    all_right c.args.kind (values_of (g.T.Loads.stored c.args.trees.now c.args.number)) (lent c.in_ok-records.records.items) (sym c.is_wrong.ensures ∙ c.if-not-is_wrong.true) c.in_ok-records.ensures.records

use Rattle.std.proofs.Common.{◌∙◌, ap}
use Rattle.record_tree.specs.Stored.{values_of}
use Rattle.recovery_je.specs.Checking.{values_in}
use Rattle.recovery_je.proofs.MeaningLaws.{values_rise}
use Rattle.recovery_je.proofs.AnswerLaws.{ok_weaker}
use Rattle.recovery_je.proofs.IndexChecks.{readable, checked}
use Rattle.recovery_je.proofs.indexes.wrong_index.Goals as goal

pub first_not_filled-requires : goal.first_not_filled-requires
first_not_filled-requires g c =
    let stored = g.T.Loads.stored c.args.trees.now in
    readable (values_in stored) c.deref.result.now (ap values_of (c.deref.ensures.value ∙ c.in_ok-records.ensures.records)) c.requires (values_rise (stored 0) (c.in_ok-records.ensures.rising 0))

pub returns : goal.returns
returns g c =
    let stored = g.T.Loads.stored c.args.trees.now in
    ok_weaker _ _ c.first_not_filled.result
    (λ name is. checked (values_in stored) c.deref.result.now name (ap values_of (c.deref.ensures.value ∙ c.in_ok-records.ensures.records)) c.requires (values_rise (stored 0) (c.in_ok-records.ensures.rising 0)) is)
    c.first_not_filled.ensures

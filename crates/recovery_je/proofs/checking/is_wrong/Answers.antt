use Rattle.std.proofs.Common.{◌∙◌, ap, is_some, sym}
use Rattle.recovery_je.specs.Checking.{values_of}
use Rattle.recovery_je.proofs.CheckLaws.{mapped_some, wrong_some}
use Rattle.recovery_je.proofs.checking.is_wrong.Goals as goal

pub returns : goal.returns
returns g c =
    c.is_some.ensures ∙ sym (mapped_some _ c.first_wrong.result) ∙ ap is_some c.first_wrong.ensures
    ∙ wrong_some c.args.database.kind (values_of (g.T.Loads.stored c.args.trees.now c.args.database.number))

use Rattle.std.proofs.Common.{◌∙◌, ap, sym}
use Rattle.store_model.specs.declared.kind.Kind.{Kind}
use Rattle.store_model.specs.declared.kind.Kind.TheVariants.{Plain, Dup}
use Rattle.log_replay.specs.Wrong.{wrong_in}
use Rattle.recovery_je.specs.Checking.{values_of}
use Rattle.recovery_je.proofs.CheckLaws.{wrong_name}
use Rattle.recovery_je.proofs.checking.first_wrong.Goals as goal

pub returns-in-Plain : goal.returns-in-Plain
returns-in-Plain g c =
    let records = g.T.Loads.stored c.args.trees.now c.args.database.number in
    c.first_with_dup.ensures.found ∙ wrong_name Plain records ∙ ap (λ (k : Kind). wrong_in k (values_of records)) (sym c.in-Plain.is)

pub returns-in-Dup : goal.returns-in-Dup
returns-in-Dup g c =
    let records = g.T.Loads.stored c.args.trees.now c.args.database.number in
    c.first_not_dup.ensures.found ∙ wrong_name Dup records ∙ ap (λ (k : Kind). wrong_in k (values_of records)) (sym c.in-Dup.is)

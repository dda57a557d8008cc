use Rattle.std.proofs.Common.{◌∙◌, sym}
use Rattle.recovery_je.proofs.CheckLaws.{wrong_behind}
use Rattle.recovery_je.proofs.checking.wrong_lsn.Goals as goal

pub returns-clause-wrong : goal.returns-clause-wrong
returns-clause-wrong g c =
    wrong_behind (g.T.Loads.stored c.args.trees.now) c.deref.result.now c.deref-in-None.result.now c.wrong_in_databases.result (sym c.in_ok-name.ensures ∙ c.in-None.is)
    (c.deref.ensures.value ∙ c.in_ok-records.ensures.records) (c.deref-in-None.ensures.value ∙ c.in_ok-records.ensures.records) c.wrong_in_databases.ensures

use Rattle.std.proofs.Common.{◌∙◌, sym}
use Rattle.recovery_je.proofs.MeaningLaws.{wrong_at}
use Rattle.recovery_je.proofs.settling.settle.Goals as goal

pub returns-in-Some-clause-found : goal.returns-in-Some-clause-found
returns-in-Some-clause-found g c redo holds =
    wrong_at redo (g.T.Loads.stored c.args.trees) c.in-Some.lsn holds c.in_ok-lsn.ensures.rising (sym c.in-Some.is ∙ c.in_ok-lsn.ensures.wrong)

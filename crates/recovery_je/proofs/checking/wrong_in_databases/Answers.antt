use Rattle.std.proofs.Common.{◌∙◌, ap, map, List}
use Rattle.recovery_je.specs.declared.numbered.Numbered.{Numbered}
use Rattle.recovery_je.specs.Checking.{values_of, as_found, wrong_lsn_under}
use Rattle.recovery_je.proofs.CheckLaws.{under_named}
use Rattle.recovery_je.proofs.checking.wrong_in_databases.Goals as goal

pub returns : goal.returns
returns g c =
    let stored = g.T.Loads.stored c.args.trees.now in
    under_named stored (values_of c.args.records.now) c.in_ok-databases.databases.items c.wrong_under.result c.in_ok-databases.ensures
    (c.wrong_under.ensures ∙ ap (λ (l : List Numbered). wrong_lsn_under stored (map as_found l)) c.deref.ensures.value)

use Rattle.std.proofs.Common.{◌∙◌, ap, Some, option_map}
use Rattle.recovery_je.specs.Checking.{lsn_of}
use Rattle.recovery_je.proofs.checking.wrong_in_db.Goals as goal

pub returns-in-Some : goal.returns-in-Some
returns-in-Some g c =
    let stored = g.T.Loads.stored c.args.trees.now in
    ap Some c.lsn_of.ensures ∙ ap (option_map (λ x. lsn_of stored c.args.database.number x)) c.in-Some.ensures

pub returns-in-None : goal.returns-in-None
returns-in-None g c =
    let stored = g.T.Loads.stored c.args.trees.now in
    ap (option_map (λ x. lsn_of stored c.args.database.number x)) c.in-None.ensures

use Rattle.std.proofs.Common.{sym, map}
use Rattle.recovery_je.specs.Checking.{as_found}
use Rattle.recovery_je.proofs.CheckLaws.{under_some, under_none}
use Rattle.recovery_je.proofs.checking.wrong_under.Goals as goal

pub returns-in-Some : goal.returns-in-Some
returns-in-Some g c = under_some (g.T.Loads.stored c.args.trees.now) (map as_found c.args.databases.now) c.in-Some.database c.wrong_in_db.result (sym c.in-Some.ensures) c.wrong_in_db.ensures

pub returns-in-None : goal.returns-in-None
returns-in-None g c = under_none (g.T.Loads.stored c.args.trees.now) (map as_found c.args.databases.now) (sym c.in-None.ensures)

use Rattle.std.proofs.Common.{◌∙◌, sym}
use Rattle.in_tree.specs.Observed.{cells_of}
use Rattle.log_replay.specs.Logging.{number_named}
use Rattle.txn_core.specs.Known.{committed}
use Rattle.environment.proofs.CatalogEnds.{user_is, user_none}
use Rattle.environment.proofs.environment.Environment.user.Goals as goal

pub returns-in-Some : goal.returns-in-Some
returns-in-Some g c = λ most st at sound.
    let none = sym at.fault ∙ c.requires.valid in
    let numbers = number_named (committed (cells_of c.args.self.now.engine.trees)) in
    user_is st numbers c.args.call.now c.in-Some.number c.user_of.result c.requires.call (at.valid none).makes.named (sym c.in-Some.is ∙ c.in_ok-number.ensures)
    (c.user_of.ensures.none st none sound at.sessions_at) (c.user_of.ensures.some st none sound at.sessions_at)

pub returns-in-None : goal.returns-in-None
returns-in-None g c = λ most st at sound.
    user_none st (number_named (committed (cells_of c.args.self.now.engine.trees))) c.args.call.now c.requires.call (sym c.in-None.is ∙ c.in_ok-number.ensures)

use Rattle.environment.proofs.CatalogEnds.{user_first}
use Rattle.environment.proofs.environment.Environment.user_before.Goals as goal

pub returns-in-ReadOnlyIndex : goal.returns-in-ReadOnlyIndex
returns-in-ReadOnlyIndex g c most st at sound = user_first st c.args.call.now c.args.answer.now c.user.result c.in-ReadOnlyIndex.is (c.user.ensures most st at sound)

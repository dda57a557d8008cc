use Rattle.std.proofs.Common.{rules}
use Rattle.db_catalog.proofs.planning.plan_remove.Goals as goal

pub returns : goal.returns
returns g c = search rules

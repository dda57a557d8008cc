use Rattle.std.proofs.Common.{rules}
use Rattle.db_catalog.proofs.planning.log_rename.Goals as goal

pub returns : goal.returns
returns c = search rules

use Rattle.std.proofs.Common.{rules}
use Rattle.db_catalog.proofs.db_kind.ended.Goals as goal

pub returns-else-is_empty : goal.returns-else-is_empty
returns-else-is_empty c = search rules

use Rattle.std.proofs.Common.{rules}
use Rattle.db_catalog.proofs.planning.changes_of.Goals as goal

pub returns-in_ok-copy_of-in-Remove : goal.returns-in_ok-copy_of-in-Remove
returns-in_ok-copy_of-in-Remove g c = search rules

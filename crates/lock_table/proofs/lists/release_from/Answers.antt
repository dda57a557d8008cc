use Rattle.std.proofs.Common.{rules}
use Rattle.lock_table.proofs.lists.release_from.Goals as goal

pub returns-clause-items : goal.returns-clause-items
returns-clause-items c = search rules

use Rattle.std.proofs.Common.{sym}
use Rattle.db_tree.proofs.Records.{nothing_given}
use Rattle.db_tree.proofs.tree.give_up.Goals as goal

pub returns-in-None : goal.returns-in-None
returns-in-None c = nothing_given c.args.cells.now c.args.name.now (sym c.in-None.ensures)

use Rattle.std.proofs.Common.{rules}
use Rattle.node_core.proofs.slots.is_below.Goals as goal

pub returns-in-Less : goal.returns-in-Less
returns-in-Less c = search rules

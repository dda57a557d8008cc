use Rattle.log_trees.proofs.Shown.{shows_are_slots}
use Rattle.log_trees.proofs.Rooted.{roots_show_rows}
use Rattle.log_trees.proofs.trees_show_their_slots.Goals as goal

pub returns : goal.returns
returns c = record { slots = shows_are_slots; roots = roots_show_rows }

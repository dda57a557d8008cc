use Rattle.log_trees.proofs.Staying.{slots_stay, shows_stay, roots_stay, trees_stay, roots_stay_right}
use Rattle.log_trees.proofs.LongerLogs.{readings_stay}
use Rattle.log_trees.proofs.trees_stay.Goals as goal

pub returns : goal.returns
returns c = record { slots = slots_stay; shows = shows_stay; roots = roots_stay; trees = trees_stay; right = roots_stay_right; readings = readings_stay }

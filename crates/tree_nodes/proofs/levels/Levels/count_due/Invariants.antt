use Rattle.std.proofs.Common.{◌≡◌, take}
use Rattle.std.specs.List.{sum_by}
use Rattle.tree_nodes.specs.Noted.{count_due}
use Rattle.tree_nodes.proofs.levels.Levels.count_due.Given as goal

abbrev pub invariant-loop-row : goal.invariant-loop-row
invariant-loop-row l = l.count ≡ sum_by count_due (take l.row-index l.row-items)

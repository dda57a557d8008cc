use Rattle.std.proofs.Common.{◌≤◌, ◌<◌, ℕ}
use Rattle.tree_nodes.specs.Levels.{row_of}
use Rattle.tree_nodes.specs.Marks.{IsFromRow, IsMarkOr}
use Rattle.tree_nodes.proofs.levels.Levels.least_mark.Given as goal

abbrev pub invariant-loop-level : goal.invariant-loop-level
invariant-loop-level l = (l.least ≤ l.fn.bound) × ((i : ℕ) → i < l.level → IsFromRow l.least (row_of l.levels.items i)) × IsMarkOr l.fn.bound l.levels.items l.least

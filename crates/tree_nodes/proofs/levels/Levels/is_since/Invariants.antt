use Rattle.std.proofs.Common.{◌<◌, ℕ}
use Rattle.tree_nodes.specs.Levels.{row_of}
use Rattle.tree_nodes.specs.Marks.{IsSinceRow}
use Rattle.tree_nodes.proofs.levels.Levels.is_since.Given as goal

abbrev pub invariant-loop-level : goal.invariant-loop-level
invariant-loop-level l = (i : ℕ) → i < l.level → IsSinceRow l.since (row_of l.levels.items i)

use Rattle.std.proofs.Common.{◌≡◌, ◌++◌, filter}
use Rattle.std.specs.Vec.Iter.{into_iter_items}
use Rattle.tree_nodes.specs.Levels.{row_of}
use Rattle.db_tree.specs.Waiting.{at_level}
use Rattle.db_tree.proofs.LoggedLaws.{waits_beside}
use Rattle.db_tree.proofs.tree.DbTree.push_each.Given as goal

abbrev pub invariant-loop-low : goal.invariant-loop-low
invariant-loop-low l =
    l.nodes.items ++ at_level l.level (filter (waits_beside (row_of l.self.levels l.level) l.split) (into_iter_items l.low-iterator)) ≡
    l.initial.nodes.items ++ at_level l.level (filter (waits_beside (row_of l.self.levels l.level) l.split) l.fn.lows.items)

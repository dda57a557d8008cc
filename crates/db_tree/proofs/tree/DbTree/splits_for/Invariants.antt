use Rattle.std.proofs.Common.{◌≡◌, ◌++◌, drop}
use Rattle.std.specs.Map.{keys_of}
use Rattle.tree_nodes.specs.Lows.{lows_of}
use Rattle.db_tree.specs.Splits.{slot_names, splits_from}
use Rattle.db_tree.proofs.tree.DbTree.splits_for.Given as goal

abbrev pub invariant-loop-level : goal.invariant-loop-level
invariant-loop-level l =
    l.splits.items ++ splits_from l.fanout l.name (slot_names l.self.cells (lows_of l.self.levels) l.level) (drop l.level (lows_of l.self.levels)) ≡ splits_from l.fanout l.name (keys_of l.self.cells) (lows_of l.self.levels)

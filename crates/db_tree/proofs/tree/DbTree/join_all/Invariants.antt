use Rattle.std.proofs.Common.{◌≡◌, ◌-◌, List, take}
use Rattle.tree_nodes.specs.Nodes.{NodeRow}
use Rattle.db_tree.specs.Splitting.{AreSplit}
use Rattle.db_tree.proofs.tree.DbTree.join_all.Given as goal

abbrev pub invariant-loop-i : goal.invariant-loop-i
invariant-loop-i l = record {
  cells : l.self.cells ≡ l.initial.self.cells;
  back : (before : List NodeRow) → AreSplit 0 (take l.count l.splits) before l.initial.self.levels → AreSplit 0 (take (l.count - l.i) l.splits) before l.self.levels;
}

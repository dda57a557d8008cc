use Rattle.std.proofs.Common.{◌≡◌, true, map, take}
use Rattle.db_tree.specs.NodeImages.{node_of}
use Rattle.db_tree.specs.Shapes.{AreForced}
use Rattle.db_tree.proofs.ForcedLaws.{waited_in}
use Rattle.db_tree.proofs.tree.DbTree.restore_all.Given as goal

abbrev pub invariant-loop-i : goal.invariant-loop-i
invariant-loop-i l = record {
  forced : AreForced true (map node_of (waited_in (take l.i l.images))) l.initial.self.levels l.self.levels;
  cells : l.self.cells ≡ l.initial.self.cells;
}

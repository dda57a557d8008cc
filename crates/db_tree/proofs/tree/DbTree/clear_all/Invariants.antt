use Rattle.std.proofs.Common.{◌≡◌, ℕ, false, map, take}
use Rattle.je_order.specs.declared.name.Name.{Name}
use Rattle.db_tree.specs.Images.{Placed}
use Rattle.db_tree.specs.NodeImages.{node_of}
use Rattle.db_tree.specs.Shapes.{AreForced}
use Rattle.db_tree.specs.Trees.{IsTree}
use Rattle.db_tree.proofs.tree.DbTree.clear_all.Given as goal

abbrev pub invariant-loop-i : goal.invariant-loop-i
invariant-loop-i l = record {
  forced : AreForced false (map node_of (take l.i l.images)) l.initial.self.levels l.self.levels;
  cells : l.self.cells ≡ l.initial.self.cells;
  tree : (es : Placed) (base : ℕ) (newest : Name → ℕ) → IsTree es base newest l.initial.self.levels l.initial.self.cells → IsTree es base newest l.self.levels l.self.cells;
}

use Rattle.std.proofs.Common.{◌≡◌, ◌++◌, map}
use Rattle.std.specs.List.{AllByRecursion}
use Rattle.std.specs.Vec.Iter.{into_iter_items}
use Rattle.db_tree.specs.NodeImages.{node_of, IsNodeImage, AreLoggable}
use Rattle.db_tree.specs.Waiting.{waits_at}
use Rattle.db_tree.proofs.tree.DbTree.images_of.Given as goal

abbrev pub invariant-loop-node : goal.invariant-loop-node
invariant-loop-node l = record {
  nodes : map node_of l.images.items ++ into_iter_items l.node-iterator ≡ l.fn.nodes.items;
  each : AllByRecursion (IsNodeImage l.db l.self.levels l.self.cells) l.images.items;
  loggable : AreLoggable l.images.items;
  waited : AllByRecursion (λ image. image.waited ≡ waits_at l.self.levels image.level image.low) l.images.items;
}

use Rattle.std.proofs.Common.{◌≡◌, ◌++◌, map}
use Rattle.std.specs.Vec.Iter.{into_iter_items}
use Rattle.db_tree.specs.NodeImages.{kept_child}
use Rattle.db_tree.proofs.imaging.kept_children.Given as goal

abbrev pub invariant-loop-slot : goal.invariant-loop-slot
invariant-loop-slot l = l.children.items ++ map kept_child (into_iter_items l.slot-iterator) ≡ map kept_child l.fn.slots

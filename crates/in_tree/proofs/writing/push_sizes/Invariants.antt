use Rattle.std.proofs.Common.{◌≡◌, ◌++◌, map, drop}
use Rattle.std.specs.List.{AllByRecursion}
use Rattle.log_entry.specs.Encoding.{size_of}
use Rattle.db_tree.specs.declared.node_image.NodeImage.{NodeImage}
use Rattle.db_tree.specs.NodeImages.{IsLoggable}
use Rattle.in_tree.proofs.writing.push_sizes.Given as goal

abbrev pub invariant-loop-image : goal.invariant-loop-image
invariant-loop-image l = record {
  loggable : AllByRecursion (λ (i : NodeImage). IsLoggable i.entry) (drop l.image-index l.images);
  sizes : l.sizes.items ++ map (λ (i : NodeImage). size_of i.entry) (drop l.image-index l.images) ≡ l.initial.sizes.items ++ map (λ (i : NodeImage). size_of i.entry) l.images;
}

use Rattle.in_tree.proofs.Written.{ImagesLeft}
use Rattle.in_tree.proofs.writing.log_images.Given as goal

abbrev pub invariant-loop-image : goal.invariant-loop-image
invariant-loop-image g l = ImagesLeft g.D.Disk.meaning l.initial.log l.log l.initial.tree l.tree l.fn.images.items l.image-iterator.rest.items

use Rattle.in_tree.proofs.FillRows.{ImagesLeft}
use Rattle.in_tree.proofs.filling.take_images.Given as goal

-- the images so far have their places
abbrev pub invariant-loop-image : goal.invariant-loop-image
invariant-loop-image l = ImagesLeft l.fn.images.items l.image-iterator.rest.items l.initial.tree l.tree l.initial.place l.place l.entries.items

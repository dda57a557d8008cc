use Rattle.std.proofs.Common.{drop}
use Rattle.file_use.specs.Live.{images_in_use}
use Rattle.recovery_je.proofs.ImageLaws.{IsAdding}
use Rattle.recovery_je.proofs.live_images.images_in_use.Given as goal

-- the images of the roots that are left
abbrev pub invariant-loop-root : goal.invariant-loop-root
invariant-loop-root g l =
    IsAdding (images_in_use (g.T.Loads.has_tree l.trees) l.entries l.roots) l.initial.images.keys (images_in_use (g.T.Loads.has_tree l.trees) l.entries (drop l.root-index l.roots)) l.images.keys

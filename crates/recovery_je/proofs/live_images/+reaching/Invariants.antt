use Rattle.std.proofs.Common.{◌+◌, drop, option_copied}
use Rattle.std.specs.List.{flat_map}
use Rattle.log_trees.specs.Images.{slot_shown}
use Rattle.log_trees.specs.Bounds.{children}
use Rattle.recovery_je.specs.Using.{images_of_children}
use Rattle.recovery_je.proofs.NodeWalks.{children_left}
use Rattle.recovery_je.proofs.ImageLaws.{IsAdding}
use Rattle.recovery_je.proofs.live_images.+reaching.Given as goal

abbrev pub decreases-add_below : goal.decreases-add_below
decreases-add_below l = l.above + l.above + l.above + l.above

abbrev pub decreases-add_pending : goal.decreases-add_pending
decreases-add_pending l = l.above + l.above + l.above + l.above + 1

abbrev pub decreases-add_children : goal.decreases-add_children
decreases-add_children l = l.above + l.above + l.above + l.above + 2

abbrev pub decreases-add_node : goal.decreases-add_node
decreases-add_node l = l.above + l.above + l.above + l.above + 3

-- the images of the children that are left
abbrev pub invariant-add_children-loop-marked : goal.invariant-add_children-loop-marked
invariant-add_children-loop-marked l =
    IsAdding (images_of_children l.entries l.above l.at (children l.initial.low (option_copied l.high) (flat_map slot_shown l.slots))) l.initial.images.keys
    (images_of_children l.entries l.above l.at (children_left l.low (option_copied l.high) (option_copied l.pending) (flat_map slot_shown (drop l.marked-index l.slots)))) l.images.keys

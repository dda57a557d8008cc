use Rattle.std.proofs.Common.{◌+◌, map, drop, option_copied}
use Rattle.std.specs.List.{flat_map}
use Rattle.log_trees.specs.Images.{slot_shown}
use Rattle.log_trees.specs.Bounds.{children}
use Rattle.check_laws.specs.Trees.{check_child, check_node}
use Rattle.recovery_je.proofs.NodeWalks.{children_left}
use Rattle.recovery_je.proofs.TreeCheckLaws.{ChecksOn}
use Rattle.recovery_je.proofs.node_checks.+descent.Given as goal

abbrev pub decreases-check_node : goal.decreases-check_node
decreases-check_node g l = l.above + l.above + l.above + l.above + l.above + 2

abbrev pub decreases-check_met : goal.decreases-check_met
decreases-check_met g l = l.above + l.above + l.above + l.above + l.above + 1

abbrev pub decreases-check_pending : goal.decreases-check_pending
decreases-check_pending g l = l.above + l.above + l.above + l.above + l.above + 3

abbrev pub decreases-check_children : goal.decreases-check_children
decreases-check_children g l = l.above + l.above + l.above + l.above + l.above + 4

abbrev pub decreases-check_below : goal.decreases-check_below
decreases-check_below g l = l.above + l.above + l.above + l.above + l.above

abbrev pub invariant-check_children-loop-marked : goal.invariant-check_children-loop-marked
invariant-check_children-loop-marked g l =
    ChecksOn g.T.Loads.stored (check_child (map (λ f. f.0) l.files) (check_node (map (λ f. f.0) l.files) l.entries l.d l.above) l.at) (children l.initial.low (option_copied l.high) (flat_map slot_shown l.slots))
    (children_left l.low (option_copied l.high) (option_copied l.pending) (flat_map slot_shown (drop l.marked-index l.slots))) l.initial.check l.check

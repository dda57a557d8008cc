use Rattle.std.proofs.Common.{◌+◌, map, drop, option_copied}
use Rattle.std.specs.List.{flat_map}
use Rattle.log_trees.specs.Images.{slot_shown}
use Rattle.log_trees.specs.Sound.{children}
use Rattle.log_trees.specs.Walk.{Walk, read_child, read_node}
use Rattle.recovery_je.specs.Walking.{IsWalking}
use Rattle.recovery_je.proofs.WalkLaws.{IsWalkingOn}
use Rattle.recovery_je.specs.Putting.{as_loaded, child_put}
use Rattle.recovery_je.proofs.NodeWalks.{children_left}
use Rattle.recovery_je.proofs.PutLaws.{IsPuttingOn}
use Rattle.recovery_je.proofs.descending.+descending.Given as goal

abbrev pub decreases-read_node : goal.decreases-read_node
decreases-read_node g l = l.above + l.above + l.above + l.above + 1

abbrev pub decreases-read_pending : goal.decreases-read_pending
decreases-read_pending g l = l.above + l.above + l.above + l.above + 2

abbrev pub decreases-read_children : goal.decreases-read_children
decreases-read_children g l = l.above + l.above + l.above + l.above + 3

abbrev pub decreases-read_below : goal.decreases-read_below
decreases-read_below g l = l.above + l.above + l.above + l.above

abbrev pub invariant-read_children-loop-marked : goal.invariant-read_children-loop-marked
invariant-read_children-loop-marked g l = record {
  walk :
      (walk : Walk) → IsWalking (g.T.Loads.stored l.initial.walking.trees) l.initial.walking.seen.keys l.initial.walking.node l.initial.walking.db walk →
      IsWalkingOn (read_child (map (λ f. f.0) l.files) (read_node (map (λ f. f.0) l.files) l.entries l.d l.above) l.at) (children l.initial.low (option_copied l.high) (flat_map slot_shown l.slots))
      (children_left l.low (option_copied l.high) (option_copied l.pending) (flat_map slot_shown (drop l.marked-index l.slots)))
      (IsWalking (g.T.Loads.stored l.walking.trees) l.walking.seen.keys l.walking.node l.walking.db) walk;
  nodes : IsPuttingOn (as_loaded g.T.Loads.nodes g.T.Loads.read) (child_put l.entries l.d l.above) (children l.initial.low (option_copied l.high) (flat_map slot_shown l.slots))
      (children_left l.low (option_copied l.high) (option_copied l.pending) (flat_map slot_shown (drop l.marked-index l.slots))) l.initial.walking l.walking;
}

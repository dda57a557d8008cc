use Rattle.std.proofs.Common.{◌+◌, List, Some, map, drop, option_copied, sym, subst, ◌∙◌}
use Rattle.std.specs.List.{flat_map}
use Rattle.log_trees.specs.Images.{slot_shown}
use Rattle.log_trees.specs.Bounds.{Child, children}
use Rattle.log_trees.specs.Walk.{read_child, read_node}
use Rattle.recovery_je.specs.Putting.{as_loaded, child_put}
use Rattle.recovery_je.specs.Walking.{IsWalking, waiting}
use Rattle.recovery_je.proofs.PutLaws.{IsPuttingOn, putting_on, put_node_then, put_one}
use Rattle.recovery_je.proofs.WalkLaws.{IsWalkingOn, walking_on}
use Rattle.recovery_je.proofs.NodeWalks.{node_goes_on, node_fails, children_left, next_step, child_step}
use Rattle.recovery_je.proofs.descending.+descending.Goals as goal

pub read_node-returns-in_err-node-clause-walk : goal.read_node-returns-in_err-node-clause-walk
read_node-returns-in_err-node-clause-walk g t c walk at =
    let after = c.take_node.new.walking in
    node_fails (map (λ f. f.0) c.args.files.now) c.args.entries.now c.args.d c.args.above c.args.low.now (option_copied c.args.high) c.args.at walk
    (IsWalking (g.T.Loads.stored after.trees) after.seen.keys after.node after.db) c.from_residual.result c.in_err-node.field-0.0 c.from_residual.ensures.1 (c.in_err-node.ensures.walk walk at)

pub read_node-returns-clause-walk : goal.read_node-returns-clause-walk
read_node-returns-clause-walk g t c walk at =
    let after = c.read_below-done.new.walking in
    let here = c.in_ok-node.ensures.walk walk at in
    node_goes_on (map (λ f. f.0) c.args.files.now) c.args.entries.now c.args.d c.args.above c.args.low.now (option_copied c.args.high) c.args.at walk c.in_ok-node.node c.as_slice.result.now
    (IsWalking (g.T.Loads.stored after.trees) after.seen.keys after.node after.db) c.read_below-done.result here.0 c.as_slice.ensures.value (c.read_below-done.ensures.walk _ here.1)

pub read_node-returns-clause-nodes : goal.read_node-returns-clause-nodes
read_node-returns-clause-nodes g t c =
    put_node_then (as_loaded g.T.Loads.nodes g.T.Loads.read) c.args.entries.now c.args.d c.args.above c.args.low.now (option_copied c.args.high) c.args.at c.in_ok-node.node c.as_slice.result.now c.args.walking.now c.take_node.new.walking
    c.read_below-done.new.walking c.read_below-done.result c.as_slice.ensures.value c.in_ok-node.ensures.nodes c.read_below-done.ensures.nodes

pub read_pending-returns-clause-nodes : goal.read_pending-returns-clause-nodes
read_pending-returns-clause-nodes g t c =
    rw c.in-Some.is (put_one (as_loaded g.T.Loads.nodes g.T.Loads.read) (child_put c.args.entries.now c.args.d c.args.above) (record { low = c.args.low.now; high = option_copied c.args.high; at = c.in-Some.child.now })
    c.args.walking.now c.read_node.new.walking c.read_node.result c.read_node.ensures.nodes)

pub read_children-loop-marked-preserved : goal.read_children-loop-marked-preserved
read_children-loop-marked-preserved g t c =
    let files = map (λ f. f.0) c.args.files.now in
    let es = c.args.entries.now in
    let slots = c.args.slots.now in
    let i = c.loop-marked.marked-index in
    let m = c.marked-item.result in
    let low = c.loop-marked.low.now in
    let high = option_copied c.args.high in
    let pending = option_copied c.loop-marked.pending in
    let before = c.loop-marked.walking in
    let after = c.read_pending-in-loop-marked.new.walking in
    let all = children c.args.low.now high (flat_map slot_shown slots) in
    let left = children_left low high pending (flat_map slot_shown (drop i slots)) in
    let more = waiting low (Some m.slot.name) pending in
    let rest = children_left m.slot.name high (Some c.in-There.child) (flat_map slot_shown (drop (i + 1) slots)) in
    let step = child_step low high pending slots i m c.in-There.child c.loop-marked-test.true c.marked-item.is c.in-There.is (sym c.child_ends_at.ensures ∙ c.if-not-child_ends_at.false) (sym c.is_below.ensures ∙ c.if-not-is_below.false) in
    record {
      walk = λ walk at.
          walking_on (read_child files (read_node files es c.args.d c.args.above) c.args.at) all left more rest
          (IsWalking (g.T.Loads.stored before.trees) before.seen.keys before.node before.db) (IsWalking (g.T.Loads.stored after.trees) after.seen.keys after.node after.db) walk
          step (c.loop-marked.invariant.walk walk at) c.in_ok-read_pending.ensures.walk;
      nodes = putting_on (as_loaded g.T.Loads.nodes g.T.Loads.read) (child_put es c.args.d c.args.above) all left rest more c.args.walking.now before after step c.loop-marked.invariant.nodes c.in_ok-read_pending.ensures.nodes;
    }

-- the child that waits has no name within the bounds
pub read_children-loop-marked-preserved-then-not-child_ends_at : goal.read_children-loop-marked-preserved-then-not-child_ends_at
read_children-loop-marked-preserved-then-not-child_ends_at g t c =
    let files = map (λ f. f.0) c.args.files.now in
    let es = c.args.entries.now in
    let slots = c.args.slots.now in
    let low = c.loop-marked.low.now in
    let high = option_copied c.args.high in
    let walking = c.loop-marked.walking in
    let all = children c.args.low.now high (flat_map slot_shown slots) in
    let step = next_step low high (option_copied c.loop-marked.pending) slots c.loop-marked.marked-index c.marked-item.result c.in-There.child c.loop-marked-test.true c.marked-item.is c.in-There.is (sym c.child_ends_at.ensures ∙ c.if-not-child_ends_at.true) in
    record {
      walk = λ walk at.
          subst (λ (l : List Child). IsWalkingOn (read_child files (read_node files es c.args.d c.args.above) c.args.at) all l (IsWalking (g.T.Loads.stored walking.trees) walking.seen.keys walking.node walking.db) walk) step
          (c.loop-marked.invariant.walk walk at);
      nodes = subst (λ (l : List Child). IsPuttingOn (as_loaded g.T.Loads.nodes g.T.Loads.read) (child_put es c.args.d c.args.above) all l c.args.walking.now walking) step c.loop-marked.invariant.nodes;
    }

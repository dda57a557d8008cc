use Rattle.std.proofs.Common.{◌+◌, ◌-◌, List, [], ◌∷◌, Option, Some, drop, option_copied, ap, sym, subst, ◌∙◌}
use Rattle.std.proofs.lemmas.Result.{on_ok_weaker}
use Rattle.node_core.specs.declared.node.Node.{Node}
use Rattle.std.specs.List.{flat_map}
use Rattle.log_trees.specs.Images.{slot_shown, slots_of_level}
use Rattle.log_trees.specs.Bounds.{Child, children}
use Rattle.file_use.specs.Images.{images_below}
use Rattle.recovery_je.specs.Using.{images_of_children}
use Rattle.recovery_je.specs.Walking.{waiting}
use Rattle.recovery_je.proofs.NodeWalks.{children_left, next_step, child_step}
use Rattle.recovery_je.proofs.ImageLaws.{IsAdding, adding_on, added_same, added_then, children_both, in_images}
use Rattle.recovery_je.proofs.live_images.+reaching.Goals as goal

pub add_below-returns : goal.add_below-returns
add_below-returns t c =
    let es = c.args.entries.now in
    let above = c.args.above in
    let at = c.args.at in
    let low = c.args.low.now in
    let high = option_copied c.args.high in
    let below = images_of_children es (above - 1) at (children low high (slots_of_level (above - 1 + 2) (Some c.in-Some.node))) in
    let all = in_images es above low high at c.if-above-eq0.false in
    let node = sym c.in-Some.is ∙ c.in_ok-node.ensures in
    on_ok_weaker c.add_node-done.result
    (λ added. added_same (at ∷ below) (images_below es above low high at) c.args.images.now.keys c.add_node-done.new.images.keys
    (ap (λ (o : Option Node). at ∷ images_of_children es (above - 1) at (children low high (slots_of_level (above - 1 + 2) o))) node ∙ sym all)
    (added_then (at ∷ []) below c.args.images.now.keys c.add_image.new.images.keys c.add_node-done.new.images.keys c.in_ok-add_image.ensures added))
    c.add_node-done.ensures

pub add_children-loop-marked-preserved : goal.add_children-loop-marked-preserved
add_children-loop-marked-preserved t c =
    let imgs = images_of_children c.args.entries.now c.args.above c.args.at in
    let slots = c.args.slots.now in
    let i = c.loop-marked.marked-index in
    let m = c.marked-item.result in
    let low = c.loop-marked.low.now in
    let high = option_copied c.args.high in
    let pending = option_copied c.loop-marked.pending in
    let left = children_left low high pending (flat_map slot_shown (drop i slots)) in
    let more = waiting low (Some m.slot.name) pending in
    let rest = children_left m.slot.name high (Some c.in-There.child) (flat_map slot_shown (drop (i + 1) slots)) in
    let step = child_step low high pending slots i m c.in-There.child c.loop-marked-test.true c.marked-item.is c.in-There.is (sym c.child_ends_at.ensures ∙ c.if-not-child_ends_at.false) (sym c.is_below.ensures ∙ c.if-not-is_below.false) in
    adding_on (imgs (children c.args.low.now high (flat_map slot_shown slots))) c.args.images.now.keys (imgs left) (imgs more) (imgs rest) c.loop-marked.images.keys c.add_pending-in-loop-marked.new.images.keys
    (ap imgs step ∙ children_both c.args.entries.now c.args.above c.args.at more rest) c.in_ok-add_pending.ensures c.loop-marked.invariant

-- the child that waits has no name within the bounds
pub add_children-loop-marked-preserved-then-not-child_ends_at : goal.add_children-loop-marked-preserved-then-not-child_ends_at
add_children-loop-marked-preserved-then-not-child_ends_at t c =
    let imgs = images_of_children c.args.entries.now c.args.above c.args.at in
    let slots = c.args.slots.now in
    let high = option_copied c.args.high in
    let step = next_step c.loop-marked.low.now high (option_copied c.loop-marked.pending) slots c.loop-marked.marked-index c.marked-item.result c.in-There.child c.loop-marked-test.true c.marked-item.is c.in-There.is (sym c.child_ends_at.ensures ∙ c.if-not-child_ends_at.true) in
    subst (λ (l : List Child). IsAdding (imgs (children c.args.low.now high (flat_map slot_shown slots))) c.args.images.now.keys (imgs l) c.loop-marked.images.keys) step c.loop-marked.invariant

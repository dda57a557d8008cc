use Rattle.std.proofs.Common.{◌≡◌, ◌+◌, ◌-◌, suc, Some, map, drop, option_copied, ap, sym, ◌∙◌, arith}
use Rattle.std.proofs.Math.ListN.{drop_of_length-le}
use Rattle.std.specs.List.{flat_map}
use Rattle.log_trees.specs.Images.{slot_shown}
use Rattle.log_trees.specs.Bounds.{children}
use Rattle.check_laws.specs.Trees.{check_child, check_node}
use Rattle.recovery_je.specs.Walking.{waiting}
use Rattle.recovery_je.proofs.NodeWalks.{children_left, next_step, child_step, last_step}
use Rattle.recovery_je.proofs.TreeCheckLaws.{ok_so, checks_on, checks_left, checks_end, none_left, below_in, node_met, node_wrong}
use Rattle.recovery_je.proofs.node_checks.+descent.Goals as goal

pub check_children-loop-marked-preserved : goal.check_children-loop-marked-preserved
check_children-loop-marked-preserved g t c =
    let files = map (λ f. f.0) c.args.files.now in
    let es = c.args.entries.now in
    let slots = c.args.slots.now in
    let i = c.loop-marked.marked-index in
    let m = c.marked-item.result in
    let low = c.loop-marked.low.now in
    let high = option_copied c.args.high in
    let pending = option_copied c.loop-marked.pending in
    let left = children_left low high pending (flat_map slot_shown (drop i slots)) in
    let more = waiting low (Some m.slot.name) pending in
    let rest = children_left m.slot.name high (Some c.in-There.child) (flat_map slot_shown (drop (i + 1) slots)) in
    let step = child_step low high pending slots i m c.in-There.child c.loop-marked-test.true c.marked-item.is c.in-There.is (sym c.child_ends_at.ensures ∙ c.if-not-child_ends_at.false) (sym c.is_below.ensures ∙ c.if-not-is_below.false) in
    checks_on g.T.Loads.stored (check_child files (check_node files es c.args.d c.args.above) c.args.at) (children c.args.low.now high (flat_map slot_shown slots)) left more rest c.args.check.now c.loop-marked.check
    c.check_pending-in-loop-marked.new.check step c.loop-marked.invariant c.in_ok-check_pending.ensures.checks

-- the child that waits has no name within the bounds
pub check_children-loop-marked-preserved-then-not-child_ends_at : goal.check_children-loop-marked-preserved-then-not-child_ends_at
check_children-loop-marked-preserved-then-not-child_ends_at g t c =
    let files = map (λ f. f.0) c.args.files.now in
    let es = c.args.entries.now in
    let slots = c.args.slots.now in
    let i = c.loop-marked.marked-index in
    let low = c.loop-marked.low.now in
    let high = option_copied c.args.high in
    let pending = option_copied c.loop-marked.pending in
    checks_left g.T.Loads.stored (check_child files (check_node files es c.args.d c.args.above) c.args.at) (children c.args.low.now high (flat_map slot_shown slots)) (children_left low high pending (flat_map slot_shown (drop i slots)))
    (children_left low high (Some c.in-There.child) (flat_map slot_shown (drop (i + 1) slots))) c.args.check.now c.loop-marked.check
    (next_step low high pending slots i c.marked-item.result c.in-There.child c.loop-marked-test.true c.marked-item.is c.in-There.is (sym c.child_ends_at.ensures ∙ c.if-not-child_ends_at.true)) c.loop-marked.invariant

pub check_children-returns-then-not-is_below : goal.check_children-returns-then-not-is_below
check_children-returns-then-not-is_below g t c =
    let files = map (λ f. f.0) c.args.files.now in
    let es = c.args.entries.now in
    let slots = c.args.slots.now in
    let i = c.loop-marked.marked-index in
    let m = c.marked-item.result in
    let low = c.loop-marked.low.now in
    let high = option_copied c.args.high in
    let pending = option_copied c.loop-marked.pending in
    let step = last_step low high pending slots i m c.in-There.child c.loop-marked-test.true c.marked-item.is c.in-There.is (sym c.child_ends_at.ensures ∙ c.if-not-child_ends_at.false) (sym c.is_below.ensures ∙ c.if-not-is_below.true) in
    record {
      checks = ok_so c.check_pending.result
          (checks_end g.T.Loads.stored (check_child files (check_node files es c.args.d c.args.above) c.args.at) (children c.args.low.now high (flat_map slot_shown slots)) (children_left low high pending (flat_map slot_shown (drop i slots)))
          (waiting low high pending) c.args.check.now c.loop-marked.check c.check_pending.new.check step c.loop-marked.invariant) c.check_pending.ensures.checks;
    }

pub check_children-returns : goal.check_children-returns
check_children-returns g t c =
    let files = map (λ f. f.0) c.args.files.now in
    let es = c.args.entries.now in
    let slots = c.args.slots.now in
    let i = c.loop-marked.marked-index in
    let low = c.loop-marked.low.now in
    let high = option_copied c.args.high in
    let pending = option_copied c.loop-marked.pending in
    let step = ap (λ l. children_left low high pending (flat_map slot_shown l)) (drop_of_length-le slots c.loop-marked-test.false) ∙ none_left low high pending in
    record {
      checks = ok_so c.check_pending-2.result
          (checks_end g.T.Loads.stored (check_child files (check_node files es c.args.d c.args.above) c.args.at) (children c.args.low.now high (flat_map slot_shown slots)) (children_left low high pending (flat_map slot_shown (drop i slots)))
          (waiting low high pending) c.args.check.now c.loop-marked.check c.check_pending-2.new.check step c.loop-marked.invariant) c.check_pending-2.ensures.checks;
    }

pub check_below-returns : goal.check_below-returns
check_below-returns g t c =
    let up = c.if-above-eq0.false in
    let is : c.args.above ≡ suc (c.args.above - 1) = omega (arith, up) in
    record {
      checks = ok_so c.check_children.result
          (below_in g.T.Loads.stored (map (λ f. f.0) c.args.files.now) c.args.entries.now c.args.d c.args.above (c.args.above - 1) c.args.low.now (option_copied c.args.high) c.args.at c.args.slots.now c.args.check.now c.check_children.new.check is)
          c.check_children.ensures.checks;
    }

pub check_node-returns-in-Ok : goal.check_node-returns-in-Ok
check_node-returns-in-Ok g t c =
    record {
      checks = ok_so c.check_met-done.result
          (node_met g.T.Loads.stored (map (λ f. f.0) c.args.files.now) c.args.entries.now c.args.d c.args.above c.args.low.now (option_copied c.args.high) c.args.at c.args.check.now c.check_met-done.new.check c.in-Ok.node c.in-Ok.ensures)
          c.check_met-done.ensures.checks;
    }

pub check_node-returns-in_ok-note_failure-in-Err : goal.check_node-returns-in_ok-note_failure-in-Err
check_node-returns-in_ok-note_failure-in-Err g t c =
    record {
      checks = node_wrong g.T.Loads.stored (map (λ f. f.0) c.args.files.now) c.args.entries.now c.args.d c.args.above c.args.low.now (option_copied c.args.high) c.args.at c.args.check.now c.note_failure.new.check c.in-Err.failure c.in-Err.ensures
          c.in_ok-note_failure-in-Err.ensures;
    }

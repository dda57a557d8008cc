use Rattle.std.proofs.Common.{map, drop, option_copied, ◌+◌}
use Rattle.std.specs.List.{flat_map}
use Rattle.log_trees.specs.Images.{slot_shown}
use Rattle.log_trees.specs.Bounds.{slots_inside}
use Rattle.check_laws.specs.Trees.{check_record}
use Rattle.recovery_je.proofs.NodeWalks.{slot_in_step}
use Rattle.recovery_je.proofs.TreeCheckLaws.{checks_on}
use Rattle.recovery_je.proofs.slot_checks.check_slots.Goals as goal

pub loop-marked-preserved : goal.loop-marked-preserved
loop-marked-preserved g c =
    let slots = c.args.slots.now in
    let i = c.loop-marked.marked-index in
    let low = c.args.low.now in
    let high = option_copied c.args.high in
    checks_on g.T.Loads.stored (check_record (map (λ f. f.0) c.args.files.now) c.args.entries.now c.args.d c.args.at) (slots_inside low high (flat_map slot_shown slots)) (slots_inside low high (flat_map slot_shown (drop i slots)))
    (slots_inside low high (slot_shown c.marked-item.result)) (slots_inside low high (flat_map slot_shown (drop (i + 1) slots))) c.args.check.now c.loop-marked.check c.check_within.new.check
    (slot_in_step low high slots i c.marked-item.result c.loop-marked-test.true c.marked-item.is) c.loop-marked.invariant c.in_ok-check_within.ensures.checks

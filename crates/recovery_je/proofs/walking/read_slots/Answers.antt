use Rattle.std.proofs.Common.{map, drop, option_copied, ◌+◌}
use Rattle.std.specs.List.{flat_map}
use Rattle.log_trees.specs.Images.{slot_shown}
use Rattle.log_trees.specs.Bounds.{slots_inside}
use Rattle.log_trees.specs.Walk.{read_record}
use Rattle.recovery_je.specs.Putting.{as_loaded}
use Rattle.recovery_je.specs.Walking.{IsWalking}
use Rattle.recovery_je.proofs.NodeWalks.{slot_in_step}
use Rattle.recovery_je.proofs.PutLaws.{still_on}
use Rattle.recovery_je.proofs.WalkLaws.{walking_on, walking_fails}
use Rattle.recovery_je.proofs.walking.read_slots.Goals as goal

pub loop-marked-preserved : goal.loop-marked-preserved
loop-marked-preserved g c =
    let slots = c.args.slots.now in
    let i = c.loop-marked.marked-index in
    let before = c.loop-marked.walking in
    let after = c.read_within.new.walking in
    let low = c.args.low.now in
    let high = option_copied c.args.high in
    record {
      walk = λ walk at.
          walking_on (read_record (map (λ f. f.0) c.args.files.now) c.args.entries.now c.args.d c.args.at) (slots_inside low high (flat_map slot_shown slots)) (slots_inside low high (flat_map slot_shown (drop i slots))) (slots_inside low high (slot_shown c.marked-item.result)) (slots_inside low high (flat_map slot_shown (drop (i + 1) slots)))
          (IsWalking (g.T.Loads.stored before.trees) before.seen.keys before.node before.db) (IsWalking (g.T.Loads.stored after.trees) after.seen.keys after.node after.db) walk
          (slot_in_step low high slots i c.marked-item.result c.loop-marked-test.true c.marked-item.is) (c.loop-marked.invariant.walk walk at) c.in_ok-read_within.ensures.walk;
      nodes = λ k x some. still_on (as_loaded g.T.Loads.nodes g.T.Loads.read) c.args.walking.now before after c.args.d k x some (c.loop-marked.invariant.nodes k x some) c.in_ok-read_within.ensures.nodes;
    }

pub returns-in_err-read_within-clause-walk : goal.returns-in_err-read_within-clause-walk
returns-in_err-read_within-clause-walk g c walk at =
    let slots = c.args.slots.now in
    let i = c.loop-marked.marked-index in
    let before = c.loop-marked.walking in
    let after = c.read_within.new.walking in
    let low = c.args.low.now in
    let high = option_copied c.args.high in
    walking_fails (read_record (map (λ f. f.0) c.args.files.now) c.args.entries.now c.args.d c.args.at) (slots_inside low high (flat_map slot_shown slots)) (slots_inside low high (flat_map slot_shown (drop i slots)))
    (slots_inside low high (slot_shown c.marked-item.result)) (slots_inside low high (flat_map slot_shown (drop (i + 1) slots)))
    (IsWalking (g.T.Loads.stored before.trees) before.seen.keys before.node before.db) (IsWalking (g.T.Loads.stored after.trees) after.seen.keys after.node after.db) walk
    c.from_residual.result c.in_err-read_within.field-0.0 c.from_residual.ensures.1 (slot_in_step low high slots i c.marked-item.result c.loop-marked-test.true c.marked-item.is)
    (c.loop-marked.invariant.walk walk at) c.in_err-read_within.ensures.walk

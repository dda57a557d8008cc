use Rattle.std.proofs.Common.{ℕ, drop, min, ap, ◌+◌, ◌∙◌}
use Rattle.in_tree.specs.Limits.{one_made}
use Rattle.in_tree.proofs.Preparation.{makes_begin, makes_turn, makes_step, makes_end, roots_begin, roots_turn, roots_step, roots_end, within_rooms}
use Rattle.in_tree.proofs.preparing.make_all.Goals as goal

pub loop-i-init : goal.loop-i-init
loop-i-init c = (makes_begin c.args.trees.now c.args.changes.now c.requires.none, roots_begin c.args.last c.args.trees.now c.args.changes.now c.args.rooms.now c.ranges.last.fits c.requires.paired)

pub make_one-requires : goal.make_one-requires
make_one-requires c =
    (makes_turn c.args.trees.now c.loop-i.trees c.args.changes.now c.loop-i.i c.index-changes-i.result c.loop-i-test.true c.index-changes-i.is c.loop-i.invariant.0).none.0

pub loop-i-preserved : goal.loop-i-preserved
loop-i-preserved c =
    let i = c.loop-i.i in
    let changes = c.args.changes.now in
    let one = c.make_one.ensures in (
      makes_step c.args.trees.now c.loop-i.trees c.make_one.new.trees changes (drop (i + 1) changes) c.index-changes-i.result
          (makes_turn c.args.trees.now c.loop-i.trees changes i c.index-changes-i.result c.loop-i-test.true c.index-changes-i.is c.loop-i.invariant.0)
          (record { same = one.same; stay = one.stay; none = one.none; kept = one.kept; waits = one.waits })
          c.in_ok-make_one.ensures.made,
      roots_step c.args.last c.args.trees.now c.loop-i.trees c.make_one.new.trees changes (drop (i + 1) changes) c.index-changes-i.result c.args.rooms.now (drop (i + 1) c.args.rooms.now) c.index-rooms-i.result c.loop-i.last _
          (roots_turn c.args.last c.args.trees.now c.loop-i.trees changes c.args.rooms.now i c.index-changes-i.result c.index-rooms-i.result c.loop-i.last c.loop-i-test.true c.index-changes-i.is (within_rooms c.requires.paired c.loop-i-test.true) c.index-rooms-i.is c.loop-i.invariant.1)
          (c.last_behind-last.ensures ∙ ap (λ (n : ℕ). min (c.loop-i.last + (n + one_made c.index-changes-i.result.makes)) 0xffffffffffffffff) c.made.ensures) c.in_ok-make_one.ensures.tree one.stay,
    )

pub returns-clause-made : goal.returns-clause-made
returns-clause-made c = makes_end c.args.trees.now c.loop-i.trees c.args.changes.now c.loop-i.i c.loop-i-test.false c.loop-i.invariant.0

pub returns-clause-trees : goal.returns-clause-trees
returns-clause-trees c = roots_end c.args.last c.args.trees.now c.loop-i.trees c.args.changes.now c.args.rooms.now c.loop-i.i c.loop-i.last c.loop-i-test.false c.loop-i.invariant.1

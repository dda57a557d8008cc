use Rattle.std.proofs.Common.{◌∙◌, ◌+◌, get_or, refl, arith}
use Rattle.std.proofs.lemmas.List.{get_or_default}
use Rattle.db_tree.proofs.WaitingNodes.{halves_next}
use Rattle.db_tree.proofs.tree.DbTree.wait_each.Goals as goal

pub loop-level-preserved : goal.loop-level-preserved
loop-level-preserved c =
    let so_far = c.loop-level.invariant in
    let low = c.wait.ensures in
    let middle = c.wait-in-loop-level.ensures in
    let a = so_far.few in
    let b = low.few in
    let d = middle.few in
    let splits = c.args.splits.now in
    let level = c.loop-level.level in
    let first = get_or splits level c.index-splits-level.result in
    let second = get_or splits level c.index-splits-level-in-loop-level.result in
    record {
      few = omega (arith, a, b, d);
      waiting = halves_next splits level (level + 1) first second c.args.self.now.levels c.loop-level.self.levels c.wait.new.self.levels
          c.wait-in-loop-level.new.self.levels c.loop-level-test.true
          (get_or_default splits level c.index-splits-level.result first c.loop-level-test.true) (get_or_default splits level c.index-splits-level-in-loop-level.result second c.loop-level-test.true) refl so_far.waiting low.waiting middle.waiting;
      since = λ all. middle.since (low.since (so_far.since all));
      cells = middle.cells ∙ low.cells ∙ so_far.cells;
      tree = λ es base newest tree. middle.tree es base newest (low.tree es base newest (so_far.tree es base newest tree));
    }

use Rattle.in_tree.proofs.Checked.{seen_rise}
use Rattle.in_tree.proofs.Placings.{same_seen_of}
use Rattle.in_tree.proofs.logged_trees.LogTrees.limit_with_slot.Goals as goal

pub invariant_of-self-in-Ok : goal.invariant_of-self-in-Ok
invariant_of-self-in-Ok g c =
    let trees = c.args.self.now.trees in (
      (trees.numbers, (trees.least, (trees.most, tt))),
      (seen_rise trees.forest c.take_back.new.trees (same_seen_of trees.forest c.take_back.new.trees (c.take_back.ensures trees.fanout trees.forest c.in-Ok.ensures.placed)) c.args.self.now.ordered, tt),
    )

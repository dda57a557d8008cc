use Rattle.in_tree.proofs.Sizes.{commits_step}
use Rattle.in_tree.proofs.logging_checkpoints.owed_sizes.Goals as goal

pub loop-i-preserved : goal.loop-i-preserved
loop-i-preserved c =
    commits_step c.loop-i.sizes.items c.push-in-loop-i.new.self.items c.commit_size-commit.result c.args.owed c.loop-i.i _ c.loop-i-test.true c.commit_size-commit.ensures c.in_ok-push-2.ensures.items c.loop-i.invariant

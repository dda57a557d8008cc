use Rattle.in_tree.proofs.Sizes.{commits_step}
use Rattle.in_tree.proofs.writing.push_commits.Goals as goal

pub loop-i-preserved : goal.loop-i-preserved
loop-i-preserved c =
    commits_step c.loop-i.sizes.items c.push.new.self.items c.commit_size-commit.result c.args.owed c.loop-i.i _ c.loop-i-test.true c.commit_size-commit.ensures c.in_ok-push.ensures.items c.loop-i.invariant

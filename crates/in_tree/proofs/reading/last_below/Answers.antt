use Rattle.in_tree.proofs.Checked.{rises_none}
use Rattle.in_tree.proofs.reading.last_below.Goals as goal

pub returns-in-None-clause-rising : goal.returns-in-None-clause-rising
returns-in-None-clause-rising c = rises_none c.args.trees.now c.args.db c.in-None.ensures.value

use Rattle.in_tree.proofs.Waits.{gone_waits}
use Rattle.in_tree.proofs.forest.drop_db.Goals as goal

pub returns-clause-waits : goal.returns-clause-waits
returns-clause-waits c = gone_waits c.args.trees.now c.remove.new.self c.args.db c.remove.ensures.updates.0 c.ranges.db.fits

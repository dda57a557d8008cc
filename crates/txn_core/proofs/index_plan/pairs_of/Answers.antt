use Rattle.txn_core.specs.Known.{committed}
use Rattle.txn_core.specs.Fills.{records_at}
use Rattle.txn_core.proofs.index_plan.pairs_of.Goals as goal

pub returns : goal.returns
returns g c up = c.sort_pairs.ensures c.args.extract.now (records_at (committed (g.T.Records.cells c.args.trees.now)) c.args.primary) up c.in_ok-pairs.ensures

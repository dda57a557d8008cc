use Rattle.in_tree.proofs.LoadedLaws.{dropped_fits}
use Rattle.in_tree.proofs.trees.Trees.drop_db.Goals as goal

pub returns-clause-fits : goal.returns-clause-fits
returns-clause-fits c es base fits more below = dropped_fits es base c.args.self.now.last_node c.args.db c.args.self.now.forest c.drop_db.new.trees c.drop_db.ensures.gone (fits more below)

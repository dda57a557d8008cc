use Rattle.in_tree.proofs.TreesGrown.{abort_grows}
use Rattle.in_tree.proofs.logged_trees.LogTreesRecords.abort.Goals as goal

pub returns-clause-grew : goal.returns-clause-grew
returns-clause-grew g c = abort_grows g.D.Disk.meaning c.args.names.now c.args.self.now.log c.args.self.now.trees.last_node c.args.self.now.trees.forest c.abort_each.new.trees c.abort_each.ensures.steps

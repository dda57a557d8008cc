use Rattle.in_tree.proofs.Checked.{dropped_rise}
use Rattle.in_tree.specs.Forest.{cells_seen}
use Rattle.in_tree.proofs.TreesGrown.{drop_grows}
use Rattle.in_tree.proofs.logged_trees.LogTreesRecords.drop_db.Goals as goal

pub invariant_of-self : goal.invariant_of-self
invariant_of-self g c =
    let trees = c.args.self.now.trees in
    ((trees.numbers, (trees.least, (trees.most, tt))), (dropped_rise (cells_seen trees.forest) (cells_seen c.drop_db.new.trees) c.args.db c.drop_db.ensures.cells c.args.self.now.ordered, tt))

pub returns-clause-grew : goal.returns-clause-grew
returns-clause-grew g c = drop_grows g.D.Disk.meaning c.args.db c.args.self.now.log c.args.self.now.trees.last_node c.args.self.now.trees.forest c.drop_db.new.trees c.drop_db.ensures.gone

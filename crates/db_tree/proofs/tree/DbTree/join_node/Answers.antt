use Rattle.db_tree.proofs.SplitLaws.{back_by_name}
use Rattle.db_tree.proofs.tree.DbTree.join_node.Goals as goal

pub returns-clause-back : goal.returns-clause-back
returns-clause-back c = λ before node free put. back_by_name before c.args.self.now.levels c.join.new.self c.args.level c.args.middle.now node free put c.join.ensures.taken

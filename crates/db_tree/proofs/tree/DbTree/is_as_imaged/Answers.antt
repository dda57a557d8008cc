use Rattle.tree_nodes.specs.Levels.{row_of}
use Rattle.db_tree.proofs.Contents.{above_if_some}
use Rattle.db_tree.proofs.tree.DbTree.is_as_imaged.Goals as goal

pub between-requires : goal.between-requires
between-requires c = above_if_some c.upper_bound-high.result c.args.low.now (row_of c.args.self.now.levels 0) c.upper_bound-high.ensures

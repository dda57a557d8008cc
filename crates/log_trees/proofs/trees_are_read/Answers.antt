use Rattle.log_trees.proofs.Reading.{roots_are_read}
use Rattle.log_trees.proofs.Right.{read_trees_are_right}
use Rattle.log_trees.proofs.trees_are_read.Goals as goal

pub returns : goal.returns
returns c = record { read = roots_are_read; right = read_trees_are_right }

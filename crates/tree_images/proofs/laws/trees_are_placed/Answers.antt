use Rattle.tree_images.proofs.PlacedTrees.{trees_placed, unlogged_imaged}
use Rattle.tree_images.proofs.laws.trees_are_placed.Goals as goal

pub returns-clause-logged : goal.returns-clause-logged
returns-clause-logged c = trees_placed

pub returns-clause-unlogged : goal.returns-clause-unlogged
returns-clause-unlogged c = unlogged_imaged

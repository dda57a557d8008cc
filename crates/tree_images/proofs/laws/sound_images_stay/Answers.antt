use Rattle.tree_images.proofs.Forests.{forests_stay}
use Rattle.tree_images.proofs.Images.{images_stay}
use Rattle.tree_images.proofs.Longer.{trees_stay}
use Rattle.tree_images.proofs.laws.sound_images_stay.Goals as goal

pub returns-clause-images : goal.returns-clause-images
returns-clause-images c = images_stay

pub returns-clause-trees : goal.returns-clause-trees
returns-clause-trees c = trees_stay

pub returns-clause-forests : goal.returns-clause-forests
returns-clause-forests c = forests_stay

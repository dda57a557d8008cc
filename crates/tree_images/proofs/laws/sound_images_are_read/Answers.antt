use Rattle.tree_images.proofs.Images.{images_are_trees, images_show, images_are_read}
use Rattle.tree_images.proofs.laws.sound_images_are_read.Goals as goal

pub returns-clause-trees : goal.returns-clause-trees
returns-clause-trees c = images_are_trees

pub returns-clause-shows : goal.returns-clause-shows
returns-clause-shows c = images_show

pub returns-clause-read : goal.returns-clause-read
returns-clause-read c = images_are_read

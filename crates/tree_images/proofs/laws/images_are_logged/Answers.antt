use Rattle.tree_images.proofs.DueImages.{due_logged}
use Rattle.tree_images.proofs.laws.images_are_logged.Goals as goal

pub returns : goal.returns
returns c = due_logged

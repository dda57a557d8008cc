use Rattle.log_meaning.proofs.Images.{images_recover}
use Rattle.log_meaning.proofs.images_recover.Goals as goal

pub returns : goal.returns
returns c = images_recover

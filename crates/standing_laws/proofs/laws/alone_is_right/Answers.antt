use Rattle.standing_laws.proofs.AloneRight.{alone-is_right}
use Rattle.standing_laws.proofs.laws.alone_is_right.Goals as goal

pub returns : goal.returns
returns c = alone-is_right

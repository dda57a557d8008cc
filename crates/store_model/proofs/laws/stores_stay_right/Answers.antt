use Rattle.store_model.proofs.StoreLaws.{new_is_right, changed_is_right}
use Rattle.store_model.proofs.laws.stores_stay_right.Goals as goal

pub returns : goal.returns
returns c = (new_is_right, changed_is_right)

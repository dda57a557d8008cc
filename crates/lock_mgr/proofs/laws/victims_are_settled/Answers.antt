use Rattle.lock_mgr.proofs.OneChoice.{victims_settled}
use Rattle.lock_mgr.proofs.laws.victims_are_settled.Goals as goal

pub returns : goal.returns
returns c = victims_settled

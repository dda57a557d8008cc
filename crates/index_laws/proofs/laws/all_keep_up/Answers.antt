use Rattle.index_laws.proofs.KeepingUp.{all-keep_up}
use Rattle.index_laws.proofs.laws.all_keep_up.Goals as goal

pub returns : goal.returns
returns c = all-keep_up

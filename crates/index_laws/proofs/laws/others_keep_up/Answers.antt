use Rattle.index_laws.proofs.KeepingUp.{others-keep_up}
use Rattle.index_laws.proofs.laws.others_keep_up.Goals as goal

pub returns : goal.returns
returns c = others-keep_up

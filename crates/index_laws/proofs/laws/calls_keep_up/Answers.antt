use Rattle.index_laws.proofs.KeepingUp.{calls-keep_up}
use Rattle.index_laws.proofs.laws.calls_keep_up.Goals as goal

pub returns : goal.returns
returns c = calls-keep_up

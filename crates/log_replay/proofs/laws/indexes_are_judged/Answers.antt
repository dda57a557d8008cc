use Rattle.log_replay.proofs.IndexedLaws.{indexes_are_judged}
use Rattle.log_replay.proofs.laws.indexes_are_judged.Goals as goal

pub returns : goal.returns
returns c = indexes_are_judged

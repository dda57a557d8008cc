use Rattle.store_model.proofs.IndexLaws.{indexes-keep_up}
use Rattle.store_model.proofs.laws.indexes_keep_up.Goals as goal

pub returns : goal.returns
returns c = indexes-keep_up

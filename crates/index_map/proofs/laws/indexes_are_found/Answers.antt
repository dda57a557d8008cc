use Rattle.index_map.proofs.Found as laws
use Rattle.index_map.proofs.laws.indexes_are_found.Goals as goal

pub returns : goal.returns
returns c = laws.indexes_are_found

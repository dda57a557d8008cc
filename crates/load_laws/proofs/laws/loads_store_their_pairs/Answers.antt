use Rattle.load_laws.proofs.LoadStores.{pairs_stored}
use Rattle.load_laws.proofs.laws.loads_store_their_pairs.Goals as goal

pub returns : goal.returns
returns c = pairs_stored

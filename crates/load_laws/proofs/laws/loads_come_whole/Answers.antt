use Rattle.load_laws.proofs.LoadImages.{loads_whole}
use Rattle.load_laws.proofs.laws.loads_come_whole.Goals as goal

pub returns : goal.returns
returns c = loads_whole

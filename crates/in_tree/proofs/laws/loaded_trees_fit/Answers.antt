use Rattle.in_tree.proofs.LoadedLaws.{read_fits}
use Rattle.in_tree.proofs.laws.loaded_trees_fit.Goals as goal

pub returns : goal.returns
returns c = read_fits

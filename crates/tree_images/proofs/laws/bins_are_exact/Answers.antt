use Rattle.tree_images.proofs.Exact.{grown_exact, new_exact, unlogged_exact}
use Rattle.tree_images.proofs.PlacedExact.{placed_exact}
use Rattle.tree_images.proofs.laws.bins_are_exact.Goals as goal

pub returns-clause-grown : goal.returns-clause-grown
returns-clause-grown c = grown_exact

pub returns-clause-unlogged : goal.returns-clause-unlogged
returns-clause-unlogged c = unlogged_exact

pub returns-clause-new : goal.returns-clause-new
returns-clause-new c = new_exact

pub returns-clause-placed : goal.returns-clause-placed
returns-clause-placed c = placed_exact

use Rattle.tree_images.proofs.Ordered.{orders_stay, placed_in_order}
use Rattle.tree_images.proofs.laws.nodes_are_in_order.Goals as goal

pub returns-clause-stay : goal.returns-clause-stay
returns-clause-stay c = orders_stay

pub returns-clause-placed : goal.returns-clause-placed
returns-clause-placed c = placed_in_order

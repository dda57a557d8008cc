-- The trees of an environment as a whole.
use Rattle.std.specs.Prelude.{ℕ, Bool}
use Rattle.record_tree.specs.Occupied.{AllCells}
use Rattle.record_tree.specs.Stored.{AllStored}
use Rattle.in_tree.specs.declared.trees.Trees.{Trees}
use Rattle.in_tree.specs.Forest.{cells_seen, is_there}
use Rattle.in_tree.specs.Stored.{stored_of}
use Rattle.in_tree.specs.Waits.{waits_in}

-- what is seen in trees, and which databases have one
abbrev pub seen_in : Trees → AllCells
seen_in trees = cells_seen trees.forest

abbrev pub has_tree_in : Trees → ℕ → Bool
has_tree_in trees d = is_there trees.forest d

-- the records in trees that are made of a log
abbrev pub stored_within : Trees → AllStored
stored_within trees = stored_of trees.forest

-- the node number that was allocated last
abbrev pub last_number_of : Trees → ℕ
last_number_of trees = trees.last_node

-- how many nodes wait to be logged
abbrev pub waits_within : Trees → ℕ
waits_within trees = waits_in trees.forest

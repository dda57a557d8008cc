-- What the crates above see of the trees of an environment over their log, whose fields are private.
use Rattle.std.specs.Prelude.{◌++◌, ℕ, Bool, List, [], Option}
use Rattle.je_disk.specs.DiskMeaning.{DiskMeaning}
use Rattle.log_entry.specs.declared.entry.Entry.{Entry}
use Rattle.db_tree.specs.declared.tree.DbTree.{DbTree}
use Rattle.record_tree.specs.Occupied.{AllCells}
use Rattle.record_tree.specs.declared.tree_change.TreeChange.{TreeChange}
use Rattle.record_tree.specs.declared.tree_err.TreeErr.{TreeErr}
use Rattle.in_tree.specs.declared.logged_trees.LogTrees.{LogTrees}
use Rattle.in_tree.specs.Forest.{cells_seen, is_there}
use Rattle.in_tree.specs.Filling.{limit_filling}
use Rattle.in_tree.specs.Fitting.{fitting_tried}
use Rattle.in_tree.specs.Growing.{trees_at, TreesGrew, trees_grew_none, trees_grew_then}
use Rattle.in_tree.specs.Limits.{limit_of, TriedFitting}
use Rattle.in_tree.specs.Shapes.{shapes_of}
use Rattle.in_tree.specs.Waits.{waits_in}

module _ {D : Type 0} where
  -- the occupied names of each database with what they have
  abbrev pub cells_of : LogTrees D → AllCells
  cells_of x = cells_seen x.trees.forest

  -- whether a database of that number has a tree
  abbrev pub has_tree_of : LogTrees D → ℕ → Bool
  has_tree_of x d = is_there x.trees.forest d

  -- the limit that changes, with so many Commits owed, would meet
  abbrev pub limit_in : LogTrees D → List TreeChange → ℕ → Option TreeErr
  limit_in x changes owed = limit_of x.log x.trees.fanout x.trees.last_node (shapes_of x.trees.forest) changes owed

  -- the limit that changes that make a database and fill it would meet
  abbrev pub limit_filling_in : LogTrees D → List TreeChange → ℕ → Option TreeErr
  limit_filling_in x changes owed = limit_filling x.log x.trees.fanout x.trees.last_node (shapes_of x.trees.forest) changes owed

  -- how many nodes wait to be logged
  abbrev pub waits_of : LogTrees D → ℕ
  waits_of x = waits_in x.trees.forest

  -- the trees by their databases' numbers, and the node number that was allocated last
  abbrev pub trees_of : LogTrees D → ℕ → Option DbTree
  trees_of x = trees_at x.trees.forest

  abbrev pub last_node_of : LogTrees D → ℕ
  last_node_of x = x.trees.last_node

  module _ (meaning : DiskMeaning D) where
    -- the log got these entries, which fit it; trees that fitted it fit the longer one
    abbrev pub GrewTrees : LogTrees D → LogTrees D → List Entry → Type 0
    GrewTrees old new entries = TreesGrew meaning old.log new.log (last_node_of old) (last_node_of new) (trees_of old) (trees_of new) entries

    pub grew_none : (x : LogTrees D) → GrewTrees x x []
    grew_none x = trees_grew_none meaning x.log (last_node_of x) (trees_of x)

    pub grew_then : (x y z : LogTrees D) (a b : List Entry) → GrewTrees x y a → GrewTrees y z b → GrewTrees x z (a ++ b)
    grew_then x y z a b first second =
        trees_grew_then meaning x.log y.log z.log (last_node_of x) (last_node_of y) (last_node_of z) (trees_of x) (trees_of y) (trees_of z) a b first second

    pub tried_then : (x y z : LogTrees D) (a b : List Entry) → GrewTrees x y a → TriedFitting meaning y.log z.log b → TriedFitting meaning x.log z.log (a ++ b)
    tried_then x y z a b first tried = fitting_tried meaning x.log y.log z.log a b first.fitting tried

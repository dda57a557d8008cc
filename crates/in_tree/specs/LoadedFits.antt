-- What trees that are made of a log fit.
use Rattle.std.specs.Prelude.{◌<◌, ℕ, List}
use Rattle.std.specs.List.{AllByRecursion}
use Rattle.record_tree.specs.LoadedNodes.{AllNodes}
use Rattle.record_tree.specs.LoadedSlots.{AllRead}
use Rattle.log_trees.specs.Placed.{Placed}
use Rattle.log_meaning.specs.Checkpoint.{Checkpoint}
use Rattle.log_meaning.specs.ReadNodes.{AreReadFrom}
use Rattle.in_tree.specs.declared.trees.Trees.{Trees}
use Rattle.in_tree.specs.Loaded.{AreFormed, nodes_of, FitsUpTo}
use Rattle.in_tree.specs.Stored.{read_of}
use Rattle.in_tree.specs.Whole.{stored_within, last_number_of}

-- what holds of all such trees, their nodes, and that they fit a log, unless the numbers of nodes have ended
abbrev pub formed_within : Trees → Type 0
formed_within trees = AreFormed trees.forest

abbrev pub nodes_within : Trees → AllNodes
nodes_within trees = nodes_of trees.forest

abbrev pub read_within : Trees → AllRead
read_within trees = read_of trees.forest

abbrev pub fits_within : Trees → List Placed → ℕ → Type 0
fits_within trees es base = FitsUpTo trees.last_node trees.forest es base

-- trees that were read from a checkpoint's roots fit the log that was read, in a life of the environment that begins behind it
abbrev pub LoadedTreesFit : Type 0
LoadedTreesFit = (trees : Trees) (es : List Placed) (c : Checkpoint) (base : ℕ) → formed_within trees → AreReadFrom es c (nodes_within trees) (read_within trees) (stored_within trees) (last_number_of trees) →
    AllByRecursion (λ p. p.0 < base) es → fits_within trees es base

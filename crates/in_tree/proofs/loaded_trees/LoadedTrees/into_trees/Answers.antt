use Rattle.std.proofs.Common.{◌∙◌, ap, map}
use Rattle.in_tree.specs.declared.trees.Trees.{Trees}
use Rattle.in_tree.specs.Forest.{cells_at}
use Rattle.in_tree.specs.Stored.{committed_cell}
use Rattle.in_tree.specs.Whole.{stored_within}
use Rattle.db_tree.proofs.Seen.{occupied_rises}
use Rattle.in_tree.proofs.StoredLaws.{forest_seen}
use Rattle.in_tree.proofs.loaded_trees.LoadedTrees.into_trees.Goals as goal

pub returns-clause-seen : goal.returns-clause-seen
returns-clause-seen c = λ d. forest_seen c.self.inside.trees.forest c.self.invariant.formed.quiet d ∙ ap (λ (t : Trees). map committed_cell (stored_within t d)) c.self.view_is

pub returns-clause-rising : goal.returns-clause-rising
returns-clause-rising c = λ d. occupied_rises (cells_at c.self.inside.trees.forest d) (c.self.invariant.formed.quiet d).rising

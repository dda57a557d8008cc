use Rattle.std.proofs.Common.{subst, ℕ}
use Rattle.record_map.specs.Cells.{IsRising}
use Rattle.in_tree.specs.declared.trees.Trees.{Trees}
use Rattle.in_tree.specs.Whole.{stored_within}
use Rattle.in_tree.proofs.StoredLaws.{forest_rises}
use Rattle.in_tree.proofs.loaded_trees.LoadedTreesLoads.lend_records.Goals as goal

pub returns-clause-rising : goal.returns-clause-rising
returns-clause-rising c = subst (λ (t : Trees). (d : ℕ) → IsRising (stored_within t d)) c.self.view_is (forest_rises c.self.inside.trees.forest c.self.invariant.formed.quiet)

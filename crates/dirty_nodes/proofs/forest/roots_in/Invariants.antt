use Rattle.std.proofs.Common.{◌≡◌, ◌++◌}
use Rattle.std.specs.List.{flat_map}
use Rattle.tree_images.specs.Roots.{root_image}
use Rattle.dirty_nodes.specs.Forest.{root_for}
use Rattle.dirty_nodes.proofs.forest.roots_in.Given as goal

abbrev pub invariant-loop-db : goal.invariant-loop-db
invariant-loop-db l =
    l.roots.items ++ flat_map (λ e. root_for e.0 (root_image e.1)) l.db-iterator ≡ flat_map (λ e. root_for e.0 (root_image e.1)) l.forest.entries

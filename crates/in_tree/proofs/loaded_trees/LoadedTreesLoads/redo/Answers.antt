use Rattle.std.proofs.Common.{subst}
use Rattle.record_tree.specs.LoadedNodes.{AreNodesStill}
use Rattle.in_tree.specs.declared.trees.Trees.{Trees}
use Rattle.in_tree.specs.LoadedFits.{nodes_within}
use Rattle.in_tree.proofs.LoadedLaws.{cells_already}
use Rattle.in_tree.proofs.loaded_trees.LoadedTreesLoads.redo.Goals as goal

pub returns-in-Ok-redo-clause-nodes : goal.returns-in-Ok-redo-clause-nodes
returns-in-Ok-redo-clause-nodes c = λ slot found.
    subst (λ (t : Trees). AreNodesStill (nodes_within t) (nodes_within c.redo.new.self)) c.self.view_is
    (c.in-Ok-redo.ensures.already
    (cells_already c.self.inside.trees c.args.self.now c.args.db c.in-Ok.name c.args.name c.args.at c.args.value c.self.view_is c.in-Ok.ensures c.self.invariant.formed.quiet slot found))

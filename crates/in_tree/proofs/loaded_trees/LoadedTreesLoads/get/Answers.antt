use Rattle.std.proofs.Common.{◌∙◌, ap, sym}
use Rattle.record_map.specs.Cells.{value_at}
use Rattle.in_tree.specs.declared.trees.Trees.{Trees}
use Rattle.in_tree.specs.Forest.{cells_at}
use Rattle.in_tree.specs.Whole.{stored_within}
use Rattle.in_tree.proofs.StoredLaws.{stored_at_name}
use Rattle.in_tree.proofs.loaded_trees.LoadedTreesLoads.get.Goals as goal

pub returns : goal.returns
returns c = record {
  found =
      c.get.ensures
      ∙ sym (stored_at_name (cells_at c.self.inside.trees.forest c.args.db) c.args.name.now (c.self.invariant.formed.quiet c.args.db).rising)
      ∙ ap (λ (t : Trees). value_at c.args.name.now (stored_within t c.args.db)) c.self.view_is;
}

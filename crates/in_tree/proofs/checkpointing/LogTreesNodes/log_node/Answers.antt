use Rattle.std.proofs.Common.{[], ◌∷◌, ◌∙◌, ap, refl, sym}
use Rattle.log_entry.specs.declared.entry.Entry.TheVariants.{Bin}
use Rattle.record_tree.specs.declared.tree_err.TreeErr.TheVariants.{Fault}
use Rattle.db_tree.proofs.Ending.{ok_then}
use Rattle.in_tree.proofs.Checked.{ends_by, tried_none}
use Rattle.dirty_nodes.specs.Forest.{is_noted_in}
use Rattle.in_tree.specs.declared.trees.Trees.{Trees}
use Rattle.in_tree.proofs.Checkpoints.{alone_grows, alone_tried}
use Rattle.in_tree.proofs.NotedTrees.{on_ok}
use Rattle.in_tree.proofs.checkpointing.LogTreesNodes.log_node.Goals as goal

pub returns-then-has_failed-clause-tried : goal.returns-then-has_failed-clause-tried
returns-then-has_failed-clause-tried g c = λ is. (
  Bin 0 0 [],
  [],
  tt,
  (Bin 0 0 [] ∷ [], refl),
  tried_none g.D.Disk.meaning c.args.self.now.log (sym c.has_failed.ensures ∙ c.if-has_failed.true),
)

pub returns-in-Ok-take_place-clause-grew : goal.returns-in-Ok-take_place-clause-grew
returns-in-Ok-take_place-clause-grew g c = ok_then c.log_alone.result (λ logs.
    alone_grows g.D.Disk.meaning c.args.self.now.log c.take_place.new.self.log c.log_alone.new.log c.args.place.now _ c.args.self.now.trees c.take_place.new.self.trees c.log_alone.new.trees
    c.take_place.ensures.log c.in-Ok.ensures.image c.take_place.ensures.trees logs) c.log_alone.ensures.grew

pub returns-in-Ok-take_place-clause-noted : goal.returns-in-Ok-take_place-clause-noted
returns-in-Ok-take_place-clause-noted g c = on_ok c.log_alone.result _ (λ p. c.log_alone.ensures.noted p ∙ ap (λ (t : Trees). is_noted_in t.forest p) c.take_place.ensures.trees)

pub returns-in-Ok-take_place-clause-tried : goal.returns-in-Ok-take_place-clause-tried
returns-in-Ok-take_place-clause-tried g c = ends_by c.log_alone.result Fault
    (alone_tried g.D.Disk.meaning c.args.self.now.log c.take_place.new.self.log c.log_alone.new.log c.take_place.ensures.log) c.log_alone.ensures.tried

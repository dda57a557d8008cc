use Rattle.std.proofs.Common.{◌∙◌, ap, subst, sym}
use Rattle.log_entry.specs.declared.entry.Entry.TheVariants.{CkptStart}
use Rattle.in_tree.specs.Observed.{grew_none}
use Rattle.record_tree.specs.Occupied.{AreSame}
use Rattle.dirty_nodes.specs.Forest.{HasAllNumbers, is_to_note_in}
use Rattle.in_tree.specs.declared.trees.Trees.{Trees}
use Rattle.in_tree.specs.Forest.{cells_seen, is_there}
use Rattle.in_tree.specs.Limits.{HasRoomFor, commit_sizes}
use Rattle.in_tree.specs.Waits.{waits_in}
use Rattle.in_tree.proofs.NotedTrees.{noted_behind, noted_cells, noted_places, le_from, noted_trees, noted_waits}
use Rattle.in_tree.proofs.checkpointing.LogTreesNodes.log_start.Goals as goal

pub note_all-requires : goal.note_all-requires
note_all-requires g c =
    subst (λ (t : Trees). HasAllNumbers t.forest c.as_slice.result.now) (sym c.log_plain.ensures.trees) (subst (HasAllNumbers c.args.self.now.trees.forest) (sym c.as_slice.ensures.value) c.in-Ok.ensures)

pub returns-in-Ok-log_plain-clause-cells : goal.returns-in-Ok-log_plain-clause-cells
returns-in-Ok-log_plain-clause-cells g c =
    subst (λ (t : Trees). AreSame (cells_seen t.forest) (cells_seen c.note_all.new.self.trees.forest)) c.log_plain.ensures.trees
    (noted_cells c.log_plain.new.self.trees.forest c.note_all.new.self.trees.forest c.note_all.ensures.noted)

pub returns-in-Ok-log_plain-clause-trees : goal.returns-in-Ok-log_plain-clause-trees
returns-in-Ok-log_plain-clause-trees g c = λ d.
    noted_trees c.log_plain.new.self.trees.forest c.note_all.new.self.trees.forest c.note_all.ensures.noted d ∙ ap (λ (t : Trees). is_there t.forest d) c.log_plain.ensures.trees

pub returns-in-Ok-log_plain-clause-waits : goal.returns-in-Ok-log_plain-clause-waits
returns-in-Ok-log_plain-clause-waits g c =
    le_from (waits_in c.note_all.new.self.trees.forest) (waits_in c.args.self.now.trees.forest)
    (noted_waits c.log_plain.new.self.trees.forest c.note_all.new.self.trees.forest c.note_all.ensures.noted ∙ ap (λ (t : Trees). waits_in t.forest) c.log_plain.ensures.trees)

pub returns-in-Ok-log_plain-clause-noted : goal.returns-in-Ok-log_plain-clause-noted
returns-in-Ok-log_plain-clause-noted g c = λ p.
    noted_places c.log_plain.new.self.trees.forest c.note_all.new.self.trees.forest c.note_all.ensures.noted p ∙ ap (λ (t : Trees). is_to_note_in t.forest p) c.log_plain.ensures.trees

pub returns-in-Ok-log_plain-clause-grew : goal.returns-in-Ok-log_plain-clause-grew
returns-in-Ok-log_plain-clause-grew g c =
    noted_behind g.D.Disk.meaning c.args.self.now c.log_plain.new.self c.note_all.new.self (CkptStart c.args.number) c.in-Ok-log_plain.at
    c.in-Ok-log_plain.ensures.got c.log_plain.ensures.trees c.note_all.ensures.noted c.note_all.ensures.last_node c.note_all.ensures.log

pub returns-in-Ok-log_plain-clause-left : goal.returns-in-Ok-log_plain-clause-left
returns-in-Ok-log_plain-clause-left g c = subst (λ l. HasRoomFor l (commit_sizes c.args.owed)) (sym c.note_all.ensures.log) c.in-Ok-log_plain.ensures.left

pub returns-in_default-clause-same : goal.returns-in_default-clause-same
returns-in_default-clause-same g c = λ undone. grew_none g.D.Disk.meaning c.args.self.now

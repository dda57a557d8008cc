use Rattle.std.proofs.Common.{ℕ, IsSome, sym, subst}
use Rattle.je_order.specs.declared.name.Name.{Name}
use Rattle.record_map.specs.Cells.{value_at}
use Rattle.tree_nodes.specs.Levels.{row_of}
use Rattle.in_tree.specs.Checkpoints.{IsClean}
use Rattle.in_tree.proofs.Checkpoints.{noted_clean}
use Rattle.in_tree.proofs.DueLogging.{logs_image}
use Rattle.in_tree.proofs.writing.log_image.Goals as goal

pub returns-clause-notes : goal.returns-clause-notes
returns-clause-notes g c = c.note_image.ensures.notes

pub returns-clause-grew : goal.returns-clause-grew
returns-clause-grew g c =
    logs_image g.D.Disk.meaning c.args.log.now c.append_image.new.log c.args.tree.now _ c.args.image c.finish_image-image.result c.in_ok-at.at c.finish_image-image.ensures.image
    (c.finish_image-image.ensures.loggable c.requires.loggable) c.finish_image-image.ensures.size c.in_ok-at.ensures.grew c.in_ok-at.ensures.at
    (record { cells = c.note_image.ensures.cells; parts = c.height-height.ensures.parts; noted = c.note_image.ensures.noted; up = c.note_image.ensures.up; exact = c.note_image.ensures.exact; keeps = c.note_image.ensures.tree })

pub returns-clause-clean : goal.returns-clause-clean
returns-clause-clean g c = λ there.
    let level = c.finish_image-image.ensures.level in
    let low = c.finish_image-image.ensures.low in
    subst (λ (k : ℕ). IsClean c.note_image.new.self.levels k c.args.image.low) level
    (subst (λ (x : Name). IsClean c.note_image.new.self.levels c.finish_image-image.result.level x) low
    (let here = subst (λ (x : Name). IsSome (value_at x (row_of c.args.tree.now.levels c.finish_image-image.result.level))) (sym low)
    (subst (λ (k : ℕ). IsSome (value_at c.args.image.low (row_of c.args.tree.now.levels k))) (sym level) there) in
    noted_clean c.args.tree.now.levels c.note_image.new.self.levels c.finish_image-image.result.level c.finish_image-image.result.low c.in_ok-at.at here (c.note_image.ensures.noted here)
    (λ less n is. c.note_image.ensures.cleared n less is)))

use Rattle.tree_nodes.proofs.NoteLaws.{below_next}
use Rattle.tree_nodes.proofs.levels.note_all.Goals as goal

pub loop-level-preserved : goal.loop-level-preserved
loop-level-preserved c = (below_next c.args.levels.now c.loop-level.levels c.note_level.new.levels c.loop-level.level c.note_level.ensures.noted c.loop-level.invariant.0, c.note_level.ensures.parts)

use Rattle.tree_nodes.specs.Levels.{AreParts}
use Rattle.tree_nodes.proofs.NoteLaws.{AreNotedBelow}
use Rattle.tree_nodes.proofs.levels.note_all.Given as goal

abbrev pub invariant-loop-level : goal.invariant-loop-level
invariant-loop-level l = AreNotedBelow l.initial.levels l.levels l.level × AreParts l.levels

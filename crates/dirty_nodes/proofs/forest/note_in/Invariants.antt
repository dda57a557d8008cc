use Rattle.std.proofs.Common.{take}
use Rattle.dirty_nodes.specs.Steps.{AreNotedFor}
use Rattle.dirty_nodes.proofs.forest.note_in.Given as goal

abbrev pub invariant-loop-db : goal.invariant-loop-db
invariant-loop-db l = AreNotedFor (take l.db-index l.dbs) l.initial.forest l.forest

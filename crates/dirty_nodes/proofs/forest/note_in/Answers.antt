use Rattle.dirty_nodes.proofs.NotedTrees.{for_next}
use Rattle.dirty_nodes.proofs.forest.note_in.Goals as goal

pub loop-db-preserved : goal.loop-db-preserved
loop-db-preserved c = for_next c.args.forest.now c.loop-db.forest c.note_one.new.forest c.args.dbs.now c.loop-db.db-index c.loop-db-test.true c.loop-db.invariant c.note_one.ensures

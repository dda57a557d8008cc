use Rattle.dirty_nodes.proofs.Forests.{IsDone, all_since_in}
use Rattle.dirty_nodes.proofs.forest.is_since_in.Given as goal

abbrev pub invariant-loop-db : goal.invariant-loop-db
invariant-loop-db l = IsDone (all_since_in l.since) l.forest.entries l._db-iterator

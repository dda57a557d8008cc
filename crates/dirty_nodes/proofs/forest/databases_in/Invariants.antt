use Rattle.dirty_nodes.proofs.Forests.{IsDone}
use Rattle.dirty_nodes.proofs.NotedTrees.{HasNumber}
use Rattle.dirty_nodes.proofs.forest.databases_in.Given as goal

abbrev pub invariant-loop-db : goal.invariant-loop-db
invariant-loop-db l = IsDone (HasNumber l.dbs.items) l.forest.entries l.db-iterator

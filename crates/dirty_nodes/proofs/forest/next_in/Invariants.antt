use Rattle.dirty_nodes.proofs.Forests.{IsDone}
use Rattle.dirty_nodes.proofs.NextPlaces.{IsFound, NoneBefore}
use Rattle.dirty_nodes.proofs.forest.next_in.Given as goal

abbrev pub invariant-loop-db : goal.invariant-loop-db
invariant-loop-db l = IsDone (NoneBefore l.found) l.forest.entries l.db-iterator × IsFound l.forest l.found

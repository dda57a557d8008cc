use Rattle.std.proofs.Common.{◌≤◌}
use Rattle.dirty_nodes.proofs.Forests.{IsDone, IsMarkOrAmong, all_from_in}
use Rattle.dirty_nodes.proofs.forest.least_mark_in.Given as goal

abbrev pub invariant-loop-db : goal.invariant-loop-db
invariant-loop-db l = (l.least ≤ l.fn.bound) × IsDone (all_from_in l.least) l.forest.entries l._db-iterator × IsMarkOrAmong l.fn.bound l.forest.entries l.least

use Rattle.std.proofs.Common.{◌≡◌, ◌+◌}
use Rattle.std.specs.List.{sum_by}
use Rattle.tree_nodes.specs.Noted.{count_all_due}
use Rattle.dirty_nodes.proofs.forest.count_in.Given as goal

abbrev pub invariant-loop-db : goal.invariant-loop-db
invariant-loop-db l = l.count + sum_by (λ e. count_all_due e.1.levels) l._db-iterator ≡ sum_by (λ e. count_all_due e.1.levels) l.forest.entries

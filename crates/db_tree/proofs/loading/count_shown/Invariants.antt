use Rattle.std.proofs.Common.{◌≤◌}
use Rattle.db_tree.proofs.loading.count_shown.Given as goal

abbrev pub invariant-loop-marked : goal.invariant-loop-marked
invariant-loop-marked l = record {
  few : l.count ≤ l.marked-index;
  end : l.marked-index-end ≤ 128;
}
